use Rattle.std.proofs.Common.{Ok, Err, refl, ap, ◌∙◌}
use Rattle.ck_image.proofs.Later.{fitting, not_fitting}
use Rattle.ck_image.proofs.images.apply_one.Goals as goal

pub returns-in-Ok-clause-read : goal.returns-in-Ok-clause-read
returns-in-Ok-clause-read c =
    let of = c.in-Ok.ensures in
    fitting c.args.base c.args.changed (Ok c.in-Ok.later) c.in-Ok.later refl of.wrong_base of.right of.id of.items

pub returns-in-Err-WrongBase-clause-read : goal.returns-in-Err-WrongBase-clause-read
returns-in-Err-WrongBase-clause-read c =
    let at = c.in-Err-WrongBase in
    not_fitting c.args.base c.args.changed c.apply.result at.has at.wants (at.is ∙ ap (λ why. Err why) at.field-0-is) c.apply.ensures.wrong_base c.apply.ensures.fits
