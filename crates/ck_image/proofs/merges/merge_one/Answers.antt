use Rattle.std.proofs.Common.{Ok, Err, refl, ap, ◌∙◌}
use Rattle.ck_image.proofs.Both.{fitting, not_fitting}
use Rattle.ck_image.proofs.merges.merge_one.Goals as goal

pub returns-in-Ok-clause-read : goal.returns-in-Ok-clause-read
returns-in-Ok-clause-read c =
    let of = c.in-Ok.ensures in
    fitting c.args.all c.args.next (Ok c.in-Ok.both) c.in-Ok.both refl of.not_adjacent of.from of.to of.items

pub returns-in-Err-NotAdjacent-clause-read : goal.returns-in-Err-NotAdjacent-clause-read
returns-in-Err-NotAdjacent-clause-read c =
    let at = c.in-Err-NotAdjacent in
    not_fitting c.args.all c.args.next c.merge.result at.ends at.begins (at.is ∙ ap (λ why. Err why) at.field-0-is) c.merge.ensures.not_adjacent c.merge.ensures.adjacent
