use Rattle.std.proofs.Common.{Err, sym, ap, ◌∙◌}
use Rattle.ck_image.specs.declared.refusal.Refusal.{Refusal}
use Rattle.ck_image.proofs.Told.{is_seen, has_fault}
use Rattle.ck_image.proofs.images.summary_of.Goals as goal

pub returns-in-Ok : goal.returns-in-Ok
returns-in-Ok c = sym (is_seen c.args.bytes.now c.in-Ok.read (sym c.in-Ok.ensures.exact))

pub returns-in-Err : goal.returns-in-Err
returns-in-Err c =
    ap (λ (why : Refusal). Err why) c.refused.ensures ∙ sym (has_fault c.args.bytes.now c.in-Err.fault (sym c.in-Err.ensures.exact))
