use Rattle.std.proofs.Common.{Err, sym, ap, ◌∙◌}
use Rattle.std.proofs.lemmas.Result.{err_from_is_err_and}
use Rattle.ck_image.specs.declared.refusal.Refusal.{Refusal}
use Rattle.ck_image.proofs.Told.{not_all, all, whole_refused}
use Rattle.ck_image.proofs.images.whole.Goals as goal

pub returns-in_err-summary : goal.returns-in_err-summary
returns-in_err-summary c =
    let p = err_from_is_err_and c.from_residual.result c.from_residual.ensures.1 in
    rw (p.1, p.2) (sym (whole_refused c.args.bytes.now c.in_err-summary.field-0.0 (sym c.in_err-summary.ensures)))

pub returns-then-end-bytes : goal.returns-then-end-bytes
returns-then-end-bytes c =
    ap (λ (why : Refusal). Err why) c.not_stream.ensures
    ∙ sym (not_all c.args.bytes.now (c.in_ok-summary.summary, c.in_ok-summary.end) (sym c.in_ok-summary.ensures) c.if-end-bytes.true)

pub returns : goal.returns
returns c = sym (all c.args.bytes.now (c.in_ok-summary.summary, c.in_ok-summary.end) (sym c.in_ok-summary.ensures) c.if-end-bytes.false)
