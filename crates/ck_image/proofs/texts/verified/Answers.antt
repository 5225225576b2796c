use Rattle.std.proofs.Common.{sym}
use Rattle.std.proofs.lemmas.Result.{err_from_is_err_and}
use Rattle.ck_image.specs.Images.{whole_in}
use Rattle.ck_image.proofs.Told.{line_told, line_refused}
use Rattle.ck_image.proofs.texts.verified.Goals as goal

pub returns-in-Ok : goal.returns-in-Ok
returns-in-Ok c = line_told (whole_in c.args.bytes.now) c.in_ok-summary.summary c.in-Ok.line.items (sym c.in_ok-summary.ensures) c.in-Ok.ensures

pub returns-in_err-summary : goal.returns-in_err-summary
returns-in_err-summary c =
    let p = err_from_is_err_and c.from_residual.result c.from_residual.ensures.1 in
    rw (p.1, p.2) (line_refused c.in_err-summary.field-0.0 (whole_in c.args.bytes.now) (sym c.in_err-summary.ensures))
