use Rattle.std.proofs.Common.{sym, subst, arith, ◌∙◌, ◌≡◌, Some}
use Rattle.std.proofs.lemmas.Result.{err_from_is_err_and}
use Rattle.ck_script.specs.Parsed.{with_line}
use Rattle.ck_script.specs.Steps.{IsRefusal}
use Rattle.ck_script.proofs.ParsedLemmas.{next_read, next_refused, next_long}
use Rattle.ck_script.proofs.parser.read_text.Goals as goal

pub returns-then-is_long-clause-err : goal.returns-then-is_long-clause-err
returns-then-is_long-clause-err c = next_long c.args.text.now c.args.long c.loop-at.at c.loop-at.number _ _ c.loop-at-test.true (sym c.is_long.ensures ∙ c.if-is_long.true) c.loop-at.invariant.read

pub returns-in_err-read_line-clause-err : goal.returns-in_err-read_line-clause-err
returns-in_err-read_line-clause-err c =
    let p = err_from_is_err_and c.from_residual.result c.from_residual.ensures.1 in
    let refused = subst (λ line. IsRefusal c.loop-at.number (with_line c.loop-at.number c.loop-at.tally line) c.in_err-read_line.field-0.0) c.line_between.ensures c.in_err-read_line.ensures.err in
    rw (p.1, p.2) (next_refused c.args.text.now c.args.long c.loop-at.at c.line_end-end.result c.loop-at.number _ _ _ c.loop-at-test.true c.line_end-end.ensures.end refused c.loop-at.invariant.read)

pub loop-at-preserved : goal.loop-at-preserved
loop-at-preserved c = record {
  read = next_read c.args.text.now c.args.long c.loop-at.at c.line_end-end.result c.loop-at.number _ _ _ c.loop-at-test.true c.line_end-end.ensures.end (sym c.is_long.ensures ∙ c.if-is_long.false)
      (subst (λ line. with_line c.loop-at.number c.loop-at.tally line ≡ Some c.read_line.new.tally) c.line_between.ensures c.in_ok-read_line.ensures.ok) c.loop-at.invariant.read;
  few = omega arith;
}
