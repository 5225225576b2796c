use Rattle.std.proofs.Common.{◌∙◌, ap, length, length-drop, arith}
use Rattle.ck_io.proofs.BytesLemmas.{gains_taken, appends_more, slice_rest}
use Rattle.ck_io.proofs.ByteLaws.{told_on}
use Rattle.ck_io.proofs.whole.write_all.Goals as goal

pub returns-in_err-written-clause-part : goal.returns-in_err-written-clause-part
returns-in_err-written-clause-part g c = λ told.
    let still = told_on _ _ c.loop-written.invariant.tells told in
    gains_taken c.loop-written.written _ _ _ (c.in_err-written.ensures.appends_nothing still ∙ c.loop-written.invariant.holds told)

pub loop-written-preserved : goal.loop-written-preserved
loop-written-preserved g c = record {
  within = omega (arith, c.in_ok-written.ensures.within, ap length (slice_rest c.loop-written.written c.args.bytes.now), length-drop c.loop-written.written c.args.bytes.now);
  holds = λ told.
      let still = told_on _ _ c.loop-written.invariant.tells told in
      appends_more _ _ _ c.args.bytes.now c.loop-written.written c.in_ok-written.field-0 (c.loop-written.invariant.holds told) (c.in_ok-written.ensures.appends still);
  tells = c.write.ensures.tells ∙ c.loop-written.invariant.tells;
  faults = omega arith;
}
