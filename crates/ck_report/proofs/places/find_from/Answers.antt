use Rattle.std.proofs.Common.{◌≡◌, ◌&&◌, true, nat_eq, ◌∙◌, arith}
use Rattle.std.proofs.lemmas.Bool.Decides.{nat_tests}
use Rattle.ck_report.specs.Places.{is_call_of}
use Rattle.ck_report.proofs.CallLemmas.{found_here}
use Rattle.ck_report.proofs.places.find_from.Goals as goal

pub returns-then-line-seq-clause-first : goal.returns-then-line-seq-clause-first
returns-then-line-seq-clause-first c =
    let line = c.index-lines-place.result in
    let is : (nat_eq line.actor c.args.actor && nat_eq line.seq c.args.seq) ≡ true = grind (arith, nat_tests, c.if-line-actor.true, c.if-line-seq.true) in
    found_here (is_call_of c.args.actor c.args.seq) c.args.lines.now c.loop-place.place line c.loop-place-test.true c.index-lines-place.is is ∙ c.loop-place.invariant
