use Rattle.std.proofs.Common.{◌≡◌, false, nat_eq, length, ◌∙◌, arith}
use Rattle.std.proofs.lemmas.Bool.Decides.{nat_tests}
use Rattle.ck_actor.proofs.PlaceLemmas.{other_line, none_there}
use Rattle.ck_actor.proofs.place.next_line.Goals as goal

pub loop-at-preserved : goal.loop-at-preserved
loop-at-preserved c =
    let line = c.index-lines-at.result in
    let other : nat_eq line.actor c.args.actor ≡ false = grind (arith, nat_tests, c.if-lines-at.false) in
    other_line c.args.lines.now c.loop-at.at line c.args.actor (omega arith) c.index-lines-at.is other ∙ c.loop-at.invariant

pub returns-clause-own : goal.returns-clause-own
returns-clause-own c = none_there c.args.lines.now (length c.args.lines.now) c.args.actor (omega arith)
