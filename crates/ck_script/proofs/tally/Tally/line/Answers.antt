use Rattle.std.proofs.Common.{arith}
use Rattle.ck_script.proofs.TallyLemmas.{count_few}
use Rattle.ck_script.proofs.tally.Tally.line.Goals as goal

pub overflow_add-result : goal.overflow_add-result
overflow_add-result c =
    let inside = c.self.inside in
    omega (arith, count_few inside.lines.items inside.asked inside.streams inside.counts c.args.actor c.self.invariant c.requires)
