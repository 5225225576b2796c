use Rattle.std.proofs.Common.{◌≡◌, ◌-◌, ◌^◌}
use Rattle.ck_model.specs.Chain.{is_covered}
use Rattle.ck_chain.proofs.values.is_covered.Given as goal

abbrev pub invariant-loop-fs : goal.invariant-loop-fs
invariant-loop-fs g l = is_covered (g.M.Meta.table l.meta) l.fs l.key ≡ is_covered (g.M.Meta.table l.meta) l.at l.key

abbrev pub decreases-loop-fs : goal.decreases-loop-fs
decreases-loop-fs g l = 2 ^ 32 - l.at
