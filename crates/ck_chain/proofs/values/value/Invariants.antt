use Rattle.std.proofs.Common.{◌≡◌, ◌-◌, ◌^◌}
use Rattle.ck_model.specs.Chain.{value_of}
use Rattle.ck_chain.proofs.values.value.Given as goal

abbrev pub invariant-loop-held : goal.invariant-loop-held
invariant-loop-held g l = value_of (g.M.Meta.table l.meta) l.fs l.key ≡ value_of (g.M.Meta.table l.meta) l.at l.key

abbrev pub decreases-loop-held : goal.decreases-loop-held
decreases-loop-held g l = 2 ^ 32 - l.at
