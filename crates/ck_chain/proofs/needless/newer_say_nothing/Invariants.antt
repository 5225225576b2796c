use Rattle.std.proofs.Common.{◌≡◌, ◌-◌, ◌^◌}
use Rattle.ck_model.specs.Table.{column, newer}
use Rattle.ck_model.specs.Rules.{first_holder}
use Rattle.ck_chain.proofs.needless.newer_say_nothing.Given as goal

abbrev pub invariant-loop-id : goal.invariant-loop-id
invariant-loop-id g l =
    let t = g.M.Meta.table l.meta in
    first_holder (column t l.key) (newer t l.fs) ≡ first_holder (column t l.key) (newer t l.at)

abbrev pub decreases-loop-id : goal.decreases-loop-id
decreases-loop-id g l = 2 ^ 32 - l.at
