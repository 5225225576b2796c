use Rattle.std.proofs.Common.{◌≡◌, ◌+◌, ◌-◌, ◌^◌}
use Rattle.ck_model.specs.Table.{newer}
use Rattle.ck_remove.specs.Gone.{left_in, left_of}
use Rattle.ck_remove.proofs.gone.left.Given as goal

abbrev pub invariant-loop-id : goal.invariant-loop-id
invariant-loop-id g l =
    let t = g.M.Meta.table l.meta in
    left_of t ≡ l.count + left_in t (newer t l.at)

abbrev pub decreases-loop-id : goal.decreases-loop-id
decreases-loop-id g l = 2 ^ 32 - l.at
