use Rattle.std.proofs.Common.{◌≡◌, ◌-◌, ◌^◌, find}
use Rattle.ck_model.specs.Table.{newer}
use Rattle.ck_model.specs.World.{keeps_files}
use Rattle.ck_reclaim.specs.Removable.{may_leave, oldest_of}
use Rattle.ck_reclaim.proofs.removable.oldest_of.Given as goal

abbrev pub invariant-loop-id : goal.invariant-loop-id
invariant-loop-id g l =
    let t = g.M.Meta.table l.meta in
    oldest_of t (keeps_files l.kind) ≡ find (may_leave t (keeps_files l.kind)) (newer t l.at)

abbrev pub decreases-loop-id : goal.decreases-loop-id
decreases-loop-id g l = 2 ^ 32 - l.at
