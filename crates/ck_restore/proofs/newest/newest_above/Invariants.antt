use Rattle.std.proofs.Common.{◌-◌, ◌^◌}
use Rattle.ck_restore.proofs.NewestLemmas.{IsReached}
use Rattle.ck_restore.proofs.newest.newest_above.Given as goal

abbrev pub invariant-loop-fs : goal.invariant-loop-fs
invariant-loop-fs g l = IsReached (g.M.Meta.table l.meta) l.id l.at l.found

abbrev pub decreases-loop-fs : goal.decreases-loop-fs
decreases-loop-fs g l = 2 ^ 32 - l.at
