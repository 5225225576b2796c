use Rattle.std.proofs.Common.{◌-◌, ◌^◌}
use Rattle.ck_restore.proofs.TidiedLemmas.{TidiedUpTo}
use Rattle.ck_restore.proofs.older.tidy_older.Given as goal

abbrev pub invariant-loop-fs : goal.invariant-loop-fs
invariant-loop-fs g l = TidiedUpTo l.id l.key l.at (g.M.Meta.table l.fn.meta) (g.M.Meta.table l.meta)

abbrev pub decreases-loop-fs : goal.decreases-loop-fs
decreases-loop-fs g l = 2 ^ 32 - l.at
