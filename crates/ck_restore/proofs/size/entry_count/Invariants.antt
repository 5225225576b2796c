use Rattle.std.proofs.Common.{◌≡◌, ◌+◌, length}
use Rattle.ck_model.specs.Table.{keys_after}
use Rattle.ck_restore.specs.Entries.{entry_count}
use Rattle.ck_restore.proofs.size.entry_count.Given as goal

abbrev pub invariant-loop-key : goal.invariant-loop-key
invariant-loop-key g l =
    let t = g.M.Meta.table l.meta in
    entry_count t l.fs ≡ l.count + length (keys_after t l.fs l.after)

abbrev pub decreases-loop-key : goal.decreases-loop-key
decreases-loop-key g l = length (keys_after (g.M.Meta.table l.meta) l.fs l.after)
