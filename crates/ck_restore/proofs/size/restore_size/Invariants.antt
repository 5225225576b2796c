use Rattle.std.proofs.Common.{◌≡◌, ◌+◌, ◌-◌, ◌^◌}
use Rattle.ck_restore.specs.Entries.{entries_from}
use Rattle.ck_restore.proofs.EntriesLemmas.{entries_above}
use Rattle.ck_restore.proofs.size.restore_size.Given as goal

abbrev pub invariant-loop-fs : goal.invariant-loop-fs
invariant-loop-fs g l =
    let t = g.M.Meta.table l.meta in
    entries_from t l.id ≡ l.count + entries_above t l.at

abbrev pub decreases-loop-fs : goal.decreases-loop-fs
decreases-loop-fs g l = 2 ^ 32 - l.at
