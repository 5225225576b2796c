use Rattle.std.proofs.Common.{◌≡◌, ◌≤◌, ◌+◌, vec_len, vec_capacity}
use Rattle.std.specs.FinMap as map
use Rattle.ck_model.specs.Rules.{IsOrderly}
use Rattle.ck_restore.specs.Entries.{entries_from}
use Rattle.ck_restore.specs.Freed.{Gains}
use Rattle.ck_restore.specs.Older.{LeavesOlder, OlderNeeded}
use Rattle.ck_restore.proofs.restored.remove_newer.Given as goal

abbrev pub invariant-loop-fs : goal.invariant-loop-fs
invariant-loop-fs g l =
    let t = g.M.Meta.table l.fn.meta in
    let u = g.M.Meta.table l.meta in
    record {
      older : LeavesOlder l.id t u;
      orderly : IsOrderly u;
      needed : OlderNeeded u l.id;
      gains : Gains l.fn.freed.items l.freed.items t u;
      room : vec_len l.freed + entries_from u l.id ≤ vec_capacity l.freed;
      capacity : vec_capacity l.freed ≡ vec_capacity l.fn.freed;
    }

abbrev pub decreases-loop-fs : goal.decreases-loop-fs
decreases-loop-fs g l = map.len (g.M.Meta.table l.meta).filesets
