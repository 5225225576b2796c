use Rattle.std.proofs.Common.{◌≡◌, ◌≤◌, ◌+◌, vec_len, vec_capacity}
use Rattle.ck_model.specs.Rules.{IsOrderly}
use Rattle.ck_restore.specs.Entries.{entries_from}
use Rattle.ck_restore.specs.Freed.{Gains}
use Rattle.ck_restore.specs.Older.{LeavesOlder, OlderNeeded}
use Rattle.ck_restore.proofs.restored.move_entries.Given as goal

abbrev pub invariant-loop-key : goal.invariant-loop-key
invariant-loop-key g l =
    let t = g.M.Meta.table l.fn.meta in
    let u = g.M.Meta.table l.meta in
    record {
      older : LeavesOlder l.id t u;
      filesets : u.filesets ≡ t.filesets;
      orderly : IsOrderly u;
      needed : OlderNeeded u l.id;
      gains : Gains l.fn.freed.items l.freed.items t u;
      room : vec_len l.freed + entries_from u l.id ≤ vec_capacity l.freed;
      capacity : vec_capacity l.freed ≡ vec_capacity l.fn.freed;
    }

abbrev pub decreases-loop-key : goal.decreases-loop-key
decreases-loop-key g l = entries_from (g.M.Meta.table l.meta) l.id
