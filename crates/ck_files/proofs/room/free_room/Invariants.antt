use Rattle.std.proofs.Common.{◌+◌, ◌≤◌, IfOk, IfErr, length}
use Rattle.ck_model.specs.Chain.{live_ids}
use Rattle.ck_nodata.specs.StripItem.{IsStrippedTo}
use Rattle.ck_files.specs.Allocated.{KeepsBusy}
use Rattle.ck_files.specs.Files.{AreFiles}
use Rattle.ck_files.specs.Room.{HasRoom, IsLacking}
use Rattle.ck_files.specs.Worlds.{StandsWithout}
use Rattle.ck_files.proofs.GivenLemmas.{ComesTo}
use Rattle.ck_files.proofs.room.free_room.Given as goal

abbrev pub invariant-loop-meta : goal.invariant-loop-meta
invariant-loop-meta g l = record {
  without : StandsWithout l.count (g.M.Meta.table l.fn.meta) (g.M.Meta.table l.meta);
  given : ComesTo l.count (g.M.Meta.table l.fn.meta) (g.M.Meta.table l.meta) l.changes;
  files : AreFiles l.limits (g.M.Meta.table l.meta) l.blocks;
  busy : KeepsBusy l.fn.blocks l.blocks;
  fits : IfOk l.answer (HasRoom (g.M.Meta.table l.meta) l.changes);
  lack : IfErr l.answer (IsLacking (g.M.Meta.table l.meta) l.changes);
  stripped : IsStrippedTo (g.M.Meta.table l.meta) l.stripped;
  few : l.count + length (live_ids (g.M.Meta.table l.meta)) ≤ 64;
}

abbrev pub decreases-loop-meta : goal.decreases-loop-meta
decreases-loop-meta g l = length (live_ids (g.M.Meta.table l.meta))
