use Rattle.std.proofs.Common.{◌+◌, ◌≤◌, length}
use Rattle.ck_model.specs.Chain.{live_ids}
use Rattle.ck_nodata.specs.StripItem.{IsStrippedTo}
use Rattle.ck_files.specs.Allocated.{IsAllocated, KeepsBusy}
use Rattle.ck_files.specs.Drained.{IsDrained}
use Rattle.ck_files.specs.Files.{IsOurs}
use Rattle.ck_files.specs.Worlds.{StandsWithout}
use Rattle.ck_files.proofs.RecordLemmas.{Creates}
use Rattle.ck_files.proofs.freeze.free_record.Given as goal

abbrev pub invariant-loop-meta : goal.invariant-loop-meta
invariant-loop-meta g l = record {
  without : StandsWithout l.count (g.M.Meta.table l.fn.meta) (g.M.Meta.table l.meta);
  creates : Creates l.count (g.M.Meta.table l.fn.meta) (g.M.Meta.table l.meta);
  ours : IsOurs (g.M.Meta.table l.meta);
  allocated : IsAllocated (g.M.Meta.table l.meta) l.blocks;
  busy : KeepsBusy l.fn.blocks l.blocks;
  drained : IsDrained (g.M.Meta.table l.meta);
  stripped : IsStrippedTo (g.M.Meta.table l.meta) l.stripped;
  few : l.count + length (live_ids (g.M.Meta.table l.meta)) ≤ 64;
}

abbrev pub decreases-loop-meta : goal.decreases-loop-meta
decreases-loop-meta g l = length (live_ids (g.M.Meta.table l.meta))
