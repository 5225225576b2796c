use Rattle.std.proofs.Common.{◌+◌}
use Rattle.ck_remove.specs.Gone.{left_of}
use Rattle.ck_nodata.specs.StripItem.{unstripped_count, IsStrippedTo}
use Rattle.ck_files.specs.Allocated.{KeepsBusy, IsAllocated}
use Rattle.ck_files.specs.Files.{IsOurs}
use Rattle.ck_files.specs.Worlds.{StandAlike}
use Rattle.ck_files.proofs.removal.drain.Given as goal

abbrev pub invariant-loop : goal.invariant-loop
invariant-loop g l = record {
  alike : StandAlike (g.M.Meta.table l.initial.meta) (g.M.Meta.table l.meta);
  ours : IsOurs (g.M.Meta.table l.meta);
  allocated : IsAllocated (g.M.Meta.table l.meta) l.blocks;
  busy : KeepsBusy l.initial.blocks l.blocks;
  stripped : IsStrippedTo (g.M.Meta.table l.meta) l.stripped;
}

abbrev pub decreases-loop : goal.decreases-loop
decreases-loop g l = left_of (g.M.Meta.table l.meta) + unstripped_count (g.M.Meta.table l.meta)
