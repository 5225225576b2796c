use Rattle.std.proofs.Common.{◌≡◌, ◌≤◌, drop, length}
use Rattle.ck_files.specs.Allocated.{KeepsBusy}
use Rattle.ck_files.specs.Files.{IsOurs}
use Rattle.ck_push.specs.Changes.{changed_all}
use Rattle.ck_files.proofs.MadeLemmas.{MayMake}
use Rattle.ck_files.proofs.changes.apply_all.Given as goal

abbrev pub invariant-loop-item : goal.invariant-loop-item
invariant-loop-item g l = record {
  within : l.item-index ≤ length l.items;
  ours : IsOurs (g.M.Meta.table l.meta);
  may : MayMake (g.M.Meta.table l.meta) l.blocks (drop l.item-index l.items) l.stamp;
  leads : changed_all (g.M.Meta.table l.meta) (drop l.item-index l.items) l.stamp ≡ changed_all (g.M.Meta.table l.initial.meta) l.items l.stamp;
  busy : KeepsBusy l.initial.blocks l.blocks;
}
