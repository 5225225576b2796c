use Rattle.std.proofs.Common.{◌≤◌, drop, length}
use Rattle.ck_data.proofs.PlaceLemmas.{IsGivingBack}
use Rattle.ck_data.proofs.places.give_back_all.Given as goal

abbrev pub invariant-loop-change : goal.invariant-loop-change
invariant-loop-change l = record {
  within : l.change-index ≤ length l.changes;
  giving : IsGivingBack l.initial.blocks l.changes (drop l.change-index l.changes) l.blocks;
}
