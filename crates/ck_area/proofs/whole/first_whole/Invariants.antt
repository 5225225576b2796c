use Rattle.std.proofs.Common.{◌≡◌, ℕ, ◌<◌, false, List}
use Rattle.ck_model.specs.declared.checkpoint.Fileset.{Fileset}
use Rattle.ck_model.specs.Table.{Table}
use Rattle.ck_area.specs.Area.{slot_at}
use Rattle.ck_area.specs.Known.{Knows}
use Rattle.ck_area.specs.Split.{breaks_table}
use Rattle.ck_area.proofs.whole.first_whole.Given as goal

abbrev pub invariant-loop-at : goal.invariant-loop-at
invariant-loop-at l = (t : Table) (filesets : List (ℕ × Fileset)) → Knows t filesets l.known → (k : ℕ) → k < l.at → breaks_table t filesets (slot_at l.area k) ≡ false
