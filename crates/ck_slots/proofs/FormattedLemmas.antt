-- The table of a new volume, from the parts of the slots.
use Rattle.std.proofs.Common.{◌≡◌, ℕ, List, [], ap, ◌∙◌}
use Rattle.std.specs.FinMap as map
use Rattle.ck_model.specs.declared.key.Key.TheVariants.{Node}
use Rattle.ck_model.specs.declared.held.Held.TheVariants.{Plain}
use Rattle.ck_model.specs.declared.held.Small.TheVariants.{Dir}
use Rattle.ck_model.specs.declared.checkpoint.Fileset.{Fileset}
use Rattle.ck_model.proofs.PlaceLaws.{from_nothing}
use Rattle.ck_area.specs.Area.{new_table}
use Rattle.ck_slots.specs.declared.entries.Entries.{Entries as Arrangement}
use Rattle.ck_slots.specs.Entries.{entries_in}
use Rattle.ck_slots.specs.Recorded.{filesets_of}
use Rattle.ck_slots.specs.Lawful.{table_of}
use Rattle.ck_slots.proofs.MapLemmas.{same_table}

-- entries that were empty, after the root was put
pub table_of-root : (old new : Arrangement) (files : List (ℕ × Fileset)) (blocks other records : ℕ) → entries_in new ≡ map.insert (entries_in old) (0, Node 0) (Plain 0 Dir) → entries_in old ≡ map.empty → files ≡ [] → blocks ≡ other → new.limit ≡ old.limit → old.limit ≡ records
    → table_of new files (record { stamp = 1; id = 1; number = 1 }) blocks ≡ new_table other records
table_of-root old new files blocks other records put bare none as_many same is =
    same_table (entries_in new) (map.insert map.empty (0, Node 0) (Plain 0 Dir)) (filesets_of files) map.empty _ _ blocks other new.limit records
    (put ∙ ap (λ es. map.insert es (0, Node 0) (Plain 0 Dir)) bare) (ap filesets_of none ∙ from_nothing) (λ i. record { stamp = 1; id = 1; number = 1 }) as_many (same ∙ is)
