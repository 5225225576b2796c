-- The first table of a volume, and the area that it is written as.
use Rattle.std.proofs.Common.{◌≡◌, ℕ, ◌≤◌, lit<, lit≤, [], ◌∷◌, length, is_some, refl, sym, ap, subst, ◌∙◌, inl, inr, arith}
use Rattle.std.specs.Ordering.{nat_cmp}
use Rattle.std.specs.FinMap.{put}
use Rattle.std.specs.declared.cmp.Ordering.{Ordering}
use Rattle.std.specs.FinMap as map
use Rattle.std.proofs.lemmas.List.{nil_from_length}
use mathlib.Core.Bool.{false≢true}
use Rattle.ck_model.specs.declared.key.Key.{Key}
use Rattle.ck_model.specs.declared.key.Key.TheVariants.{Node}
use Rattle.ck_model.specs.declared.held.Held.{Held}
use Rattle.ck_model.specs.declared.held.Held.TheVariants.{Plain}
use Rattle.ck_model.specs.declared.held.Small.TheVariants.{Dir}
use Rattle.ck_model.specs.declared.checkpoint.Counters.{Counters}
use Rattle.ck_model.specs.Key.{entry_cmp, entry_cmp_total}
use Rattle.ck_model.specs.Held.{IsWord, IsEntry}
use Rattle.ck_model.specs.Table.{IsTable, IsSized, record_count}
use Rattle.ck_model.specs.Rules.{IsSound}
use Rattle.ck_area.specs.Area.{new_table}
use Rattle.ck_area.proofs.Fronts.{Among}
use Rattle.ck_area.proofs.UndamagedLemmas.{entry_among, sound}

abbrev first : Counters
first = record { stamp = 1; id = 1; number = 1 }

abbrev root : (ℕ × Key) × Held
root = ((0, Node 0), Plain 0 Dir)

no_entries : {K X : Type 0} (R : K → K → Ordering) → map.entries (map.empty {X = X} {R = R}) ≡ []
no_entries {X = X} R = nil_from_length (map.entries (map.empty {X = X} {R = R})) (sym (map.len-entries (map.empty {X = X} {R = R})) ∙ map.len-empty R X)

module _ (blocks records : ℕ) where
  pub new_entries : map.entries (new_table blocks records).entries ≡ root ∷ []
  new_entries = map.entries-insert entry_cmp_total map.empty (0, Node 0) (Plain 0 Dir) ∙ ap (put entry_cmp (0, Node 0) (Plain 0 Dir)) (no_entries entry_cmp)

  pub new_filesets : map.entries (new_table blocks records).filesets ≡ []
  new_filesets = no_entries nat_cmp

  root_within : IsWord 0 × IsEntry (Node 0) (Plain 0 Dir)
  root_within = (lit< tt, record { place = lit< tt; value = lit< tt })

  only_root : (fs : ℕ) (key : Key) (held : Held) → Among ((fs, key), held) (root ∷ []) → IsWord fs × IsEntry key held
  only_root fs key held h =
      elim h [
        | inl same ↦ subst (λ (x : (ℕ × Key) × Held). IsWord x.0.0 × IsEntry x.0.1 x.1) (sym same) root_within
        | inr rest ↦ absurd rest
      ]

  pub new_table_within : IsTable (new_table blocks records)
  new_table_within = record {
    entries = λ fs key held h. only_root fs key held (entry_among first blocks records (root ∷ []) [] fs key held h);
    filesets = λ id f h. absurd (false≢true (ap is_some (sym (map.get-empty nat_cmp id) ∙ h)));
    counters = record { some_stamp = lit≤ tt; stamp = lit≤ tt; some_id = lit≤ tt; id = lit< tt; some_number = lit≤ tt; number = lit< tt };
  }

  pub new_table_sound : IsSound (new_table blocks records)
  new_table_sound = sound first blocks records (root ∷ []) [] ((refl, refl), tt) tt

  pub new_count : record_count (new_table blocks records) ≡ 1
  new_count =
      let one = map.len-entries (new_table blocks records).entries ∙ ap length new_entries in
      let none = map.len-entries (new_table blocks records).filesets ∙ ap length new_filesets in
      omega (arith, one, none)

  pub new_table_sized : blocks ≤ 65536 → records ≤ 262144 → 1 ≤ records → IsSized (new_table blocks records)
  new_table_sized few small some = record { blocks = few; records = small; fits = let count = new_count in omega (arith, count, some) }
