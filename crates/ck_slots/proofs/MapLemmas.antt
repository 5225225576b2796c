-- Maps that are built of slots, from the last to the first.
use Rattle.std.proofs.Common.{◌≡◌, ℕ, zero, suc, ◌+◌, ◌-◌, ◌<◌, ◌≤◌, true, List, [], ◌∷◌, ◌++◌, length, drop, drop-cons, get_or, Option, refl, sym, ap, subst, ◌∙◌, length-append, length-drop, arith}
use Rattle.std.specs.Ordering.{nat_cmp}
use Rattle.std.specs.Cmp.{nat_cmp_total}
use Rattle.std.specs.FinMap.{nat_cmp-IsAntisymmetric, is_sorted}
use Rattle.std.specs.FinMap as map
use Rattle.std.proofs.lemmas.List.{nil_from_length}
use Rattle.ck_model.specs.declared.key.Key.{Key}
use Rattle.ck_model.specs.declared.held.Held.{Held}
use Rattle.ck_model.specs.declared.checkpoint.Fileset.{Fileset}
use Rattle.ck_model.specs.declared.checkpoint.Counters.{Counters}
use Rattle.ck_model.specs.Key.{entry_cmp, entry_cmp_total, entry_cmp_exact}
use Rattle.ck_model.specs.Table.{Table, Entries, Filesets}
use Rattle.ck_model.specs.Ordered.{Edits}
use Rattle.ck_model.proofs.SizeLaws.{len-from_entries-le}
use Rattle.ck_model.proofs.PlaceLaws.{len_of, from_nothing}
use Rattle.ck_record.specs.declared.records.Record.{Record}
use Rattle.ck_area.specs.Area.{Area, entries_by, entries_in, filesets_by, filesets_in}
use Rattle.ck_slots.specs.Recorded.{filesets_of}
use Rattle.ck_slots.specs.Maps.{with_entries, with_filesets}

with_entries-append : (es more : List ((ℕ × Key) × Held)) → with_entries es (map.from_entries more) ≡ map.from_entries (es ++ more)
with_entries-append [] more = refl
with_entries-append (e ∷ es) more = ap (λ m. map.insert m e.0 e.1) (with_entries-append es more)

with_filesets-append : (es more : List (ℕ × Fileset)) → with_filesets es (map.from_entries more) ≡ map.from_entries (es ++ more)
with_filesets-append [] more = refl
with_filesets-append (e ∷ es) more = ap (λ m. map.insert m e.0 e.1) (with_filesets-append es more)

none_behind : (area : Area) (at : ℕ) → at ≡ length area → drop at area ≡ []
none_behind area at end = nil_from_length (drop at area) (length-drop at area ∙ omega arith)

pub no_entries : (area : Area) (at : ℕ) → at ≡ length area → map.from_entries {R = entry_cmp} (entries_in (drop at area)) ≡ map.empty
no_entries area at end = ap (λ (a : Area). map.from_entries {R = entry_cmp} (entries_in a)) (none_behind area at end)

pub no_filesets : (area : Area) (at : ℕ) → at ≡ length area → map.from_entries {R = nat_cmp} (filesets_in (drop at area)) ≡ map.empty
no_filesets area at end = ap (λ (a : Area). map.from_entries {R = nat_cmp} (filesets_in a)) (none_behind area at end)

dropped_entries : (area : Area) (at : ℕ) → length (entries_in (drop at area)) ≤ length (entries_in area)
dropped_entries area zero = omega arith
dropped_entries [] (suc at) = omega arith
dropped_entries (x ∷ area) (suc at) = omega (arith, dropped_entries area at, length-append (entries_by x) (entries_in area))

dropped_filesets : (area : Area) (at : ℕ) → length (filesets_in (drop at area)) ≤ length (filesets_in area)
dropped_filesets area zero = omega arith
dropped_filesets [] (suc at) = omega arith
dropped_filesets (x ∷ area) (suc at) = omega (arith, dropped_filesets area at, length-append (filesets_by x) (filesets_in area))

-- one more slot, before those that are done
module _ (area : Area) (at : ℕ) (slot : Option Record) (some : 0 < at) (within : at ≤ length area) (is : slot ≡ get_or area (at - 1) slot) where
  next : suc (at - 1) ≡ at
  next = omega arith

  one_before : drop (at - 1) area ≡ slot ∷ drop at area
  one_before = drop-cons area (at - 1) slot (omega (arith, some, within)) ∙ (λ i. sym is i ∷ drop (next i) area)

  pub entries_before : (m : Entries) → m ≡ map.from_entries (entries_in (drop at area)) → with_entries (entries_by slot) m ≡ map.from_entries (entries_in (drop (at - 1) area))
  entries_before m so_far =
      ap (with_entries (entries_by slot)) so_far ∙ with_entries-append (entries_by slot) (entries_in (drop at area))
      ∙ ap (λ (a : Area). map.from_entries {R = entry_cmp} (entries_in a)) (sym one_before)

  pub filesets_before : (m : Filesets) → m ≡ map.from_entries (filesets_in (drop at area)) → with_filesets (filesets_by slot) m ≡ map.from_entries (filesets_in (drop (at - 1) area))
  filesets_before m so_far =
      ap (with_filesets (filesets_by slot)) so_far ∙ with_filesets-append (filesets_by slot) (filesets_in (drop at area))
      ∙ ap (λ (a : Area). map.from_entries {R = nat_cmp} (filesets_in a)) (sym one_before)

  pub entries_room : (m : Entries) → m ≡ map.from_entries (entries_in (drop at area)) → map.len m + length (entries_by slot) ≤ length (entries_in area)
  entries_room m so_far =
      let one : length (entries_in (drop (at - 1) area)) ≡ length (entries_by slot) + length (entries_in (drop at area)) =
      ap (λ (a : Area). length (entries_in a)) one_before ∙ length-append (entries_by slot) (entries_in (drop at area)) in
      omega (arith, one, dropped_entries area (at - 1), ap map.len so_far, len-from_entries-le entry_cmp_total entry_cmp_exact (entries_in (drop at area)))

  pub filesets_room : (m : Filesets) → m ≡ map.from_entries (filesets_in (drop at area)) → map.len m + length (filesets_by slot) ≤ length (filesets_in area)
  filesets_room m so_far =
      let one : length (filesets_in (drop (at - 1) area)) ≡ length (filesets_by slot) + length (filesets_in (drop at area)) =
      ap (λ (a : Area). length (filesets_in a)) one_before ∙ length-append (filesets_by slot) (filesets_in (drop at area)) in
      omega (arith, one, dropped_filesets area (at - 1), ap map.len so_far, len-from_entries-le nat_cmp_total nat_cmp-IsAntisymmetric (filesets_in (drop at area)))

-- ---- lists of filesets in order

pub edits_same : (es : List (ℕ × Fileset)) → is_sorted nat_cmp es ≡ true → Edits nat_cmp es (filesets_of es)
edits_same es sorted = record { sorted = sorted; means = refl; length = sym (len_of nat_cmp_total nat_cmp-IsAntisymmetric es sorted) }

pub edits_nothing : (es : List (ℕ × Fileset)) (m : Filesets) → es ≡ [] → m ≡ map.empty → Edits nat_cmp es m
edits_nothing es m none empty =
    subst (λ (l : List (ℕ × Fileset)). Edits nat_cmp l m) (sym none)
    (record { sorted = refl; means = from_nothing ∙ sym empty; length = sym (ap map.len empty ∙ map.len-empty nat_cmp Fileset) })

-- a table of equal parts
pub same_table : (es fs : Entries) (gs hs : Filesets) (c d : Counters) (blocks other records limit : ℕ) → es ≡ fs → gs ≡ hs → c ≡ d → blocks ≡ other → records ≡ limit
    → ◌≡◌ {A = Table} (record { entries = es; filesets = gs; counters = c; blocks = blocks; records = records }) (record { entries = fs; filesets = hs; counters = d; blocks = other; records = limit })
same_table es fs gs hs c d blocks other records limit p q r s t i = record { entries = p i; filesets = q i; counters = r i; blocks = s i; records = t i }
