-- The table of an area without damage is one that a volume may have.
use Rattle.std.proofs.Common.{◌≡◌, ℕ, suc, ◌+◌, ◌<◌, ◌≤◌, lit<, lit≤, List, [], ◌∷◌, length, get_or, Option, Some, None, IfSome, refl, sym, subst, inl, inr, arith}
use Rattle.std.specs.List.{AllByRecursion}
use Rattle.std.specs.Option.{unwrap_or}
use Rattle.std.specs.FinMap.{nat_cmp-IsAntisymmetric}
use Rattle.std.proofs.lemmas.Cmp.{nat_cmp_total}
use mathlib.Core.Bool.{false≢true}
use Rattle.ck_model.specs.declared.key.Key.{Key}
use Rattle.ck_model.specs.declared.held.Held.{Held}
use Rattle.ck_model.specs.declared.checkpoint.Counters.{Counters}
use Rattle.ck_model.specs.declared.checkpoint.Fileset.{Fileset}
use Rattle.ck_model.specs.Key.{entry_cmp_total, entry_cmp_exact}
use Rattle.ck_model.specs.Held.{IsWord, IsEntry, IsCounters, IsFileset}
use Rattle.ck_model.specs.Table.{IsTable, IsSized, record_count}
use Rattle.ck_model.specs.Rules.{IsSound}
use Rattle.ck_model.proofs.SizeLaws.{len-from_entries-le}
use Rattle.ck_record.specs.declared.records.Record.{Record}
use Rattle.ck_record.specs.declared.records.Record.TheVariants.{Free, Counters as CountersRecord, Fileset as FilesetRecord, Entry}
use Rattle.ck_record.specs.Record.{IsRecord}
use Rattle.ck_area.specs.Area.{Blocks, Area, AreSlots, IsReadAs, slot_at, slot_bytes, entries_in, filesets_in, counters_by, counters_in, no_counters, table_of, AreRecords}
use Rattle.ck_area.specs.Damage.{damage}
use Rattle.ck_area.proofs.Fronts.{Among}
use Rattle.ck_area.proofs.SlotsLemmas.{all_fine, entries_fine, filesets_fine, count_fine}
use Rattle.ck_area.proofs.UndamagedLemmas.{entry_among, fileset_among, sound}

all_at : {X : Type 0} (P : X → Type 0) (d : X) (xs : List X) → ((i : ℕ) → i < length xs → P (get_or xs i d)) → AllByRecursion P xs
all_at P d [] at = tt
all_at P d (x ∷ xs) at = (at 0 (omega arith), all_at P d xs (λ i h. at (suc i) (omega (arith, h))))

read_within : (bytes : List ℕ) (x : Option Record) → IsReadAs bytes x → IfSome x IsRecord
read_within bytes None h = tt
read_within bytes (Some v) h = h.1

-- what is read of blocks is within the limits
pub records_of_slots : (blocks : Blocks) (area : Area) → AreSlots blocks area → AreRecords area
records_of_slots blocks area slots = all_at (λ x. IfSome x IsRecord) None area (λ i h. read_within (slot_bytes blocks i) (slot_at area i) (slots.each i h))

-- ---- within the limits

entry_within : (e : (ℕ × Key) × Held) (area : Area) → AreRecords area → Among e (entries_in area) → IsWord e.0.0 × IsEntry e.0.1 e.1
entry_within e [] all h = absurd h
entry_within e (None ∷ area) all h = entry_within e area all.1 h
entry_within e (Some Free ∷ area) all h = entry_within e area all.1 h
entry_within e (Some (CountersRecord c) ∷ area) all h = entry_within e area all.1 h
entry_within e (Some (FilesetRecord id f) ∷ area) all h = entry_within e area all.1 h
entry_within e (Some (Entry fs key held) ∷ area) all h =
    elim h [
      | inl same ↦ subst (λ (x : (ℕ × Key) × Held). IsWord x.0.0 × IsEntry x.0.1 x.1) (sym same) all.0
      | inr rest ↦ entry_within e area all.1 rest
    ]

fileset_within : (e : ℕ × Fileset) (area : Area) → AreRecords area → Among e (filesets_in area) → IsFileset e.0 e.1
fileset_within e [] all h = absurd h
fileset_within e (None ∷ area) all h = fileset_within e area all.1 h
fileset_within e (Some Free ∷ area) all h = fileset_within e area all.1 h
fileset_within e (Some (CountersRecord c) ∷ area) all h = fileset_within e area all.1 h
fileset_within e (Some (Entry fs key held) ∷ area) all h = fileset_within e area all.1 h
fileset_within e (Some (FilesetRecord id f) ∷ area) all h =
    elim h [
      | inl same ↦ subst (λ (x : ℕ × Fileset). IsFileset x.0 x.1) (sym same) all.0
      | inr rest ↦ fileset_within e area all.1 rest
    ]

first_counters : IsCounters no_counters
first_counters = record { some_stamp = lit≤ tt; stamp = lit≤ tt; some_id = lit≤ tt; id = lit< tt; some_number = lit≤ tt; number = lit< tt }

counters_within : (x : Option Record) → IfSome x IsRecord → IsCounters (unwrap_or (counters_by x) no_counters)
counters_within None h = first_counters
counters_within (Some Free) h = first_counters
counters_within (Some (CountersRecord c)) h = h
counters_within (Some (FilesetRecord id f)) h = first_counters
counters_within (Some (Entry fs key held)) h = first_counters

first_within : (area : Area) → AreRecords area → IsCounters (unwrap_or (counters_in area) no_counters)
first_within [] all = first_counters
first_within (x ∷ area) all = counters_within x all.0

-- the table of records within the limits is within its limits, damaged or not
pub table_within : (blocks records : ℕ) (area : Area) → AreRecords area → IsTable (table_of blocks records area)
table_within blocks records area all =
    let c = unwrap_or (counters_in area) no_counters in
    record {
      entries = λ fs key held h. entry_within ((fs, key), held) area all (entry_among c blocks records (entries_in area) (filesets_in area) fs key held h);
      filesets = λ id f h. fileset_within (id, f) area all (fileset_among c blocks records (entries_in area) (filesets_in area) id f h);
      counters = first_within area all;
    }

-- ---- the first slot

counters_first : (blocks records : ℕ) (x : Option Record) (area : Area) → damage blocks records (x ∷ area) ≡ None → x ≡ Some (CountersRecord (unwrap_or (counters_by x) no_counters))
counters_first blocks records None area none = absurd (false≢true (sym (all_fine blocks records (None ∷ area) none).0.fine))
counters_first blocks records (Some Free) area none = absurd (false≢true (sym (all_fine blocks records (Some Free ∷ area) none).0.fine))
counters_first blocks records (Some (CountersRecord c)) area none = refl
counters_first blocks records (Some (FilesetRecord id f)) area none = absurd (false≢true (sym (all_fine blocks records (Some (FilesetRecord id f) ∷ area) none).0.fine))
counters_first blocks records (Some (Entry fs key held)) area none = absurd (false≢true (sym (all_fine blocks records (Some (Entry fs key held) ∷ area) none).0.fine))

-- ---- sound, and of the right size

with_counters_sound : (blocks records : ℕ) (c : Counters) (area : Area) → damage blocks records (Some (CountersRecord c) ∷ area) ≡ None → IsSound (table_of blocks records (Some (CountersRecord c) ∷ area))
with_counters_sound blocks records c area none =
    let all = Some (CountersRecord c) ∷ area in
    let fine = (all_fine blocks records all none).1 in
    sound c blocks records (entries_in area) (filesets_in area)
    (entries_fine blocks records all (Some (CountersRecord c)) [] area fine)
    (filesets_fine blocks records all (Some (CountersRecord c)) [] area fine)

pub undamaged_sound : (blocks records : ℕ) (area : Area) → damage blocks records area ≡ None → IsSound (table_of blocks records area)
undamaged_sound blocks records [] none = sound no_counters blocks records [] [] tt tt
undamaged_sound blocks records (x ∷ area) none =
    let first = counters_first blocks records x area none in
    let c = unwrap_or (counters_by x) no_counters in
    subst (λ y. IsSound (table_of blocks records (y ∷ area))) (sym first)
    (with_counters_sound blocks records c area (subst (λ y. damage blocks records (y ∷ area) ≡ None) first none))

no_more : (blocks records : ℕ) (area : Area) → record_count (table_of blocks records area) ≤ length (entries_in area) + length (filesets_in area)
no_more blocks records area =
    omega (arith, len-from_entries-le entry_cmp_total entry_cmp_exact (entries_in area), len-from_entries-le nat_cmp_total nat_cmp-IsAntisymmetric (filesets_in area))

with_counters_fits : (blocks records : ℕ) (c : Counters) (area : Area) → damage blocks records (Some (CountersRecord c) ∷ area) ≡ None → record_count (table_of blocks records (Some (CountersRecord c) ∷ area)) ≤ records
with_counters_fits blocks records c area none =
    let all = Some (CountersRecord c) ∷ area in
    let counted = count_fine blocks records all (Some (CountersRecord c)) [] area (all_fine blocks records all none).1 in
    omega (arith, counted, no_more blocks records all)

with_counters_few : (blocks records : ℕ) (c : Counters) (area : Area) → damage blocks records (Some (CountersRecord c) ∷ area) ≡ None → length (entries_in area) + length (filesets_in area) ≤ records
with_counters_few blocks records c area none =
    let all = Some (CountersRecord c) ∷ area in
    let counted = count_fine blocks records all (Some (CountersRecord c)) [] area (all_fine blocks records all none).1 in
    omega (arith, counted)

-- no more slots have entries and filesets than the limit says
pub undamaged_few : (blocks records : ℕ) (area : Area) → damage blocks records area ≡ None → length (entries_in area) + length (filesets_in area) ≤ records
undamaged_few blocks records [] none = omega arith
undamaged_few blocks records (x ∷ area) none =
    let first = counters_first blocks records x area none in
    let c = unwrap_or (counters_by x) no_counters in
    subst (λ y. length (entries_in (y ∷ area)) + length (filesets_in (y ∷ area)) ≤ records) (sym first)
    (with_counters_few blocks records c area (subst (λ y. damage blocks records (y ∷ area) ≡ None) first none))

pub undamaged_fits : (blocks records : ℕ) (area : Area) → damage blocks records area ≡ None → record_count (table_of blocks records area) ≤ records
undamaged_fits blocks records [] none = let count = no_more blocks records [] in omega (arith, count)
undamaged_fits blocks records (x ∷ area) none =
    let first = counters_first blocks records x area none in
    let c = unwrap_or (counters_by x) no_counters in
    subst (λ y. record_count (table_of blocks records (y ∷ area)) ≤ records) (sym first)
    (with_counters_fits blocks records c area (subst (λ y. damage blocks records (y ∷ area) ≡ None) first none))

pub undamaged_sized : (blocks records : ℕ) (area : Area) → damage blocks records area ≡ None → blocks ≤ 65536 → records ≤ 262144 → IsSized (table_of blocks records area)
undamaged_sized blocks records area none few small = record { blocks = few; records = small; fits = undamaged_fits blocks records area none }
