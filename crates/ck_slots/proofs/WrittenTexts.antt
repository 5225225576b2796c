-- A table in blocks: each slot has the spelling of its record.
use Rattle.std.proofs.Common.{◌≡◌, ◌≢◌, All, append-nil, ℕ, zero, suc, ◌+◌, ◌-◌, ◌*◌, ◌/◌, ◌%◌, ◌<◌, ◌≤◌, List, [], ◌∷◌, ◌++◌, map as list_map, length, get_or, take, drop, Some, None, IfSome, refl, sym, ap, subst, ◌∙◌, arith}
use Rattle.std.specs.Prelude.{replicate}
use Rattle.std.specs.List.{AllByRecursion, slice_get}
use Rattle.std.specs.FinMap as map
use Rattle.std.proofs.lemmas.List.{get_or-replicate, get_or-append-add, length-map, length-replicate, take_at, drop_at, drop-drop}
use Rattle.ck_model.specs.declared.key.Key.{Key}
use Rattle.ck_model.specs.declared.held.Held.{Held}
use Rattle.ck_model.specs.declared.checkpoint.Fileset.{Fileset}
use Rattle.ck_model.specs.Table.{Table, IsTable, IsSized, record_count}
use Rattle.ck_record.specs.declared.records.Record.{Record}
use Rattle.ck_record.specs.declared.records.Record.TheVariants.{Free, Counters as CountersRecord, Fileset as FilesetRecord, Entry}
use Rattle.ck_record.specs.Record.{IsRecord, spelling}
use Rattle.ck_record.proofs.LengthLaws.{long_spelling}
use Rattle.ck_area.specs.Area.{Blocks, AreSlots, IsReadAs, slot_at, slot_bytes, records_of, written_as}
use Rattle.ck_area.proofs.WrittenLaws.{count_written, length_written, written_within}
use Rattle.ck_slots.specs.Written.{record_in, AreSpelled}
use Rattle.ck_slots.proofs.TableLemmas.{some_same, none_some}

-- ---- the record in a slot

padded : (xs : List Record) (n k : ℕ) → k < length xs + n → get_or (list_map (λ value. Some value) xs ++ replicate n (Some Free)) k None ≡ Some (get_or xs k Free)
padded [] n k h = get_or-replicate n k (Some Free) None (omega (arith, h))
padded (x ∷ xs) n zero h = refl
padded (x ∷ xs) n (suc k) h = padded xs n k (omega (arith, h))

pub slot_written : (slots : ℕ) (t : Table) (slot : ℕ) → slot < slots → 1 + record_count t ≤ slots → slot_at (written_as slots t) slot ≡ Some (record_in t slot)
slot_written slots t slot within room =
    padded (CountersRecord t.counters ∷ records_of t) (slots - (1 + length (records_of t))) slot (omega (arith, within, room, count_written t))

within_at : (xs : List Record) (n k : ℕ) → AllByRecursion (λ x. IfSome x IsRecord) (list_map (λ value. Some value) xs ++ replicate n (Some Free)) → IsRecord (get_or xs k Free)
within_at [] n k all = tt
within_at (x ∷ xs) n zero all = all.0
within_at (x ∷ xs) n (suc k) all = within_at xs n k all.1

pub record_within : (t : Table) → IsTable t → (slot : ℕ) → IsRecord (record_in t slot)
record_within t lawful slot = within_at (CountersRecord t.counters ∷ records_of t) (0 - (1 + length (records_of t))) slot (written_within 0 t lawful)

-- free slots are within the limits
pub all_free : (n : ℕ) → All IsRecord (replicate n Free)
all_free n k d within = subst IsRecord (sym (get_or-replicate n k Free d (omega (arith, within, length-replicate n Free)))) tt

-- ---- the record in a slot, by its part of the table

mapped_at : {X : Type 0} (make : X → Record) (es : List X) (more : List Record) (at : ℕ) (e : X) → slice_get es at ≡ Some e → get_or (list_map make es ++ more) at Free ≡ make e
mapped_at make [] more at e h = absurd (none_some e h)
mapped_at make (x ∷ es) more zero e h = ap make (some_same x e h)
mapped_at make (x ∷ es) more (suc at) e h = mapped_at make es more at e h

past_all : (xs : List Record) (at : ℕ) → length xs ≤ at → get_or xs at Free ≡ Free
past_all [] at h = refl
past_all (x ∷ xs) zero h = absurd (omega (arith, h))
past_all (x ∷ xs) (suc at) h = past_all xs at (omega (arith, h))

module _ (t : Table) where
  abbrev filesets_first : List Record
  filesets_first = list_map (λ (e : ℕ × Fileset). FilesetRecord e.0 e.1) (map.entries t.filesets)

  abbrev entries_then : List Record
  entries_then = list_map (λ (e : (ℕ × Key) × Held). Entry e.0.0 e.0.1 e.1) (map.entries t.entries)

  pub fileset_slot : (slot : ℕ) (e : ℕ × Fileset) → slot ≢ 0 → slice_get (map.entries t.filesets) (slot - 1) ≡ Some e → FilesetRecord e.0 e.1 ≡ record_in t slot
  fileset_slot slot e some there =
      let back : suc (slot - 1) ≡ slot = omega (arith, some) in
      sym (mapped_at (λ (e : ℕ × Fileset). FilesetRecord e.0 e.1) (map.entries t.filesets) entries_then (slot - 1) e there) ∙ ap (record_in t) back

  pub entry_slot : (slot count : ℕ) (e : (ℕ × Key) × Held) → slot ≢ 0 → count ≡ map.len t.filesets → count ≤ slot - 1 → slice_get (map.entries t.entries) (slot - 1 - count) ≡ Some e → Entry e.0.0 e.0.1 e.1 ≡ record_in t slot
  entry_slot slot count e some is behind there =
      let long : length filesets_first ≡ map.len t.filesets = length-map (map.entries t.filesets) (λ (e : ℕ × Fileset). FilesetRecord e.0 e.1) ∙ sym (map.len-entries t.filesets) in
      let back : suc (length filesets_first + (slot - 1 - count)) ≡ slot = omega (arith, some, is, behind, long) in
      sym (ap (λ xs. get_or xs (slot - 1 - count) Free) (sym (append-nil entries_then)) ∙ mapped_at (λ (e : (ℕ × Key) × Held). Entry e.0.0 e.0.1 e.1) (map.entries t.entries) [] (slot - 1 - count) e there)
      ∙ sym (get_or-append-add filesets_first entries_then (slot - 1 - count) Free) ∙ ap (record_in t) back

  pub free_slot : (slot : ℕ) → 1 + record_count t ≤ slot → Free ≡ record_in t slot
  free_slot slot behind = sym (past_all (CountersRecord t.counters ∷ records_of t) slot (omega (arith, behind, count_written t)))

-- ---- from blocks to slots

pub room_for : (t : Table) (records : ℕ) → IsSized t → t.records ≡ records → 1 + record_count t ≤ 32 * ((records + 32) / 32)
room_for t records sized same = omega (arith, sized.fits, same)

pub spelled_slots : (n : ℕ) (t : Table) (blocks : Blocks) → IsTable t → 1 + record_count t ≤ 32 * n → length blocks ≡ n → AreSpelled t blocks → AreSlots blocks (written_as (32 * n) t)
spelled_slots n t blocks lawful room long spelled =
    let count = length_written (32 * n) t room in
    record {
      count = count ∙ ap (λ k. 32 * k) (sym long);
      each = λ slot low.
          let within : slot < 32 * n = omega (arith, low, count) in
          let there = spelled (slot / 32) (omega (arith, within, long)) (slot % 32) (omega arith) in
          subst (IsReadAs (slot_bytes blocks slot)) (sym (slot_written (32 * n) t slot within room))
          (sym (there ∙ ap (λ k. spelling (record_in t k)) (omega arith)), record_within t lawful slot);
    }

-- ---- such blocks there are

abbrev spelled_from : (ℕ → Record) → ℕ → ℕ → List ℕ
spelled_from f from zero = []
spelled_from f from (suc n) = spelling (f from) ++ spelled_from f (suc from) n

abbrev blocks_from : (ℕ → Record) → ℕ → ℕ → Blocks
blocks_from f from zero = []
blocks_from f from (suc n) = spelled_from f from 32 ∷ blocks_from f (from + 32) n

length-blocks_from : (f : ℕ → Record) (from n : ℕ) → length (blocks_from f from n) ≡ n
length-blocks_from f from zero = refl
length-blocks_from f from (suc n) = ap suc (length-blocks_from f (from + 32) n)

module _ (f : ℕ → Record) (long : (k : ℕ) → length (spelling (f k)) ≡ 128) where
  spelled_there : (from n place : ℕ) → place < n → take 128 (drop (128 * place) (spelled_from f from n)) ≡ spelling (f (from + place))
  spelled_there from zero place h = absurd (omega (arith, h))
  spelled_there from (suc n) zero h = take_at (spelling (f from)) (spelled_from f (suc from) n) 128 (long from) ∙ ap (λ k. spelling (f k)) (omega arith)
  spelled_there from (suc n) (suc place) h =
      let text = spelled_from f from (suc n) in
      let step : drop (128 * suc place) text ≡ drop (128 * place) (spelled_from f (suc from) n) =
      ap (λ k. drop k text) (omega arith) ∙ sym (drop-drop (128 * place) 128 text)
      ∙ ap (drop (128 * place)) (drop_at (spelling (f from)) (spelled_from f (suc from) n) 128 (long from)) in
      ap (take 128) step ∙ spelled_there (suc from) n place (omega (arith, h)) ∙ ap (λ k. spelling (f k)) (omega arith)

  block_there : (from n at : ℕ) → at < n → get_or (blocks_from f from n) at [] ≡ spelled_from f (from + 32 * at) 32
  block_there from zero at h = absurd (omega (arith, h))
  block_there from (suc n) zero h = ap (λ k. spelled_from f k 32) (omega arith)
  block_there from (suc n) (suc at) h = block_there (from + 32) n at (omega (arith, h)) ∙ ap (λ k. spelled_from f k 32) (omega arith)

abbrev pub blocks_of : Table → ℕ → Blocks
blocks_of t n = blocks_from (record_in t) 0 n

pub blocks_of-slots : (n : ℕ) (t : Table) → IsTable t → 1 + record_count t ≤ 32 * n → AreSlots (blocks_of t n) (written_as (32 * n) t)
blocks_of-slots n t lawful room =
    let long : (k : ℕ) → length (spelling (record_in t k)) ≡ 128 = λ k. long_spelling (record_in t k) (record_within t lawful k) in
    let count = length-blocks_from (record_in t) 0 n in
    spelled_slots n t (blocks_of t n) lawful room count (λ at low place within.
    ap (λ b. take 128 (drop (128 * place) b)) (block_there (record_in t) long 0 n at (omega (arith, low, count)))
    ∙ spelled_there (record_in t) long (0 + 32 * at) 32 place within ∙ ap (λ k. spelling (record_in t k)) (omega arith))
