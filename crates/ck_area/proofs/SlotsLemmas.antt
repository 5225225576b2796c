-- What the slots of an area without damage keep, and the entries and filesets in them.
use Rattle.std.proofs.Common.{◌≡◌, ℕ, suc, ◌+◌, ◌-◌, ◌≤◌, Bool, true, false, ◌&&◌, ◌||◌, nat_lt, List, [], ◌∷◌, ◌++◌, length, take, Option, Some, None, IsSome, is_some, if◌then◌else◌, refl, sym, ap, subst, ◌∙◌, append_assoc, append-nil, length-append, arith}
use Rattle.std.specs.List.{AllByRecursion}
use Rattle.std.proofs.lemmas.Bool.Decides.{nat_tests}
use Rattle.std.proofs.Math.Seq.{get_or-append_seam, take-append_seam}
use mathlib.Core.Bool.{false≢true}
use Rattle.ck_model.specs.declared.key.Key.{Key}
use Rattle.ck_model.specs.declared.held.Held.{Held}
use Rattle.ck_model.specs.declared.checkpoint.Counters.{Counters}
use Rattle.ck_model.specs.declared.checkpoint.Fileset.{Fileset}
use Rattle.ck_model.specs.Table.{Table}
use Rattle.ck_record.specs.declared.records.Record.{Record}
use Rattle.ck_record.specs.declared.records.Record.TheVariants.{Free, Counters as CountersRecord, Fileset as FilesetRecord, Entry}
use Rattle.ck_area.specs.Area.{Area, slot_at, entries_by, filesets_by, entries_in, filesets_in, counters_in, table_of}
use Rattle.ck_area.specs.Damage.{breaks_fileset, breaks_lower, breaks_whole, breaks_slot, breaks, damaged_from, damage}
use Rattle.ck_area.proofs.Fronts.{Each, neither}

-- ---- entries and filesets of areas joined

pub entries_in-append : (a b : Area) → entries_in (a ++ b) ≡ entries_in a ++ entries_in b
entries_in-append [] b = refl
entries_in-append (x ∷ a) b = ap (λ l. entries_by x ++ l) (entries_in-append a b) ∙ sym (append_assoc (entries_by x) (entries_in a) (entries_in b))

pub filesets_in-append : (a b : Area) → filesets_in (a ++ b) ≡ filesets_in a ++ filesets_in b
filesets_in-append [] b = refl
filesets_in-append (x ∷ a) b = ap (λ l. filesets_by x ++ l) (filesets_in-append a b) ∙ sym (append_assoc (filesets_by x) (filesets_in a) (filesets_in b))

pub entries_in-more : (front : Area) (x : Option Record) → entries_in (front ++ x ∷ []) ≡ entries_in front ++ entries_by x
entries_in-more front x = entries_in-append front (x ∷ []) ∙ ap (λ l. entries_in front ++ l) (append-nil (entries_by x))

pub filesets_in-more : (front : Area) (x : Option Record) → filesets_in (front ++ x ∷ []) ≡ filesets_in front ++ filesets_by x
filesets_in-more front x = filesets_in-append front (x ∷ []) ∙ ap (λ l. filesets_in front ++ l) (append-nil (filesets_by x))

-- ---- what one slot, entry or fileset keeps

-- a slot behind these breaks no rule
pub record IsFine (blocks records : ℕ) (area front : Area) (x : Option Record) : Type 0 where
  pub fine : breaks_slot blocks records area (length front) x ≡ false
  pub before : take (length front) area ≡ front

abbrev pub EntryFine : Option Counters → ℕ → Table → List (ℕ × Fileset) → List ((ℕ × Key) × Held) → (ℕ × Key) × Held → Type 0
EntryFine counters blocks t filesets before e =
    (breaks_lower counters blocks before e.0.0 e.0.1 e.1 ≡ false) × (breaks_whole t filesets e.0.0 e.0.1 e.1 ≡ false)

abbrev pub FilesetFine : Option Counters → List (ℕ × Fileset) → ℕ × Fileset → Type 0
FilesetFine counters before e = breaks_fileset counters before e.0 e.1 ≡ false

-- it breaks none where these stand before it
abbrev pub IsFineWhere : ℕ → ℕ → Area → Area → Option Record → Type 0
IsFineWhere blocks records area front x = take (length front) area ≡ front → breaks_slot blocks records area (length front) x ≡ false

-- ---- no damage is that each slot is fine

one_more : (front : Area) (x : Option Record) → length (front ++ x ∷ []) ≡ suc (length front)
one_more front x = length-append front (x ∷ []) ∙ omega arith

module _ (blocks records : ℕ) (area : Area) where
  fine_from : (front rest : Area) → area ≡ front ++ rest → damaged_from blocks records area (length front) (length rest) ≡ None → Each (IsFine blocks records area) front rest
  fine_from front [] same none = tt
  fine_from front (x ∷ rest) same none =
      let here : slot_at area (length front) ≡ x = ap (λ (a : Area). slot_at a (length front)) same ∙ get_or-append_seam front x rest None in
      let before : take (length front) area ≡ front = ap (take (length front)) same ∙ take-append_seam front (x ∷ rest) in
      elim (breaks blocks records area (length front)) as (λ b. breaks blocks records area (length front) ≡ b
      → (if b then Some (length front) else damaged_from blocks records area (suc (length front)) (length rest)) ≡ None → Each (IsFine blocks records area) front (x ∷ rest)) [
        | true ↦ λ _ clash. absurd (false≢true (ap is_some (sym clash)))
        | false ↦ λ kept none. (
          record { fine = ap (breaks_slot blocks records area (length front)) (sym here) ∙ kept; before = before },
          fine_from (front ++ x ∷ []) rest (same ∙ sym (append_assoc front (x ∷ []) rest))
              (ap (λ n. damaged_from blocks records area n (length rest)) (one_more front x) ∙ none),
        )
      ] refl none

  pub all_fine : damage blocks records area ≡ None → Each (IsFine blocks records area) [] area
  all_fine none = fine_from [] area refl none

  undamaged_from : (front rest : Area) → area ≡ front ++ rest → Each (IsFineWhere blocks records area) front rest → damaged_from blocks records area (length front) (length rest) ≡ None
  undamaged_from front [] same all = refl
  undamaged_from front (x ∷ rest) same all =
      let here : slot_at area (length front) ≡ x = ap (λ (a : Area). slot_at a (length front)) same ∙ get_or-append_seam front x rest None in
      let kept : breaks blocks records area (length front) ≡ false = ap (breaks_slot blocks records area (length front)) here ∙ all.0 (ap (take (length front)) same ∙ take-append_seam front (x ∷ rest)) in
      ap (λ b. if b then Some (length front) else damaged_from blocks records area (suc (length front)) (length rest)) kept
      ∙ ap (λ n. damaged_from blocks records area n (length rest)) (sym (one_more front x))
      ∙ undamaged_from (front ++ x ∷ []) rest (same ∙ sym (append_assoc front (x ∷ []) rest)) all.1

  pub no_damage : Each (IsFineWhere blocks records area) [] area → damage blocks records area ≡ None
  no_damage all = undamaged_from [] area refl all

  -- ---- the slots but the first

  within_limit : (n : ℕ) (b : Bool) → (nat_lt records n && true || b) ≡ false → n ≤ records
  within_limit n b h =
      let first = neither (nat_lt records n && true) b h in
      let past = first.0 in
      grind (arith, nat_tests)

  -- an entry that is fine as a slot is
  entry_fine : (y : Option Record) (front : Area) (fs : ℕ) (key : Key) (held : Held) → IsFine blocks records area (y ∷ front) (Some (Entry fs key held))
      → EntryFine (counters_in area) blocks (table_of blocks records area) (filesets_in area) (entries_in (y ∷ front)) ((fs, key), held)
  entry_fine y front fs key held is =
      let rules = neither _ _ (neither _ _ is.fine).1 in
      (ap (λ (l : Area). breaks_lower (counters_in area) blocks (entries_in l) fs key held) (sym is.before) ∙ rules.0, rules.1)

  fileset_fine : (y : Option Record) (front : Area) (id : ℕ) (fileset : Fileset) → IsFine blocks records area (y ∷ front) (Some (FilesetRecord id fileset))
      → FilesetFine (counters_in area) (filesets_in (y ∷ front)) (id, fileset)
  fileset_fine y front id fileset is =
      ap (λ (l : Area). breaks_fileset (counters_in area) (filesets_in l) id fileset) (sym is.before) ∙ (neither _ _ is.fine).1

  abbrev Entries : List ((ℕ × Key) × Held) → List ((ℕ × Key) × Held) → Type 0
  Entries = Each (EntryFine (counters_in area) blocks (table_of blocks records area) (filesets_in area))

  abbrev Filesets : List (ℕ × Fileset) → List (ℕ × Fileset) → Type 0
  Filesets = Each (FilesetFine (counters_in area))

  pub entries_fine : (y : Option Record) (front rest : Area) → Each (IsFine blocks records area) (y ∷ front) rest → Entries (entries_in (y ∷ front)) (entries_in rest)
  entries_fine y front [] all = tt
  entries_fine y front (None ∷ rest) all = absurd (false≢true (sym all.0.fine))
  entries_fine y front (Some Free ∷ rest) all =
      subst (λ l. Entries l (entries_in rest)) (entries_in-more (y ∷ front) (Some Free) ∙ append-nil (entries_in (y ∷ front))) (entries_fine y (front ++ Some Free ∷ []) rest all.1)
  entries_fine y front (Some (CountersRecord c) ∷ rest) all =
      subst (λ l. Entries l (entries_in rest)) (entries_in-more (y ∷ front) (Some (CountersRecord c)) ∙ append-nil (entries_in (y ∷ front))) (entries_fine y (front ++ Some (CountersRecord c) ∷ []) rest all.1)
  entries_fine y front (Some (FilesetRecord id f) ∷ rest) all =
      subst (λ l. Entries l (entries_in rest)) (entries_in-more (y ∷ front) (Some (FilesetRecord id f)) ∙ append-nil (entries_in (y ∷ front))) (entries_fine y (front ++ Some (FilesetRecord id f) ∷ []) rest all.1)
  entries_fine y front (Some (Entry fs key held) ∷ rest) all = (
    entry_fine y front fs key held all.0,
    subst (λ l. Entries l (entries_in rest)) (entries_in-more (y ∷ front) (Some (Entry fs key held))) (entries_fine y (front ++ Some (Entry fs key held) ∷ []) rest all.1),
  )

  pub filesets_fine : (y : Option Record) (front rest : Area) → Each (IsFine blocks records area) (y ∷ front) rest → Filesets (filesets_in (y ∷ front)) (filesets_in rest)
  filesets_fine y front [] all = tt
  filesets_fine y front (None ∷ rest) all = absurd (false≢true (sym all.0.fine))
  filesets_fine y front (Some Free ∷ rest) all =
      subst (λ l. Filesets l (filesets_in rest)) (filesets_in-more (y ∷ front) (Some Free) ∙ append-nil (filesets_in (y ∷ front))) (filesets_fine y (front ++ Some Free ∷ []) rest all.1)
  filesets_fine y front (Some (CountersRecord c) ∷ rest) all =
      subst (λ l. Filesets l (filesets_in rest)) (filesets_in-more (y ∷ front) (Some (CountersRecord c)) ∙ append-nil (filesets_in (y ∷ front))) (filesets_fine y (front ++ Some (CountersRecord c) ∷ []) rest all.1)
  filesets_fine y front (Some (FilesetRecord id f) ∷ rest) all = (
    fileset_fine y front id f all.0,
    subst (λ l. Filesets l (filesets_in rest)) (filesets_in-more (y ∷ front) (Some (FilesetRecord id f))) (filesets_fine y (front ++ Some (FilesetRecord id f) ∷ []) rest all.1),
  )
  filesets_fine y front (Some (Entry fs key held) ∷ rest) all =
      subst (λ l. Filesets l (filesets_in rest)) (filesets_in-more (y ∷ front) (Some (Entry fs key held)) ∙ append-nil (filesets_in (y ∷ front))) (filesets_fine y (front ++ Some (Entry fs key held) ∷ []) rest all.1)

  -- the records stand in slots up to the limit
  pub count_fine : (y : Option Record) (front rest : Area) → Each (IsFine blocks records area) (y ∷ front) rest → length (entries_in rest) + length (filesets_in rest) ≤ records - length front
  count_fine y front [] all = omega arith
  count_fine y front (None ∷ rest) all = absurd (false≢true (sym all.0.fine))
  count_fine y front (Some Free ∷ rest) all = omega (arith, one_more front (Some Free), count_fine y (front ++ Some Free ∷ []) rest all.1)
  count_fine y front (Some (CountersRecord c) ∷ rest) all = omega (arith, one_more front (Some (CountersRecord c)), count_fine y (front ++ Some (CountersRecord c) ∷ []) rest all.1)
  count_fine y front (Some (FilesetRecord id f) ∷ rest) all =
      omega (arith, one_more front (Some (FilesetRecord id f)), count_fine y (front ++ Some (FilesetRecord id f) ∷ []) rest all.1, within_limit (suc (length front)) _ all.0.fine)
  count_fine y front (Some (Entry fs key held) ∷ rest) all =
      omega (arith, one_more front (Some (Entry fs key held)), count_fine y (front ++ Some (Entry fs key held) ∷ []) rest all.1, within_limit (suc (length front)) _ all.0.fine)

  slot_some : (n : ℕ) (x : Option Record) → breaks_slot blocks records area n x ≡ false → IsSome x
  slot_some n None h = absurd (false≢true (sym h))
  slot_some n (Some v) h = refl

  pub slots_some : (front rest : Area) → Each (IsFine blocks records area) front rest → AllByRecursion IsSome rest
  slots_some front [] all = tt
  slots_some front (x ∷ rest) all = (slot_some (length front) x all.0.fine, slots_some (front ++ x ∷ []) rest all.1)
