-- A slot breaks a rule where it breaks one of the parts of the rules.
use Rattle.std.proofs.Common.{◌≡◌, ℕ, zero, suc, Bool, true, false, not, ◌&&◌, ◌||◌, Option, Some, None, is_some, List, [], ◌∷◌, take, get_or, map as list_map, nat_eq, nat_lt, nat_le, if◌then◌else◌, refl, sym, ap, ◌∙◌}
use Rattle.std.specs.Ordering.{eq_by_cmp}
use Rattle.std.specs.Cmp.Lexicographic.{pointwise}
use Rattle.std.specs.List.{list_any}
use Rattle.std.proofs.lemmas.List.{take-map}
use Rattle.std.proofs.lemmas.List.Folds.{list_any-append}
use Rattle.std.specs.Option.{option_map_or, option_map}
use Rattle.ck_model.specs.declared.key.Key.{Key}
use Rattle.ck_model.specs.declared.held.Held.{Held}
use Rattle.ck_model.specs.declared.checkpoint.Fileset.{Fileset}
use Rattle.ck_model.specs.Key.{key_cmp, entry_cmp}
use Rattle.ck_model.specs.Rules.{stamp_in, block_in}
use Rattle.ck_record.specs.declared.records.Record.{Record}
use Rattle.ck_record.specs.declared.records.Record.TheVariants.{Free, Counters as CountersRecord, Fileset as FilesetRecord, Entry}
use Rattle.ck_area.specs.Area.{Area, entries_by, entries_in, filesets_by, filesets_in, counters_by, counters_in, table_of, slot_at}
use Rattle.ck_area.specs.Damage.{has_place, has_version, has_block, has_fileset, is_alike, is_id_past, is_stamp_past, is_number_past, live_count, breaks_whole, breaks_slot, is_free}
use Rattle.ck_area.specs.Firsts.{stands_in, repeats}
use Rattle.ck_area.specs.Parts.{place_in, version_in, named_in, id_in, live_name_in}
use Rattle.ck_area.specs.Split.{breaks_alone, crowds, breaks_table, stands_below, breaks_again}

or_false : (b : Bool) → (b || false) ≡ b
or_false true = refl
or_false false = refl

-- ---- what lower slots have, slot by slot

module _ {K : Type 0} (same : K → K → Bool) (part : Option Record → Option K) (x : K) where
  entries_stand : (test : (ℕ × Key) × Held → Bool) → ((slot : Option Record) → list_any test (entries_by slot) ≡ option_map_or (same x) (part slot) false)
      → (lower : Area) → list_any test (entries_in lower) ≡ stands_in same (list_map part lower) x
  entries_stand test each [] = refl
  entries_stand test each (slot ∷ lower) =
      list_any-append test (entries_by slot) (entries_in lower)
      ∙ ap (λ b. b || list_any test (entries_in lower)) (each slot)
      ∙ ap (λ b. option_map_or (same x) (part slot) false || b) (entries_stand test each lower)

  filesets_stand : (test : ℕ × Fileset → Bool) → ((slot : Option Record) → list_any test (filesets_by slot) ≡ option_map_or (same x) (part slot) false)
      → (lower : Area) → list_any test (filesets_in lower) ≡ stands_in same (list_map part lower) x
  filesets_stand test each [] = refl
  filesets_stand test each (slot ∷ lower) =
      list_any-append test (filesets_by slot) (filesets_in lower)
      ∙ ap (λ b. b || list_any test (filesets_in lower)) (each slot)
      ∙ ap (λ b. option_map_or (same x) (part slot) false || b) (filesets_stand test each lower)

place_each : (fs : ℕ) (key : Key) (slot : Option Record) → list_any (λ e. eq_by_cmp entry_cmp (fs, key) e.0) (entries_by slot) ≡ option_map_or (eq_by_cmp entry_cmp (fs, key)) (place_in slot) false
place_each fs key None = refl
place_each fs key (Some Free) = refl
place_each fs key (Some (CountersRecord c)) = refl
place_each fs key (Some (FilesetRecord id f)) = refl
place_each fs key (Some (Entry gs other held)) = or_false (eq_by_cmp entry_cmp (fs, key) (gs, other))

places_stand : (lower : Area) (fs : ℕ) (key : Key) (held : Held) → has_place (entries_in lower) fs key ≡ stands_below (eq_by_cmp entry_cmp) place_in lower (Some (Entry fs key held))
places_stand lower fs key held = entries_stand (eq_by_cmp entry_cmp) place_in (fs, key) (λ e. eq_by_cmp entry_cmp (fs, key) e.0) (place_each fs key) lower

abbrev pub same_version : Key × ℕ → Key × ℕ → Bool
same_version x y = eq_by_cmp key_cmp x.0 y.0 && nat_eq x.1 y.1

and_false : (b : Bool) → (b && false) ≡ false
and_false true = refl
and_false false = refl

version_test : (key other : Key) (stamp : ℕ) (o : Option ℕ) → (eq_by_cmp key_cmp key other && is_alike (Some stamp) o || false) ≡ option_map_or (same_version (key, stamp)) (option_map (λ s. (other, s)) o) false
version_test key other stamp None = or_false (eq_by_cmp key_cmp key other && false) ∙ and_false (eq_by_cmp key_cmp key other)
version_test key other stamp (Some s) = or_false (eq_by_cmp key_cmp key other && nat_eq stamp s)

version_each : (key : Key) (stamp : ℕ) (slot : Option Record) → list_any (λ e. eq_by_cmp key_cmp key e.0.1 && is_alike (Some stamp) (stamp_in e.1)) (entries_by slot) ≡ option_map_or (same_version (key, stamp)) (version_in slot) false
version_each key stamp None = refl
version_each key stamp (Some Free) = refl
version_each key stamp (Some (CountersRecord c)) = refl
version_each key stamp (Some (FilesetRecord id f)) = refl
version_each key stamp (Some (Entry gs other held)) = version_test key other stamp (stamp_in held)

alike_none : (o : Option ℕ) → is_alike None o ≡ false
alike_none None = refl
alike_none (Some x) = refl

no_version : (entries : List ((ℕ × Key) × Held)) (key : Key) → has_version entries key None ≡ false
no_version [] key = refl
no_version (e ∷ entries) key =
    ap (λ b. (eq_by_cmp key_cmp key e.0.1 && b) || has_version entries key None) (alike_none (stamp_in e.1))
    ∙ ap (λ b. b || has_version entries key None) (and_false (eq_by_cmp key_cmp key e.0.1))
    ∙ no_version entries key

versions_at : (lower : Area) (key : Key) (o : Option ℕ) → has_version (entries_in lower) key o ≡ option_map_or (stands_in same_version (list_map version_in lower)) (option_map (λ s. (key, s)) o) false
versions_at lower key None = no_version (entries_in lower) key
versions_at lower key (Some stamp) = entries_stand same_version version_in (key, stamp) (λ e. eq_by_cmp key_cmp key e.0.1 && is_alike (Some stamp) (stamp_in e.1)) (version_each key stamp) lower

block_test : (block : ℕ) (o : Option ℕ) → (is_alike (Some block) o || false) ≡ option_map_or (nat_eq block) o false
block_test block None = refl
block_test block (Some x) = or_false (nat_eq block x)

block_each : (block : ℕ) (slot : Option Record) → list_any (λ e. is_alike (Some block) (block_in e.1)) (entries_by slot) ≡ option_map_or (nat_eq block) (named_in slot) false
block_each block None = refl
block_each block (Some Free) = refl
block_each block (Some (CountersRecord c)) = refl
block_each block (Some (FilesetRecord id f)) = refl
block_each block (Some (Entry gs other held)) = block_test block (block_in held)

no_block : (entries : List ((ℕ × Key) × Held)) → has_block entries None ≡ false
no_block [] = refl
no_block (e ∷ entries) = ap (λ b. b || has_block entries None) (alike_none (block_in e.1)) ∙ no_block entries

blocks_at : (lower : Area) (o : Option ℕ) → has_block (entries_in lower) o ≡ option_map_or (stands_in nat_eq (list_map named_in lower)) o false
blocks_at lower None = no_block (entries_in lower)
blocks_at lower (Some block) = entries_stand nat_eq named_in block (λ e. is_alike (Some block) (block_in e.1)) (block_each block) lower

id_each : (id : ℕ) (slot : Option Record) → list_any (λ e. nat_eq id e.0) (filesets_by slot) ≡ option_map_or (nat_eq id) (id_in slot) false
id_each id None = refl
id_each id (Some Free) = refl
id_each id (Some (CountersRecord c)) = refl
id_each id (Some (FilesetRecord other f)) = or_false (nat_eq id other)
id_each id (Some (Entry gs other held)) = refl

abbrev pub same_name : Fileset → ℕ × Fileset → Bool
same_name f e = not f.gone && not e.1.gone && pointwise nat_eq f.name e.1.name

name_test : (gone : Bool) (name other : List ℕ) → ((not gone && pointwise nat_eq name other) || false) ≡ option_map_or (pointwise nat_eq name) (if gone then None else Some other) false
name_test true name other = refl
name_test false name other = or_false (pointwise nat_eq name other)

name_each : (name : List ℕ) (slot : Option Record) → list_any (λ (e : ℕ × Fileset). not e.1.gone && pointwise nat_eq name e.1.name) (filesets_by slot) ≡ option_map_or (pointwise nat_eq name) (live_name_in slot) false
name_each name None = refl
name_each name (Some Free) = refl
name_each name (Some (CountersRecord c)) = refl
name_each name (Some (FilesetRecord other f)) = name_test f.gone name f.name
name_each name (Some (Entry gs other held)) = refl

no_name : (filesets : List (ℕ × Fileset)) → list_any (λ (e : ℕ × Fileset). false) filesets ≡ false
no_name [] = refl
no_name (e ∷ filesets) = no_name filesets

names_at : (lower : Area) (gone : Bool) (name : List ℕ) → list_any (λ (e : ℕ × Fileset). not gone && not e.1.gone && pointwise nat_eq name e.1.name) (filesets_in lower)
    ≡ option_map_or (stands_in (pointwise nat_eq) (list_map live_name_in lower)) (if gone then None else Some name) false
names_at lower true name = no_name (filesets_in lower)
names_at lower false name = filesets_stand (pointwise nat_eq) live_name_in name (λ (e : ℕ × Fileset). not e.1.gone && pointwise nat_eq name e.1.name) (name_each name) lower

or_parted : (a b c d : Bool) → ((a || b) || (c || d)) ≡ ((a || c) || (b || d))
or_parted true b c d = refl
or_parted false true true d = refl
or_parted false true false d = refl
or_parted false false true d = refl
or_parted false false false d = refl

either_test : {X : Type 0} (p q : X → Bool) (xs : List X) → list_any (λ x. p x || q x) xs ≡ (list_any p xs || list_any q xs)
either_test p q [] = refl
either_test p q (x ∷ xs) = ap (λ b. (p x || q x) || b) (either_test p q xs) ∙ or_parted (p x) (q x) (list_any p xs) (list_any q xs)

filesets_at : (lower : Area) (id : ℕ) (f : Fileset) → has_fileset (filesets_in lower) id f
    ≡ (stands_below nat_eq id_in lower (Some (FilesetRecord id f)) || stands_below (pointwise nat_eq) live_name_in lower (Some (FilesetRecord id f)))
filesets_at lower id f =
    either_test (λ e. nat_eq id e.0) (same_name f) (filesets_in lower)
    ∙ ap (λ b. b || list_any (same_name f) (filesets_in lower)) (filesets_stand nat_eq id_in id (λ e. nat_eq id e.0) (id_each id) lower)
    ∙ ap (λ b. stands_below nat_eq id_in lower (Some (FilesetRecord id f)) || b) (names_at lower f.gone f.name)

-- ---- the tests in another order

lower_parts : (place stamp number block again version : Bool) → ((((place || stamp) || number) || block) || again) || version ≡ ((place || ((stamp || number) || block)) || again) || version
lower_parts true stamp number block again version = refl
lower_parts false stamp number block again version = refl

entry_parts : (high past place version again whole : Bool) → (high || ((((place || past) || again) || version) || whole))
    ≡ (((high || past) || false) || (((((place || version) || again) || false) || false) || whole))
entry_parts true past place version again whole = refl
entry_parts false true true version again whole = refl
entry_parts false true false version again whole = refl
entry_parts false false true version again whole = refl
entry_parts false false false true true whole = refl
entry_parts false false false true false whole = refl
entry_parts false false false false true whole = refl
entry_parts false false false false false whole = refl

fileset_parts : (high past crowd id name : Bool) → (high || (((id || name) || past) || crowd)) ≡ (((high || past) || crowd) || ((id || name) || false))
fileset_parts true past crowd id name = refl
fileset_parts false true crowd true name = refl
fileset_parts false true crowd false true = refl
fileset_parts false true crowd false false = refl
fileset_parts false false true true name = refl
fileset_parts false false true false true = refl
fileset_parts false false true false false = refl
fileset_parts false false false true name = refl
fileset_parts false false false false true = refl
fileset_parts false false false false false = refl

free_parts : (high : Bool) → (high || false) ≡ (((high || false) || false) || false)
free_parts true = refl
free_parts false = refl

counters_parts : (high : Bool) → (high || true) ≡ (((high || true) || false) || false)
counters_parts true = refl
counters_parts false = refl

-- with no lower slots, none stands below
none_below : {K : Type 0} (o : Option K) → option_map_or (λ _. false) o false ≡ false
none_below None = refl
none_below (Some x) = refl

not_crowded : (gone : Bool) → (not gone && nat_le 64 0) ≡ false
not_crowded true = refl
not_crowded false = refl

first_fileset_parts : (none crowd name : Bool) → crowd ≡ false → name ≡ false → none ≡ (((none || crowd) || ((false || name) || false)))
first_fileset_parts true crowd name h k = refl
first_fileset_parts false crowd name h k = sym (ap (λ b. (false || b) || ((false || name) || false)) h ∙ ap (λ b. (false || b) || false) k)

first_parts : (none : Bool) → none ≡ ((none || false) || false)
first_parts true = refl
first_parts false = refl

pub breaks_parts : (blocks records : ℕ) (area : Area) (k : ℕ) (slot : Option Record) → slot_at area k ≡ slot
    → breaks_slot blocks records area k slot
    ≡ ((breaks_alone blocks records (counters_in area) k slot || crowds (live_count (filesets_in (take k area))) slot)
    || (breaks_again (take k area) slot || breaks_table (table_of blocks records area) (filesets_in area) slot))
breaks_parts blocks records area zero None is = refl
breaks_parts blocks records area zero (Some Free) is = first_parts (not (is_some (counters_in area)))
breaks_parts blocks records area zero (Some (CountersRecord c)) is = first_parts (not (is_some (counters_in area)))
breaks_parts blocks records area zero (Some (FilesetRecord id f)) is =
    first_fileset_parts (not (is_some (counters_in area))) (not f.gone && nat_le 64 0) (stands_below (pointwise nat_eq) live_name_in [] (Some (FilesetRecord id f))) (not_crowded f.gone) (none_below (live_name_in (Some (FilesetRecord id f))))
breaks_parts blocks records area zero (Some (Entry fs key held)) is =
    let absent : is_some (counters_in area) ≡ false = ap (λ s. is_some (counters_by s)) is in
    ap not absent ∙ ap (λ b. (b || false) || (breaks_again [] (Some (Entry fs key held)) || breaks_whole (table_of blocks records area) (filesets_in area) fs key held)) (ap not (sym absent))
breaks_parts blocks records area (suc before) None is = refl
breaks_parts blocks records area (suc before) (Some Free) is = free_parts (nat_lt records (suc before) && not (is_free Free))
breaks_parts blocks records area (suc before) (Some (CountersRecord c)) is = counters_parts (nat_lt records (suc before) && not (is_free (CountersRecord c)))
breaks_parts blocks records area (suc before) (Some (FilesetRecord id f)) is =
    let lower = take (suc before) area in
    let high = nat_lt records (suc before) && not (is_free (FilesetRecord id f)) in
    let past = is_id_past (counters_in area) id in
    let crowd = not f.gone && nat_le 64 (live_count (filesets_in lower)) in
    ap (λ b. high || ((b || past) || crowd)) (filesets_at lower id f)
    ∙ fileset_parts high past crowd (stands_below nat_eq id_in lower (Some (FilesetRecord id f))) (stands_below (pointwise nat_eq) live_name_in lower (Some (FilesetRecord id f)))
breaks_parts blocks records area (suc before) (Some (Entry fs key held)) is =
    let lower = take (suc before) area in
    let slot : Option Record = Some (Entry fs key held) in
    let high = nat_lt records (suc before) && not (is_free (Entry fs key held)) in
    let stamp = is_stamp_past (counters_in area) (stamp_in held) in
    let number = is_number_past (counters_in area) key held in
    let block = option_map_or (λ block. nat_le blocks block) (block_in held) false in
    let whole = breaks_whole (table_of blocks records area) (filesets_in area) fs key held in
    ap (λ b. high || (((((b || stamp) || number) || block) || has_block (entries_in lower) (block_in held)) || has_version (entries_in lower) key (stamp_in held) || whole)) (places_stand lower fs key held)
    ∙ ap (λ b. high || (((((stands_below (eq_by_cmp entry_cmp) place_in lower slot || stamp) || number) || block) || b) || has_version (entries_in lower) key (stamp_in held) || whole)) (blocks_at lower (block_in held))
    ∙ ap (λ b. high || (((((stands_below (eq_by_cmp entry_cmp) place_in lower slot || stamp) || number) || block) || stands_below nat_eq named_in lower slot) || b || whole)) (versions_at lower key (stamp_in held))
    ∙ ap (λ b. high || (b || whole)) (lower_parts (stands_below (eq_by_cmp entry_cmp) place_in lower slot) stamp number block (stands_below nat_eq named_in lower slot) (stands_below same_version version_in lower slot))
    ∙ entry_parts high ((stamp || number) || block) (stands_below (eq_by_cmp entry_cmp) place_in lower slot) (stands_below same_version version_in lower slot) (stands_below nat_eq named_in lower slot) whole

-- ---- what a slot repeats

part_at : {K : Type 0} (part : Option Record → Option K) → part None ≡ None → (area : Area) (k : ℕ) → get_or (list_map part area) k None ≡ part (get_or area k None)
part_at part none [] k = sym none
part_at part none (slot ∷ area) zero = refl
part_at part none (slot ∷ area) (suc k) = part_at part none area k

pub repeat_is : {K : Type 0} (same : K → K → Bool) (part : Option Record → Option K) → part None ≡ None → (area : Area) (k : ℕ)
    → repeats same (list_map part area) k ≡ stands_below same part (take k area) (slot_at area k)
repeat_is same part none area k =
    ap (λ items. option_map_or (stands_in same items) (get_or (list_map part area) k None) false) (take-map part k area)
    ∙ ap (λ o. option_map_or (stands_in same (list_map part (take k area))) o false) (part_at part none area k)
