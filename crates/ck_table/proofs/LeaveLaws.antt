-- A table in which a checkpoint leaves: it is gone, or its record is taken away.
use Rattle.std.proofs.Common.{◌≡◌, ◌≢◌, ℕ, ◌+◌, ◌-◌, ◌<◌, Bool, true, false, cond, not, ◌&&◌, ◌||◌, List, [], ◌∷◌, length, filter, Some, None, IsSome, IsSomeAnd, is_some, nat_lt, nat_le, nat_eq, refl, sym, ap, subst, ◌∙◌, arith}
use Rattle.std.specs.List.{list_any}
use Rattle.std.specs.Option.{option_map, option_map_or}
use Rattle.std.specs.Ordering.{nat_cmp}
use Rattle.std.proofs.lemmas.Cmp.{nat_cmp_total}
use Rattle.std.proofs.lemmas.Bool.{false≢true, true≢false, eqb-true, le-leb, lt-ltb, and_right, and_from, and_parts, or_left, or_right, false_from_ne_true}
use Rattle.std.proofs.lemmas.List.Sums.{length-filter, count_by-le-length}
use Rattle.std.proofs.lemmas.Option.{same_Some}
use Rattle.std.specs.FinMap as map
use Rattle.ck_model.specs.declared.key.Key.{Key}
use Rattle.ck_model.specs.declared.checkpoint.Fileset.{Fileset}
use Rattle.ck_model.specs.Table.{Table, IsTable, Filesets, column, newer, with_fileset, record_count}
use Rattle.ck_model.specs.Chain.{first_entry, present, value_of, is_live, is_gone, live_ids, is_live_data, keeps_data, as_mark, seen}
use Rattle.ck_model.specs.World.{keeps_files}
use Rattle.ck_model.specs.Rules.{IsSound, first_holder}
use Rattle.ck_table.specs.Gone.{as_gone, with_gone}
use Rattle.ck_table.proofs.IdLaws.{is_other, get-recorded, get-recorded_other, still_there, keys-insert_over, newer-has}
use Rattle.ck_table.proofs.WithoutLaws.{IsWithout, newer-without, value-without, holder-without, keeps-without, seen-without, filter-others, filter-dropped}
use Rattle.ck_table.proofs.Sound.{Counts, sound_with, still_needed}

pub stands_live : (t : Table) (x : ℕ) → is_live t x ≡ true → IsSome (map.get t.filesets x)
stands_live t x live = elim (map.get t.filesets x) as (λ o. option_map_or (λ (f : Fileset). not f.gone) o false ≡ true → IsSome o) [ None ↦ λ h. h | Some f ↦ λ _. refl ] live

-- ---- a checkpoint becomes gone

newer-gone : (t : Table) (id : ℕ) (f : Fileset) → map.get t.filesets id ≡ Some f → (fs : ℕ) → newer (with_fileset t id (Some (as_gone f))) fs ≡ newer t fs
newer-gone t id f is fs = ap (filter (λ x. nat_lt fs x)) (keys-insert_over t.filesets id (as_gone f) (ap is_some is))

value_gone : (t : Table) (id : ℕ) (f : Fileset) → map.get t.filesets id ≡ Some f → (fs : ℕ) (key : Key) → value_of (with_fileset t id (Some (as_gone f))) fs key ≡ value_of t fs key
value_gone t id f is fs key = ap (λ ids. present (first_entry (column t key) (fs ∷ ids))) (newer-gone t id f is fs)

same_and_true : (b : Bool) → b ≡ (b && true)
same_and_true true = refl
same_and_true false = refl

is_live-gone : (t : Table) (id : ℕ) (f : Fileset) (x : ℕ) → is_live (with_fileset t id (Some (as_gone f))) x ≡ (is_live t x && is_other id x)
is_live-gone t id f x =
    ap (λ o. option_map_or (λ (g : Fileset). not g.gone) o false) (get-recorded t.filesets id (Some (as_gone f)) x)
    ∙ elim (nat_eq x id) as (λ b. option_map_or (λ (g : Fileset). not g.gone) (cond b (Some (as_gone f)) (map.get t.filesets x)) false ≡ (is_live t x && not b)) [
      | true ↦ sym (and_right (is_live t x) false refl)
      | false ↦ same_and_true (is_live t x)
    ]

filter_twice : (p q r : ℕ → Bool) → ((x : ℕ) → p x ≡ (q x && r x)) → (xs : List ℕ) → filter p xs ≡ filter r (filter q xs)
filter_twice p q r same [] = refl
filter_twice p q r same (x ∷ xs) =
    let rest = filter_twice p q r same xs in
    ap (λ b. cond b (x ∷ filter p xs) (filter p xs)) (same x)
    ∙ elim (q x) as (λ b. cond (b && r x) (x ∷ filter p xs) (filter p xs) ≡ filter r (cond b (x ∷ filter q xs) (filter q xs))) [
      | true ↦ ap (λ ids. cond (r x) (x ∷ ids) ids) rest
      | false ↦ rest
    ]

live_ids_gone : (t : Table) (id : ℕ) (f : Fileset) → map.get t.filesets id ≡ Some f → live_ids (with_fileset t id (Some (as_gone f))) ≡ filter (is_other id) (live_ids t)
live_ids_gone t id f is =
    let u = with_fileset t id (Some (as_gone f)) in
    ap (filter (is_live u)) (newer-gone t id f is 0) ∙ filter_twice (is_live u) (is_live t) (is_other id) (is_live-gone t id f) (newer t 0)

pub any_more : (p q : ℕ → Bool) → ((x : ℕ) → p x ≡ true → q x ≡ true) → (xs : List ℕ) → list_any p xs ≡ true → list_any q xs ≡ true
any_more p q more [] h = h
any_more p q more (x ∷ xs) h =
    elim (p x) as (λ b. p x ≡ b → (b || list_any p xs) ≡ true → (q x || list_any q xs) ≡ true) [
      | true ↦ λ here _. or_left (q x) (list_any q xs) (more x here)
      | false ↦ λ _ there. or_right (q x) (list_any q xs) (any_more p q more xs there)
    ] refl h

live_data-gone : (t : Table) (id : ℕ) (f : Fileset) (x : ℕ) → is_live_data (with_fileset t id (Some (as_gone f))) x ≡ true → is_live_data t x ≡ true
live_data-gone t id f x h =
    elim (nat_eq x id) as (λ b. option_map_or (λ (g : Fileset). not g.gone && keeps_files g.kind) (cond b (Some (as_gone f)) (map.get t.filesets x)) false ≡ true → is_live_data t x ≡ true) [
      | true ↦ λ h. absurd (false≢true h)
      | false ↦ λ h. h
    ] (sym (ap (λ o. option_map_or (λ (g : Fileset). not g.gone && keeps_files g.kind) o false) (get-recorded t.filesets id (Some (as_gone f)) x)) ∙ h)

keeps_gone : (t : Table) (id : ℕ) (f : Fileset) → map.get t.filesets id ≡ Some f → (fs : ℕ) → keeps_data (with_fileset t id (Some (as_gone f))) fs ≡ true → keeps_data t fs ≡ true
keeps_gone t id f is fs h =
    let u = with_fileset t id (Some (as_gone f)) in
    any_more (λ x. nat_le x fs && is_live_data u x) (λ x. nat_le x fs && is_live_data t x)
    (λ x both. let parts = and_parts (nat_le x fs) (is_live_data u x) both in and_from (nat_le x fs) (is_live_data t x) parts.0 (live_data-gone t id f x parts.1))
    (newer t 0) (sym (ap (list_any (λ x. nat_le x fs && is_live_data u x)) (newer-gone t id f is 0)) ∙ h)

passes_among : (test : ℕ → Bool) (x : ℕ) → test x ≡ true → (xs : List ℕ) → list_any (nat_eq x) xs ≡ true → list_any test xs ≡ true
passes_among test x passes xs there = any_more (nat_eq x) test (λ y same. sym (ap test (eqb-true x y same)) ∙ passes) xs there

-- a data checkpoint that isn't gone keeps data
pub own_data : (t : Table) → IsTable t → (fs : ℕ) → is_live_data t fs ≡ true → keeps_data t fs ≡ true
own_data t lawful fs live =
    let stands : IsSome (map.get t.filesets fs) = elim (map.get t.filesets fs) as (λ o. option_map_or (λ (g : Fileset). not g.gone && keeps_files g.kind) o false ≡ true → IsSome o) [ None ↦ λ h. h | Some g ↦ λ _. refl ] live in
    let above : 0 < fs = elim (map.get t.filesets fs) as (λ o. map.get t.filesets fs ≡ o → IsSome o → 0 < fs) [
      | None ↦ λ _ h. absurd (false≢true h)
      | Some g ↦ λ is _. (lawful.filesets fs g is).some
    ] refl stands in
    passes_among (λ x. nat_le x fs && is_live_data t x) fs (and_from (nat_le fs fs) (is_live_data t fs) (le-leb fs fs (omega arith)) live) (newer t 0)
    (newer-has t 0 fs ∙ and_from (nat_lt 0 fs) (is_some (map.get t.filesets fs)) (lt-ltb 0 fs above) stands)

still_data : (t : Table) (id : ℕ) (f : Fileset) (fs : ℕ) → nat_eq fs id ≡ false → is_live_data t fs ≡ true → is_live_data (with_fileset t id (Some (as_gone f))) fs ≡ true
still_data t id f fs apart live =
    ap (λ o. option_map_or (λ (g : Fileset). not g.gone && keeps_files g.kind) o false) (get-recorded_other t.filesets id (Some (as_gone f)) fs apart) ∙ live

pub read : (t : Table) (fs : ℕ) (key : Key) → keeps_data t fs ≡ true → seen t fs key ≡ value_of t fs key
read t fs key keeps = ap (λ b. cond b (value_of t fs key) (option_map as_mark (value_of t fs key))) keeps

seen_gone : (t : Table) (id : ℕ) (f : Fileset) → map.get t.filesets id ≡ Some f → IsTable t → IsTable (with_fileset t id (Some (as_gone f))) → (fs : ℕ) (key : Key) → fs ≢ id → is_live_data t fs ≡ true → seen (with_fileset t id (Some (as_gone f))) fs key ≡ seen t fs key
seen_gone t id f is lawful after fs key differs live =
    let u = with_fileset t id (Some (as_gone f)) in
    let apart : nat_eq fs id ≡ false = false_from_ne_true (nat_eq fs id) (λ same. differs (eqb-true fs id same)) in
    read u fs key (own_data u after fs (still_data t id f fs apart live)) ∙ value_gone t id f is fs key ∙ sym (read t fs key (own_data t lawful fs live))

record_count_gone : (t : Table) (id : ℕ) (f : Fileset) → map.get t.filesets id ≡ Some f → record_count (with_fileset t id (Some (as_gone f))) ≡ record_count t
record_count_gone t id f is =
    let same = map.len-insert nat_cmp_total t.filesets id (as_gone f) ∙ ap (λ o. cond (is_some o) (map.len t.filesets) (map.len t.filesets + 1)) is in
    omega (arith, same)

-- the record of one that stands is an old one
old_one : (t : Table) (id : ℕ) (f : Fileset) (a : ℕ) (g : Fileset) → map.get (map.insert t.filesets id (as_gone f)) a ≡ Some g → g.gone ≡ false → map.get t.filesets a ≡ Some g
old_one t id f a g is live =
    elim (nat_eq a id) as (λ b. cond b (Some (as_gone f)) (map.get t.filesets a) ≡ Some g → map.get t.filesets a ≡ Some g) [
      | true ↦ λ h. absurd (true≢false (ap (λ (x : Fileset). x.gone) (same_Some (as_gone f) g h) ∙ live))
      | false ↦ λ h. h
    ] (sym (get-recorded t.filesets id (Some (as_gone f)) a) ∙ is)

ids_gone : (t : Table) (id : ℕ) (f : Fileset) → map.get t.filesets id ≡ Some f → (x : ℕ) → IsSome (map.get (map.insert t.filesets id (as_gone f)) x) → IsSome (map.get t.filesets x)
ids_gone t id f is x stands =
    elim (nat_eq x id) as (λ b. nat_eq x id ≡ b → IsSome (cond b (Some (as_gone f)) (map.get t.filesets x)) → IsSome (map.get t.filesets x)) [
      | true ↦ λ same _. ap is_some (ap (map.get t.filesets) (eqb-true x id same) ∙ is)
      | false ↦ λ _ h. h
    ] refl (ap is_some (sym (get-recorded t.filesets id (Some (as_gone f)) x)) ∙ stands)

gone_stays : (t : Table) (id : ℕ) (f : Fileset) (x : ℕ) → is_gone t x ≡ true → is_gone (with_fileset t id (Some (as_gone f))) x ≡ true
gone_stays t id f x gone =
    ap (λ o. option_map_or (λ (g : Fileset). g.gone) o false) (get-recorded t.filesets id (Some (as_gone f)) x)
    ∙ elim (nat_eq x id) as (λ b. option_map_or (λ (g : Fileset). g.gone) (cond b (Some (as_gone f)) (map.get t.filesets x)) false ≡ true) [ true ↦ refl | false ↦ gone ]

sound_gone : (t : Table) (id : ℕ) (f : Fileset) → map.get t.filesets id ≡ Some f → IsSound t → IsSound (with_fileset t id (Some (as_gone f)))
sound_gone t id f is sound =
    let u = with_fileset t id (Some (as_gone f)) in
    sound_with t (map.insert t.filesets id (as_gone f)) t.counters.id sound (record {
      names = λ a b g h is_a is_b live_a live_b same. sound.orderly.names a b g h (old_one t id f a g is_a live_a) (old_one t id f b h is_b live_b) live_a live_b same;
      ids = λ x stands. sound.orderly.ids x (ids_gone t id f is x stands);
      live =
          let fewer = ap length (live_ids_gone t id f is) ∙ length-filter (is_other id) (live_ids t) in
          let most = count_by-le-length (is_other id) (live_ids t) in
          let before = sound.orderly.live in
          omega (arith, fewer, most, before);
      homes = λ fs key _ stands. still_there t.filesets id (as_gone f) fs stands;
      marks = λ fs stands none. false_from_ne_true (keeps_data u fs) (λ keeps. true≢false (sym (keeps_gone t id f is fs keeps) ∙ none));
      absents = λ fs key live absent.
          let was = sound.absents fs key (and_parts (is_live t fs) (is_other id fs) (sym (is_live-gone t id f fs) ∙ live)).0 absent in
          let now = still_needed (column t key) (is_gone t) (is_gone u) (λ x _ gone. gone_stays t id f x gone) (newer t fs) was in
          subst (λ ids. IsSomeAnd (first_holder (column t key) ids) (Counts (is_gone u))) (sym (newer-gone t id f is fs)) now;
    })

-- what holds of the table with the record of a checkpoint that stands marked so
at_gone : (t : Table) (id : ℕ) (P : Table → Type 0) → is_live t id ≡ true → ((f : Fileset) → map.get t.filesets id ≡ Some f → P (with_fileset t id (Some (as_gone f)))) → P (with_gone t id)
at_gone t id P live each =
    elim (map.get t.filesets id) as (λ o. map.get t.filesets id ≡ o → IsSome o → P (with_fileset t id (option_map as_gone o))) [
      | None ↦ λ _ h. absurd (false≢true h)
      | Some f ↦ λ is _. each f is
    ] refl (stands_live t id live)

pub newer-with_gone : (t : Table) (id : ℕ) → is_live t id ≡ true → (fs : ℕ) → newer (with_gone t id) fs ≡ newer t fs
newer-with_gone t id live fs = at_gone t id (λ u. newer u fs ≡ newer t fs) live (λ f is. newer-gone t id f is fs)

pub live-with_gone : (t : Table) (id : ℕ) → is_live t id ≡ true → (x : ℕ) → is_live (with_gone t id) x ≡ (is_live t x && is_other id x)
live-with_gone t id live x = at_gone t id (λ u. is_live u x ≡ (is_live t x && is_other id x)) live (λ f is. is_live-gone t id f x)

pub value-with_gone : (t : Table) (id : ℕ) → is_live t id ≡ true → (fs : ℕ) (key : Key) → value_of (with_gone t id) fs key ≡ value_of t fs key
value-with_gone t id live fs key = at_gone t id (λ u. value_of u fs key ≡ value_of t fs key) live (λ f is. value_gone t id f is fs key)

pub live_ids-with_gone : (t : Table) (id : ℕ) → is_live t id ≡ true → live_ids (with_gone t id) ≡ filter (is_other id) (live_ids t)
live_ids-with_gone t id live = at_gone t id (λ u. live_ids u ≡ filter (is_other id) (live_ids t)) live (live_ids_gone t id)

pub seen-with_gone : (t : Table) (id : ℕ) → is_live t id ≡ true → IsTable t → IsTable (with_gone t id) → (fs : ℕ) (key : Key) → fs ≢ id → is_live_data t fs ≡ true → seen (with_gone t id) fs key ≡ seen t fs key
seen-with_gone t id live lawful after fs key differs data_one =
    at_gone t id (λ u. IsTable u → seen u fs key ≡ seen t fs key) live (λ f is after. seen_gone t id f is lawful after fs key differs data_one) after

pub keeps-with_gone : (t : Table) (id : ℕ) → is_live t id ≡ true → (fs : ℕ) → keeps_data t fs ≡ false → keeps_data (with_gone t id) fs ≡ false
keeps-with_gone t id live fs none =
    false_from_ne_true (keeps_data (with_gone t id) fs) (λ keeps. at_gone t id (λ u. keeps_data u fs ≡ true → ⊥) live (λ f is keeps. true≢false (sym (keeps_gone t id f is fs keeps) ∙ none)) keeps)

pub record_count-with_gone : (t : Table) (id : ℕ) → is_live t id ≡ true → record_count (with_gone t id) ≡ record_count t
record_count-with_gone t id live = at_gone t id (λ u. record_count u ≡ record_count t) live (record_count_gone t id)

pub sound-with_gone : (t : Table) (id : ℕ) → is_live t id ≡ true → IsSound t → IsSound (with_gone t id)
sound-with_gone t id live sound = at_gone t id IsSound live (λ f is. sound_gone t id f is sound)

-- ---- the record of one that is gone is taken away

unlinked : (t : Table) (id : ℕ) → ((key : Key) → column t key id ≡ None) → IsWithout t (with_fileset t id None) id
unlinked t id empty = record { entries = refl; filesets = refl; empty = empty }

not_live : (t : Table) (id : ℕ) → is_gone t id ≡ true → is_live t id ≡ false
not_live t id gone = elim (map.get t.filesets id) as (λ o. option_map_or (λ (g : Fileset). g.gone) o false ≡ true → option_map_or (λ (g : Fileset). not g.gone) o false ≡ false) [
  | None ↦ λ _. refl
  | Some g ↦ λ h. ap not h
] gone

not_live_data : (t : Table) (id : ℕ) → is_gone t id ≡ true → is_live_data t id ≡ false
not_live_data t id gone = elim (map.get t.filesets id) as (λ o. option_map_or (λ (g : Fileset). g.gone) o false ≡ true → option_map_or (λ (g : Fileset). not g.gone && keeps_files g.kind) o false ≡ false) [
  | None ↦ λ _. refl
  | Some g ↦ λ h. ap (λ b. not b && keeps_files g.kind) h
] gone

stands_gone : (t : Table) (id : ℕ) → is_gone t id ≡ true → IsSome (map.get t.filesets id)
stands_gone t id gone = elim (map.get t.filesets id) as (λ o. option_map_or (λ (g : Fileset). g.gone) o false ≡ true → IsSome o) [ None ↦ λ h. h | Some g ↦ λ _. refl ] gone

pub value-unlinked : (t : Table) (id : ℕ) → ((key : Key) → column t key id ≡ None) → (fs : ℕ) (key : Key) → value_of (with_fileset t id None) fs key ≡ value_of t fs key
value-unlinked t id empty fs key = value-without t (with_fileset t id None) id (unlinked t id empty) fs key

pub seen-unlinked : (t : Table) (id : ℕ) → is_gone t id ≡ true → ((key : Key) → column t key id ≡ None) → (fs : ℕ) (key : Key) → seen (with_fileset t id None) fs key ≡ seen t fs key
seen-unlinked t id gone empty fs key = seen-without t (with_fileset t id None) id (unlinked t id empty) fs key (and_right (nat_le id fs) (is_live_data t id) (not_live_data t id gone))

pub live_ids-unlinked : (t : Table) (id : ℕ) → is_gone t id ≡ true → ((key : Key) → column t key id ≡ None) → live_ids (with_fileset t id None) ≡ live_ids t
live_ids-unlinked t id gone empty =
    let u = with_fileset t id None in
    ap (filter (is_live u)) (newer-without t u id (unlinked t id empty) 0)
    ∙ filter-others (is_live u) (is_live t) id (λ x apart. ap (λ o. option_map_or (λ (g : Fileset). not g.gone) o false) (get-recorded_other t.filesets id None x apart)) (newer t 0)
    ∙ filter-dropped (is_live t) id (not_live t id gone) (newer t 0)

pub record_count-unlinked : (t : Table) (id : ℕ) → is_gone t id ≡ true → record_count (with_fileset t id None) + 1 ≡ record_count t
record_count-unlinked t id gone =
    let stands = stands_gone t id gone in
    let less = map.len-remove nat_cmp_total t.filesets id ∙ ap (λ b. cond b (map.len t.filesets - 1) (map.len t.filesets)) stands in
    let some : map.len t.filesets ≢ 0 = λ none. false≢true (sym (ap is_some (ap (λ (m : Filesets). map.get m id) (map.empty_of_len t.filesets none) ∙ map.get-empty nat_cmp id)) ∙ stands) in
    omega (arith, less, some)

-- what stands in the smaller table stood
stood : (t : Table) (id x : ℕ) (g : Fileset) → map.get (map.remove t.filesets id) x ≡ Some g → map.get t.filesets x ≡ Some g
stood t id x g is =
    elim (nat_eq x id) as (λ b. cond b None (map.get t.filesets x) ≡ Some g → map.get t.filesets x ≡ Some g) [
      | true ↦ λ h. absurd (false≢true (ap is_some h))
      | false ↦ λ h. h
    ] (sym (get-recorded t.filesets id None x) ∙ is)

is_one : (t : Table) (id x : ℕ) → IsSome (map.get (map.remove t.filesets id) x) → IsSome (map.get t.filesets x)
is_one t id x stands =
    elim (map.get (map.remove t.filesets id) x) as (λ o. map.get (map.remove t.filesets id) x ≡ o → IsSome o → IsSome (map.get t.filesets x)) [
      | None ↦ λ _ h. absurd (false≢true h)
      | Some g ↦ λ is _. ap is_some (stood t id x g is)
    ] refl stands

was_live : (t : Table) (id x : ℕ) → is_live (with_fileset t id None) x ≡ true → is_live t x ≡ true
was_live t id x live =
    elim (nat_eq x id) as (λ b. option_map_or (λ (g : Fileset). not g.gone) (cond b None (map.get t.filesets x)) false ≡ true → is_live t x ≡ true) [
      | true ↦ λ h. absurd (false≢true h)
      | false ↦ λ h. h
    ] (sym (ap (λ o. option_map_or (λ (g : Fileset). not g.gone) o false) (get-recorded t.filesets id None x)) ∙ live)

-- a checkpoint with an entry is another one
other_one : (t : Table) (id x : ℕ) (key : Key) → column t key id ≡ None → IsSome (column t key x) → nat_eq x id ≡ false
other_one t id x key none entry = false_from_ne_true (nat_eq x id) (λ same. false≢true (sym (ap is_some (ap (column t key) (eqb-true x id same) ∙ none)) ∙ entry))

pub sound-unlinked : (t : Table) (id : ℕ) → is_gone t id ≡ true → ((key : Key) → column t key id ≡ None) → IsSound t → IsSound (with_fileset t id None)
sound-unlinked t id gone empty sound =
    let u = with_fileset t id None in
    let without = unlinked t id empty in
    sound_with t (map.remove t.filesets id) t.counters.id sound (record {
      names = λ a b g h is_a is_b live_a live_b same. sound.orderly.names a b g h (stood t id a g is_a) (stood t id b h is_b) live_a live_b same;
      ids = λ x stands. sound.orderly.ids x (is_one t id x stands);
      live =
          let same = ap length (live_ids-unlinked t id gone empty) in
          let before = sound.orderly.live in
          omega (arith, same, before);
      homes = λ fs key entry stands. ap is_some (get-recorded_other t.filesets id None fs (other_one t id fs key (empty key) entry)) ∙ stands;
      marks = λ fs stands none. keeps-without t u id without fs (and_right (nat_le id fs) (is_live_data t id) (not_live_data t id gone)) ∙ none;
      absents = λ fs key live absent.
          let was = sound.absents fs key (was_live t id fs live) absent in
          let now = still_needed (column t key) (is_gone t) (is_gone u) (λ x entry is. ap (λ o. option_map_or (λ (g : Fileset). g.gone) o false) (get-recorded_other t.filesets id None x (other_one t id x key (empty key) entry)) ∙ is) (newer t fs) was in
          subst (λ o. IsSomeAnd o (Counts (is_gone u))) (sym (holder-without t u id without fs key)) now;
    })
