-- A table with a new checkpoint.
use Rattle.std.proofs.Common.{◌≡◌, ℕ, ◌+◌, ◌<◌, ◌≤◌, Bool, true, false, cond, not, ◌&&◌, ◌||◌, List, [], ◌∷◌, ◌++◌, length, filter, Option, Some, None, Ok, Err, if◌then◌else◌, IsSome, IsSomeAnd, is_some, nat_lt, nat_le, nat_eq, refl, sym, ap, subst, ◌∙◌, inl, inr, arith}
use Rattle.std.specs.List.{list_any}
use Rattle.std.specs.Option.{option_or, option_map_or}
use Rattle.std.specs.Cmp.Lexicographic.{pointwise, bytes_decides}
use Rattle.std.proofs.lemmas.Cmp.{nat_cmp_total}
use Rattle.std.proofs.lemmas.Bool.{false≢true, eqb-true, eq-eqb, lt-ltb, le-ltb, lt-leb, leb-false, and_left, and_right, and_from}
use Rattle.std.proofs.lemmas.List.{length-append}
use Rattle.std.proofs.lemmas.List.Elements.{filter-append}
use Rattle.std.proofs.lemmas.Option.{same_Some}
use Rattle.std.specs.FinMap.{nat_cmp-IsAntisymmetric}
use Rattle.std.specs.FinMap as map
use Rattle.ck_model.specs.declared.key.Key.{Key}
use Rattle.ck_model.specs.declared.held.Held.TheVariants.{Absent}
use Rattle.ck_model.specs.declared.checkpoint.Fileset.{Fileset}
use Rattle.ck_model.specs.Table.{Table, IsTable, column, newer, record_count}
use Rattle.ck_model.specs.Chain.{first_entry, present, value_of, is_live, is_gone, live_ids, is_live_data, seen}
use Rattle.ck_model.specs.Rules.{IsOrderly, IsSound, IsNeeded}
use Rattle.ck_table.specs.Names.{is_named, id_named}
use Rattle.ck_table.specs.Added.{new_id, with_added}
use Rattle.ck_table.specs.declared.added.AddFault.TheVariants.{Exists, TooMany, Spent}
use Rattle.ck_table.proofs.IdLaws.{get-recorded, get-recorded_same, still_there, keys-insert_last, newer-has}
use Rattle.ck_table.proofs.NameLemmas.{unnamed}
use Rattle.ck_table.proofs.WithoutLaws.{IsWithout, newer-without, holder-without, keeps-without, seen-without, get-without, filter-others}
use Rattle.ck_table.proofs.Sound.{Counts, sound_with, still_needed}

-- the next id isn't in use
unused : (t : Table) → IsOrderly t → map.get t.filesets t.counters.id ≡ None
unused t orderly =
    elim (map.get t.filesets t.counters.id) as (λ o. map.get t.filesets t.counters.id ≡ o → o ≡ None) [
      | None ↦ λ _. refl
      | Some fileset ↦ λ is. let less : t.counters.id < t.counters.id = orderly.ids t.counters.id (ap is_some is) in absurd (omega arith)
    ] refl

no_entry : (t : Table) → IsTable t → IsOrderly t → (key : Key) → column t key t.counters.id ≡ None
no_entry t lawful orderly key =
    elim (column t key t.counters.id) as (λ o. column t key t.counters.id ≡ o → o ≡ None) [
      | None ↦ λ _. refl
      | Some held ↦ λ is. elim (orderly.homes t.counters.id key (ap is_some is)) [
        | inl zero ↦ let some : 1 ≤ t.counters.id = lawful.counters.some_id in absurd (omega arith)
        | inr stands ↦ let less : t.counters.id < t.counters.id = orderly.ids t.counters.id stands in absurd (omega arith)
      ]
    ] refl

-- the old table is the new one without the new checkpoint
before : (t : Table) (fileset : Fileset) → IsTable t → IsOrderly t → IsWithout (with_added t fileset) t t.counters.id
before t fileset lawful orderly =
    let id = t.counters.id in
    record {
      entries = refl;
      filesets = map.same_map nat_cmp_total nat_cmp-IsAntisymmetric t.filesets (map.remove (map.insert t.filesets id fileset) id) (λ q. sym (
          get-recorded (map.insert t.filesets id fileset) id None q
          ∙ ap (λ o. cond (nat_eq q id) None o) (get-recorded t.filesets id (Some fileset) q)
          ∙ elim (nat_eq q id) as (λ b. nat_eq q id ≡ b → cond b None (cond b (Some fileset) (map.get t.filesets q)) ≡ map.get t.filesets q) [
            | true ↦ λ same. sym (ap (map.get t.filesets) (eqb-true q id same) ∙ unused t orderly)
            | false ↦ λ _. refl
          ] refl));
      empty = no_entry t lawful orderly;
    }

get_new : (t : Table) (fileset : Fileset) → map.get (with_added t fileset).filesets t.counters.id ≡ Some fileset
get_new t fileset = get-recorded_same t.filesets t.counters.id (Some fileset)

newer_added : (t : Table) (fileset : Fileset) → IsOrderly t → (fs : ℕ) → newer (with_added t fileset) fs ≡ newer t fs ++ filter (λ x. nat_lt fs x) (t.counters.id ∷ [])
newer_added t fileset orderly fs =
    ap (filter (λ x. nat_lt fs x)) (keys-insert_last t.filesets t.counters.id fileset orderly.ids) ∙ filter-append (λ x. nat_lt fs x) (map.keys t.filesets) (t.counters.id ∷ [])

nothing_in : (xs : List ℕ) → ((x : ℕ) → list_any (nat_eq x) xs ≡ false) → xs ≡ []
nothing_in [] none = refl
nothing_in (x ∷ xs) none = absurd (false≢true (sym (none x) ∙ ap (λ b. b || list_any (nat_eq x) xs) (eq-eqb x x refl)))

newest : (t : Table) → IsOrderly t → newer t t.counters.id ≡ []
newest t orderly = nothing_in (newer t t.counters.id) (λ x.
    newer-has t t.counters.id x
    ∙ elim (is_some (map.get t.filesets x)) as (λ b. is_some (map.get t.filesets x) ≡ b → (nat_lt t.counters.id x && b) ≡ false) [
      | true ↦ λ stands. let less : x < t.counters.id = orderly.ids x stands in and_left (nat_lt t.counters.id x) true (le-ltb t.counters.id x (omega arith))
      | false ↦ λ _. and_right (nat_lt t.counters.id x) false refl
    ] refl)

-- the new checkpoint's contents are the primary's
pub value-added : (t : Table) (fileset : Fileset) → IsTable t → IsOrderly t → (key : Key) → value_of (with_added t fileset) t.counters.id key ≡ present (column t key 0)
value-added t fileset lawful orderly key =
    let id = t.counters.id in
    let none : newer (with_added t fileset) id ≡ [] = newer_added t fileset orderly id ∙ ap (λ ids. ids ++ filter (λ x. nat_lt id x) (id ∷ [])) (newest t orderly) ∙ ap (λ b. cond b (id ∷ []) []) (le-ltb id id (omega arith)) in
    ap (λ ids. present (first_entry (column t key) (id ∷ ids))) none ∙ ap (λ o. present (option_or o (column t key 0))) (no_entry t lawful orderly key)

is_live-others : (t : Table) (fileset : Fileset) → IsTable t → IsOrderly t → (x : ℕ) → nat_eq x t.counters.id ≡ false → is_live (with_added t fileset) x ≡ is_live t x
is_live-others t fileset lawful orderly x apart =
    ap (λ o. option_map_or (λ (f : Fileset). not f.gone) o false) (sym (get-without (with_added t fileset) t t.counters.id (before t fileset lawful orderly) x apart))

pub live_ids-added : (t : Table) (fileset : Fileset) → IsTable t → IsOrderly t → fileset.gone ≡ false → live_ids (with_added t fileset) ≡ live_ids t ++ t.counters.id ∷ []
live_ids-added t fileset lawful orderly stays =
    let id = t.counters.id in
    let u = with_added t fileset in
    let same = newer-without u t id (before t fileset lawful orderly) 0 in
    let olds : filter (is_live u) (newer t 0) ≡ filter (is_live t) (newer t 0) = ap (filter (is_live u)) same ∙ filter-others (is_live u) (is_live t) id (is_live-others t fileset lawful orderly) (newer u 0) ∙ sym (ap (filter (is_live t)) same) in
    let new : is_live u id ≡ true = ap (λ o. option_map_or (λ (f : Fileset). not f.gone) o false) (get_new t fileset) ∙ ap not stays in
    let last : filter (is_live u) (filter (λ x. nat_lt 0 x) (id ∷ [])) ≡ id ∷ [] = ap (λ b. filter (is_live u) (cond b (id ∷ []) [])) (lt-ltb 0 id lawful.counters.some_id) ∙ ap (λ b. cond b (id ∷ []) []) new in
    ap (filter (is_live u)) (newer_added t fileset orderly 0)
    ∙ filter-append (is_live u) (newer t 0) (filter (λ x. nat_lt 0 x) (id ∷ []))
    ∙ (λ i. olds i ++ last i)

-- a checkpoint that stood has a lower id
lower : (t : Table) (fs : ℕ) → IsOrderly t → is_live t fs ≡ true → fs < t.counters.id
lower t fs orderly live =
    orderly.ids fs (elim (map.get t.filesets fs) as (λ o. option_map_or (λ (f : Fileset). not f.gone) o false ≡ true → IsSome o) [ None ↦ λ h. h | Some f ↦ λ _. refl ] live)

later : (t : Table) (fileset : Fileset) (fs : ℕ) → fs < t.counters.id → (nat_le t.counters.id fs && is_live_data (with_added t fileset) t.counters.id) ≡ false
later t fileset fs less = and_left (nat_le t.counters.id fs) _ (lt-leb t.counters.id fs less)

-- what each reader saw, it sees
pub seen-added : (t : Table) (fileset : Fileset) → IsTable t → IsOrderly t → (fs : ℕ) (key : Key) → is_live t fs ≡ true → seen (with_added t fileset) fs key ≡ seen t fs key
seen-added t fileset lawful orderly fs key live =
    sym (seen-without (with_added t fileset) t t.counters.id (before t fileset lawful orderly) fs key (later t fileset fs (lower t fs orderly live)))

pub record_count-added : (t : Table) (fileset : Fileset) → IsOrderly t → record_count (with_added t fileset) ≡ record_count t + 1
record_count-added t fileset orderly =
    let more = map.len-insert nat_cmp_total t.filesets t.counters.id fileset ∙ ap (λ o. cond (is_some o) (map.len t.filesets) (map.len t.filesets + 1)) (unused t orderly) in
    omega (arith, more)

-- ---- the rules

named_is : (t : Table) (name : List ℕ) (b : ℕ) (g : Fileset) → map.get t.filesets b ≡ Some g → g.gone ≡ false → g.name ≡ name → is_named t name b ≡ true
named_is t name b g is live same =
    ap (λ o. option_map_or (λ (f : Fileset). not f.gone && pointwise nat_eq f.name name) o false) is
    ∙ and_from (not g.gone) (pointwise nat_eq g.name name) (ap not live) ((bytes_decides g.name name).1 same)

names_differ : (t : Table) (fileset : Fileset) → IsOrderly t → ((x : ℕ) → is_named t fileset.name x ≡ false) → (a b : ℕ) (f g : Fileset)
    → map.get (map.insert t.filesets t.counters.id fileset) a ≡ Some f → map.get (map.insert t.filesets t.counters.id fileset) b ≡ Some g → f.gone ≡ false → g.gone ≡ false → f.name ≡ g.name → a ≡ b
names_differ t fileset orderly free a b f g is_a is_b live_a live_b same =
    let id = t.counters.id in
    let a_has = sym (get-recorded t.filesets id (Some fileset) a) ∙ is_a in
    let b_has = sym (get-recorded t.filesets id (Some fileset) b) ∙ is_b in
    elim (nat_eq a id) as (λ v. nat_eq a id ≡ v → cond v (Some fileset) (map.get t.filesets a) ≡ Some f → a ≡ b) [
      | true ↦ λ a_new new_f. elim (nat_eq b id) as (λ v. nat_eq b id ≡ v → cond v (Some fileset) (map.get t.filesets b) ≡ Some g → a ≡ b) [
        | true ↦ λ b_new _. eqb-true a id a_new ∙ sym (eqb-true b id b_new)
        | false ↦ λ _ old_g. absurd (false≢true (sym (free b) ∙ named_is t fileset.name b g old_g live_b (sym same ∙ ap (λ (h : Fileset). h.name) (sym (same_Some fileset f new_f)))))
      ] refl b_has
      | false ↦ λ _ old_f. elim (nat_eq b id) as (λ v. nat_eq b id ≡ v → cond v (Some fileset) (map.get t.filesets b) ≡ Some g → a ≡ b) [
        | true ↦ λ _ new_g. absurd (false≢true (sym (free a) ∙ named_is t fileset.name a f old_f live_a (same ∙ ap (λ (h : Fileset). h.name) (sym (same_Some fileset g new_g)))))
        | false ↦ λ _ old_g. orderly.names a b f g old_f old_g live_a live_b same
      ] refl b_has
    ] refl a_has

ids_below : (t : Table) (fileset : Fileset) → IsOrderly t → (x : ℕ) → IsSome (map.get (map.insert t.filesets t.counters.id fileset) x) → x < t.counters.id + 1
ids_below t fileset orderly x stands =
    let id = t.counters.id in
    elim (nat_eq x id) as (λ b. nat_eq x id ≡ b → IsSome (cond b (Some fileset) (map.get t.filesets x)) → x < id + 1) [
      | true ↦ λ same _. let e = eqb-true x id same in omega (arith, e)
      | false ↦ λ _ old. let less = orderly.ids x old in omega (arith, less)
    ] refl (ap is_some (sym (get-recorded t.filesets id (Some fileset) x)) ∙ stands)

is_gone-added : (t : Table) (fileset : Fileset) → IsTable t → IsOrderly t → fileset.gone ≡ false → (x : ℕ) → is_gone (with_added t fileset) x ≡ is_gone t x
is_gone-added t fileset lawful orderly stays x =
    let id = t.counters.id in
    elim (nat_eq x id) as (λ b. nat_eq x id ≡ b → is_gone (with_added t fileset) x ≡ is_gone t x) [
      | true ↦ λ same.
          let e = eqb-true x id same in
          ap (λ y. is_gone (with_added t fileset) y) e
          ∙ ap (λ o. option_map_or (λ (f : Fileset). f.gone) o false) (get_new t fileset) ∙ stays
          ∙ sym (ap (λ o. option_map_or (λ (f : Fileset). f.gone) o false) (ap (map.get t.filesets) e ∙ unused t orderly))
      | false ↦ λ apart. ap (λ o. option_map_or (λ (f : Fileset). f.gone) o false) (sym (get-without (with_added t fileset) t id (before t fileset lawful orderly) x apart))
    ] refl

-- an absent that was needed is needed; the new checkpoint has none
needed-added : (t : Table) (fileset : Fileset) → IsTable t → IsSound t → fileset.gone ≡ false → (fs : ℕ) (key : Key) → is_live (with_added t fileset) fs ≡ true → column t key fs ≡ Some Absent → IsNeeded (with_added t fileset) key fs
needed-added t fileset lawful sound stays fs key live absent =
    let id = t.counters.id in
    let u = with_added t fileset in
    let orderly = sound.orderly in
    let apart : nat_eq fs id ≡ false = elim (nat_eq fs id) as (λ b. nat_eq fs id ≡ b → b ≡ false) [
      | true ↦ λ same. absurd (false≢true (sym (ap is_some (ap (column t key) (eqb-true fs id same) ∙ no_entry t lawful orderly key)) ∙ ap is_some absent))
      | false ↦ λ _. refl
    ] refl in
    let was = sound.absents fs key (sym (is_live-others t fileset lawful orderly fs apart) ∙ live) absent in
    let now = still_needed (column t key) (is_gone t) (is_gone u) (λ x _ gone. is_gone-added t fileset lawful orderly stays x ∙ gone) (newer t fs) was in
    subst (λ o. IsSomeAnd o (Counts (is_gone u))) (holder-without u t id (before t fileset lawful orderly) fs key) now

pub sound-added : (t : Table) (fileset : Fileset) → IsTable t → IsSound t → fileset.gone ≡ false → id_named t fileset.name ≡ None → length (live_ids t) < 64 → IsSound (with_added t fileset)
sound-added t fileset lawful sound stays free few =
    let orderly = sound.orderly in
    sound_with t (map.insert t.filesets t.counters.id fileset) (t.counters.id + 1) sound (record {
      names = names_differ t fileset orderly (unnamed t fileset.name lawful free);
      ids = ids_below t fileset orderly;
      live =
          let long = ap length (live_ids-added t fileset lawful orderly stays) ∙ length-append (live_ids t) (t.counters.id ∷ []) in
          omega (arith, long);
      homes = λ fs key _ stands. still_there t.filesets t.counters.id fileset fs stands;
      marks = λ fs stands none. sym (keeps-without (with_added t fileset) t t.counters.id (before t fileset lawful orderly) fs (later t fileset fs (orderly.ids fs stands))) ∙ none;
      absents = needed-added t fileset lawful sound stays;
    })

-- what holds where nothing is refused
pub record Allows (t : Table) (name : List ℕ) (id : ℕ) : Type 0 where
  pub free : id_named t name ≡ None
  pub few : length (live_ids t) < 64
  pub next : t.counters.id ≡ id

none_refused : (found : Option ℕ) (many spent : Bool) (next id : ℕ) → (if is_some found then Err Exists else (if many then Err TooMany else (if spent then Err Spent else Ok next))) ≡ Ok id → (found ≡ None) × (many ≡ false) × (next ≡ id)
none_refused (Some x) many spent next id h = cc
none_refused None true spent next id h = cc
none_refused None false true next id h = cc
none_refused None false false next id h = (refl, refl, cc)

pub allows : (t : Table) (name : List ℕ) (id : ℕ) → new_id t name ≡ Ok id → Allows t name id
allows t name id h =
    let facts = none_refused (id_named t name) (nat_le 64 (length (live_ids t))) (nat_eq t.counters.id 4294967295) t.counters.id id h in
    record { free = facts.0; few = leb-false 64 (length (live_ids t)) facts.1; next = facts.2 }
