-- The first data block that is left to strip.
use Rattle.std.proofs.Common.{◌≡◌, ℕ, Bool, true, false, cond, ◌&&◌, ◌||◌, not, List, [], ◌∷◌, ◌++◌, filter, find, inl, inr, Option, Some, None, is_some, IsSome, IfSome, IfNone, if◌then◌else◌, refl, sym, ap, ◌∙◌, arith}
use Rattle.std.specs.Ordering.{eq_by_cmp}
use Rattle.std.specs.Option.{option_map, option_map_or, option_or}
use Rattle.std.specs.FinMap as map
use Rattle.std.proofs.lemmas.Bool.{and_from, false≢true}
use Rattle.ck_model.specs.declared.key.Key.{Key}
use Rattle.ck_model.specs.declared.checkpoint.Fileset.{Fileset}
use Rattle.ck_model.specs.declared.held.Held.{Held}
use Rattle.ck_model.specs.Key.{key_cmp}
use Rattle.ck_model.specs.Rows.{row_of}
use Rattle.ck_model.specs.Table.{Table, IsTable, column, keys_in, newer}
use Rattle.ck_model.specs.TableWorld.{is_among}
use Rattle.ck_model.specs.Chain.{is_live, keeps_data}
use Rattle.ck_model.specs.Placed.{AllStripped, NoneGone}
use Rattle.ck_model.specs.Rules.{IsOrderly}
use Rattle.ck_model.proofs.CaseLaws.{and_left, and_right, none_some, some_is, true_or_false}
use Rattle.ck_model.proofs.CellLaws.{tied-is}
use Rattle.ck_model.proofs.RowLaws.{find-row_of}
use Rattle.ck_chain.specs.Needless.{in_between}
use Rattle.ck_chain.proofs.NewerLaws.{newer_split}
use Rattle.ck_chain.proofs.OrderLaws.{among-keys, keys-row}
use Rattle.ck_chain.proofs.OrderlyLaws.{positive_id}
use Rattle.ck_chain.proofs.ReadLaws.{live_stands}
use Rattle.ck_nodata.specs.declared.item.StripItem.{StripItem}
use Rattle.ck_nodata.specs.StripItem.{drops_data, first_extent, first_strip, is_extent, is_unstripped, strip_in, strip_work_of}
use Rattle.ck_nodata.specs.Stripped.{IsThrough}

-- ---- what is found in a list

found_passes : {X : Type 0} (p : X → Bool) (xs : List X) → IfSome (find p xs) (λ x. p x ≡ true)
found_passes p [] = tt
found_passes p (x ∷ xs) =
    let rest = found_passes p xs in
    elim (p x) as (λ b. p x ≡ b → IfSome (cond b (Some x) (find p xs)) (λ x. p x ≡ true)) [ true ↦ λ h. h | false ↦ λ _. rest ] refl

none_found : {X : Type 0} (p : X → Bool) (xs : List X) → ((x : X) → p x ≡ false) → find p xs ≡ None
none_found p [] fails = refl
none_found p (x ∷ xs) fails = ap (λ b. cond b (Some x) (find p xs)) (fails x) ∙ none_found p xs fails

-- where none is found, none of the keys passes
none_passes : (p : Key → Bool) (keys : List Key) (q : Key) → find p keys ≡ None → is_among q keys ≡ true → p q ≡ false
none_passes p [] q none among = absurd (false≢true among)
none_passes p (key ∷ keys) q none among =
    elim (p key) as (λ b. p key ≡ b → cond b (Some key) (find p keys) ≡ None → p q ≡ false) [
      | true ↦ λ _ wrong. absurd (none_some key (sym wrong))
      | false ↦ λ fails rest.
          elim (eq_by_cmp key_cmp q key) as (λ b. eq_by_cmp key_cmp q key ≡ b → (b || is_among q keys) ≡ true → p q ≡ false) [
            | true ↦ λ tied _. ap p (tied-is q key tied) ∙ fails
            | false ↦ λ _ further. none_passes p keys q rest further
          ] refl among
    ] refl none

-- ---- one checkpoint

among-keys_in : (t : Table) (fs : ℕ) (q : Key) → is_among q (keys_in t fs) ≡ is_some (column t q fs)
among-keys_in t fs q =
    ap (is_among q) (keys-row fs (map.entries t.entries)) ∙ among-keys q (row_of t fs) ∙ ap is_some (find-row_of t fs q)

pub extent_stands : (o : Option Held) → is_extent o ≡ true → IsSome o
extent_stands None h = h
extent_stands (Some held) h = refl

-- where no data block is first, the fileset has none
none_first : (t : Table) (fs : ℕ) → first_extent t fs None ≡ None → (q : Key) → is_extent (column t q fs) ≡ false
none_first t fs none q =
    true_or_false (is_extent (column t q fs)) (λ extent.
    let fails = none_passes (λ key. is_extent (column t key fs)) (keys_in t fs) q none (among-keys_in t fs q ∙ extent_stands (column t q fs) extent) in
    false≢true (sym fails ∙ extent))

no_image : {X Y : Type 0} (f : X → Y) (o : Option X) → option_map f o ≡ None → o ≡ None
no_image f None h = refl
no_image f (Some x) h = absurd (none_some (f x) (sym h))

abbrev pub item_at : ℕ → Key → StripItem
item_at fs key = record { id = fs; key = key }

-- where nothing is stripped of a checkpoint that drops data, it has no data block
pub none_in : (t : Table) (fs : ℕ) → drops_data t fs ≡ true → strip_in t fs None ≡ None → (q : Key) → is_extent (column t q fs) ≡ false
none_in t fs drops none =
    none_first t fs (no_image (item_at fs) (first_extent t fs None) (sym (ap (λ (b : Bool). if b then option_map (item_at fs) (first_extent t fs None) else None) drops) ∙ none))

pub strip_in_is : (t : Table) (fs : ℕ) (after : Option Key) → IfSome (strip_in t fs after) (λ item. is_unstripped t item.id item.key ≡ true)
strip_in_is t fs after =
    elim (drops_data t fs) as (λ b. drops_data t fs ≡ b → IfSome (if b then option_map (item_at fs) (first_extent t fs after) else None) (λ item. is_unstripped t item.id item.key ≡ true)) [
      | false ↦ λ _. tt
      | true ↦ λ drops.
          elim (first_extent t fs after) as (λ o. IfSome o (λ key. is_extent (column t key fs) ≡ true) → IfSome (option_map (item_at fs) o) (λ item. is_unstripped t item.id item.key ≡ true)) [
            | None ↦ λ _. tt
            | Some key ↦ λ extent. and_from (drops_data t fs) (is_extent (column t key fs)) drops extent
          ] (found_passes (λ key. is_extent (column t key fs)) _)
    ] refl

-- ---- all checkpoints

first_strip_is : (t : Table) (ids : List ℕ) → IfSome (first_strip t ids) (λ item. is_unstripped t item.id item.key ≡ true)
first_strip_is t [] = tt
first_strip_is t (fs ∷ ids) =
    let rest = first_strip_is t ids in
    elim (strip_in t fs None) as (λ o. IfSome o (λ item. is_unstripped t item.id item.key ≡ true) → IfSome (option_or o (first_strip t ids)) (λ item. is_unstripped t item.id item.key ≡ true)) [
      | None ↦ λ _. rest
      | Some item ↦ λ h. h
    ] (strip_in_is t fs None)

pub work_is : (t : Table) → IfSome (strip_work_of t) (λ item. is_unstripped t item.id item.key ≡ true)
work_is t = first_strip_is t (newer t 0)

neither : {X : Type 0} (a b : Option X) → option_or a b ≡ None → (a ≡ None) × (b ≡ None)
neither None b h = (refl, h)
neither (Some x) b h = absurd (none_some x (sym h))

none_among : (t : Table) (fs : ℕ) (xs ys : List ℕ) → first_strip t (xs ++ fs ∷ ys) ≡ None → strip_in t fs None ≡ None
none_among t fs [] ys none = (neither (strip_in t fs None) (first_strip t ys) none).0
none_among t fs (x ∷ xs) ys none = none_among t fs xs ys (neither (strip_in t x None) (first_strip t (xs ++ fs ∷ ys)) none).1

-- where there is no work, nothing is left to strip
pub none_left : (t : Table) → IsTable t → strip_work_of t ≡ None → (fs : ℕ) (key : Key) → is_unstripped t fs key ≡ false
none_left t lawful none fs key =
    true_or_false (is_unstripped t fs key) (λ left.
    let drops = and_left (drops_data t fs) (is_extent (column t key fs)) left in
    let extent = and_right (drops_data t fs) (is_extent (column t key fs)) left in
    let stands = live_stands t fs (and_left (is_live t fs) (not (keeps_data t fs)) drops) in
    let least = positive_id t fs lawful stands in
    let here = none_among t fs (filter (in_between 0 fs) (map.keys t.filesets)) (newer t fs) (sym (ap (first_strip t) (newer_split t 0 fs (omega (arith, least)) stands)) ∙ none) in
    false≢true (sym (none_in t fs drops here key) ∙ extent))

pub no_work : (t : Table) → IsTable t → IfNone (strip_work_of t) ((fs : ℕ) (key : Key) → is_unstripped t fs key ≡ false)
no_work t lawful =
    elim (strip_work_of t) as (λ o. strip_work_of t ≡ o → IfNone o ((fs : ℕ) (key : Key) → is_unstripped t fs key ≡ false)) [
      | None ↦ λ none. none_left t lawful none
      | Some item ↦ λ _. tt
    ] refl

-- and where none is gone either, only the primary and checkpoints that keep data name data blocks
pub all_stripped : (t : Table) → ((fs : ℕ) (key : Key) → is_unstripped t fs key ≡ false) → IsOrderly t → NoneGone t → AllStripped t
all_stripped t done rules none fs key stamp block at = elim (rules.homes fs key (ap is_some at)) [
  | inl zero ↦ inl zero
  | inr stands ↦
      let found = some_is (map.get t.filesets fs) stands in
      let live : is_live t fs ≡ true = ap (λ o. option_map_or (λ (f : Fileset). not f.gone) o false) found.1 ∙ ap not (none fs found.0 found.1) in
      inr (elim (keeps_data t fs) as (λ b. keeps_data t fs ≡ b → b ≡ true) [
        | true ↦ λ _. refl
        | false ↦ λ drops. absurd (false≢true (sym (done fs key) ∙ and_from (drops_data t fs) (is_extent (column t key fs)) (and_from (is_live t fs) (not (keeps_data t fs)) live (ap not drops)) (ap is_extent at)))
      ] refl)
]

pub no_work_stripped : (t : Table) → IsTable t → IfNone (strip_work_of t) (IsOrderly t → NoneGone t → AllStripped t)
no_work_stripped t lawful =
    elim (strip_work_of t) as (λ o. strip_work_of t ≡ o → IfNone o (IsOrderly t → NoneGone t → AllStripped t)) [
      | None ↦ λ none. all_stripped t (none_left t lawful none)
      | Some item ↦ λ _. tt
    ] refl

-- ---- a checkpoint that is through

keeping_is_through : (t : Table) (fs : ℕ) → keeps_data t fs ≡ true → drops_data t fs ≡ false
keeping_is_through t fs keeps = elim (is_live t fs) as (λ b. (b && not (keeps_data t fs)) ≡ false) [ true ↦ ap not keeps | false ↦ refl ]

pub through_where_none : (t : Table) (fs : ℕ) → is_live t fs ≡ true → strip_in t fs None ≡ None → IsThrough t fs
through_where_none t fs live none =
    elim (keeps_data t fs) as (λ b. keeps_data t fs ≡ b → IsThrough t fs) [
      | true ↦ λ keeps. inl keeps
      | false ↦ λ drops. inr (none_in t fs (and_from (is_live t fs) (not (keeps_data t fs)) live (ap not drops)) none)
    ] refl

pub none_where_through : (t : Table) (fs : ℕ) → IsThrough t fs → strip_in t fs None ≡ None
none_where_through t fs through = elim through [
  | inl keeps ↦ ap (λ (b : Bool). if b then option_map (item_at fs) (first_extent t fs None) else None) (keeping_is_through t fs keeps)
  | inr bare ↦
      let none : first_extent t fs None ≡ None = none_found (λ key. is_extent (column t key fs)) (keys_in t fs) bare in
      elim (drops_data t fs) as (λ b. (if b then option_map (item_at fs) (first_extent t fs None) else None) ≡ None) [
        | true ↦ ap (option_map (item_at fs)) none
        | false ↦ refl
      ]
]
