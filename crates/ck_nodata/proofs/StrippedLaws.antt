-- What is left to strip after a change that nobody sees, and after a strip.
use Rattle.std.proofs.Common.{◌≡◌, ℕ, ◌<◌, Bool, true, false, cond, ◌||◌, not, T, ◌⊎◌, inl, inr, List, [], ◌∷◌, ◌++◌, filter, find, map as list_map, Option, Some, None, IfSome, is_some, if◌then◌else◌, refl, sym, ap, subst, ◌∙◌, arith}
use Rattle.std.specs.Ordering.{eq_by_cmp, is_lt}
use Rattle.std.specs.Option.{option_map, option_map_or, option_or}
use Rattle.std.specs.List.{AllByRecursion}
use Rattle.std.specs.FinMap.{is_sorted}
use Rattle.std.specs.FinMap.Entries.{below_all}
use Rattle.std.specs.FinMap as map
use Rattle.std.proofs.lemmas.Bool.{and_from, false≢true}
use Rattle.std.proofs.lemmas.Bool.Decides.{nat_tests}
use Rattle.ck_model.specs.declared.checkpoint.Fileset.{Fileset}
use Rattle.ck_model.specs.declared.change.Freed.{Freed}
use Rattle.ck_model.specs.declared.held.Held.{Held}
use Rattle.ck_model.specs.declared.held.Held.TheVariants.{Absent, Plain, Extent, Mark}
use Rattle.ck_model.specs.declared.key.Key.{Key}
use Rattle.ck_model.specs.Key.{key_cmp}
use Rattle.ck_model.specs.Rows.{row_of}
use Rattle.ck_model.specs.Table.{Table, IsTable, column, newer, with_entry}
use Rattle.ck_model.specs.TableWorld.{is_among}
use Rattle.ck_model.specs.Chain.{as_mark, is_gone, is_live, keeps_data}
use Rattle.ck_model.proofs.CaseLaws.{and_left, and_right, head_of, none_some, not_true, some_same}
use Rattle.ck_model.proofs.CellLaws.{tied-is}
use Rattle.ck_model.proofs.RowLaws.{find-row_of, is_sorted-row_of}
use Rattle.ck_chain.specs.Needless.{in_between}
use Rattle.ck_chain.specs.Order.{is_behind}
use Rattle.ck_chain.proofs.ColumnLaws.{column-with_entry}
use Rattle.ck_chain.proofs.NewerLaws.{newer_split}
use Rattle.ck_chain.proofs.OrderLaws.{among-keys, keys-row}
use Rattle.ck_chain.proofs.OrderlyLaws.{positive_id}
use Rattle.ck_chain.proofs.ReadLaws.{live_stands}
use Rattle.ck_remove.specs.Unseen.{IsUnseen}
use Rattle.ck_nodata.specs.declared.item.StripItem.{StripItem}
use Rattle.ck_nodata.specs.StripItem.{IsStrippedTo, drops_data, first_extent, first_strip, is_extent, is_unstripped, strip_in, strip_work_of}
use Rattle.ck_nodata.specs.Stripped.{IsStrip}
use Rattle.ck_nodata.proofs.WorkLemmas.{extent_stands, item_at, none_in}
use Rattle.ck_nodata.proofs.PlaceLemmas.{strip_in_id}

dead_where_gone : (o : Option Fileset) → option_map_or (λ (f : Fileset). f.gone) o false ≡ true → option_map_or (λ (f : Fileset). not f.gone) o false ≡ false
dead_where_gone None h = refl
dead_where_gone (Some f) h = ap not h

-- no checkpoint comes to life
live_before : (old new : Table) → IsUnseen old new → (fs : ℕ) → is_live new fs ≡ true → is_live old fs ≡ true
live_before old new unseen fs live =
    elim (is_gone old fs) as (λ b. is_gone old fs ≡ b → is_live old fs ≡ true) [
      | false ↦ λ kept. sym (ap (λ o. option_map_or (λ (f : Fileset). not f.gone) o false) (unseen.filesets fs kept)) ∙ live
      | true ↦ λ gone. absurd (elim (unseen.gone fs gone) [
        | inl same ↦ false≢true (sym (dead_where_gone (map.get old.filesets fs) gone) ∙ sym (ap (λ o. option_map_or (λ (f : Fileset). not f.gone) o false) same) ∙ live)
        | inr none ↦ false≢true (sym (ap (λ o. option_map_or (λ (f : Fileset). not f.gone) o false) none) ∙ live)
      ])
    ] refl

extent_is : (o : Option Held) → is_extent o ≡ true → (stamp : ℕ) × ((block : ℕ) × (o ≡ Some (Extent stamp block)))
extent_is None h = absurd (false≢true h)
extent_is (Some Absent) h = absurd (false≢true h)
extent_is (Some (Plain stamp small)) h = absurd (false≢true h)
extent_is (Some (Extent stamp block)) h = (stamp, (block, refl))
extent_is (Some (Mark stamp)) h = absurd (false≢true h)

-- what is left to strip was left before
pub left_before : (old new : Table) → IsUnseen old new → (fs : ℕ) (key : Key) → is_unstripped new fs key ≡ true → is_unstripped old fs key ≡ true
left_before old new unseen fs key left =
    let drops = and_left (drops_data new fs) (is_extent (column new key fs)) left in
    let extent = extent_is (column new key fs) (and_right (drops_data new fs) (is_extent (column new key fs)) left) in
    let live = live_before old new unseen fs (and_left (is_live new fs) (not (keeps_data new fs)) drops) in
    let none : keeps_data old fs ≡ false = sym (unseen.keeps fs) ∙ not_true (keeps_data new fs) (and_right (is_live new fs) (not (keeps_data new fs)) drops) in
    and_from (drops_data old fs) (is_extent (column old key fs)) (and_from (is_live old fs) (not (keeps_data old fs)) live (ap not none))
    (ap is_extent (unseen.dropped fs key extent.0 extent.1.0 none extent.1.1))

-- nothing is left up to there still
pub stripped_still : (old new : Table) (last : StripItem) → IsUnseen old new → IsStrippedTo old last → IsStrippedTo new last
stripped_still old new last unseen done fs key left = done fs key (left_before old new unseen fs key left)

-- ---- the first one is before all others

true_of : (b : Bool) → T b → b ≡ true
true_of true h = refl
true_of false h = absurd h

below_among : (x q : Key) (es : List (Key × Held)) → T (below_all key_cmp x es) → is_among q (list_map (λ e. e.0) es) ≡ true → is_behind x q ≡ true
below_among x q [] below among = absurd (false≢true among)
below_among x q (e ∷ es) below among =
    let parts = head_of (is_lt (key_cmp x e.0)) (below_all key_cmp x es) below in
    elim (eq_by_cmp key_cmp q e.0) as (λ b. eq_by_cmp key_cmp q e.0 ≡ b → (b || is_among q (list_map (λ e. e.0) es)) ≡ true → is_behind x q ≡ true) [
      | true ↦ λ tied _. ap (is_behind x) (tied-is q e.0 tied) ∙ true_of (is_lt (key_cmp x e.0)) parts.0
      | false ↦ λ _ further. below_among x q es parts.1 further
    ] refl among

-- what is found of keys in order is before all others that pass
found_first : (p : Key → Bool) (es : List (Key × Held)) → T (is_sorted key_cmp es) → (k q : Key) → find p (list_map (λ e. e.0) es) ≡ Some k → is_among q (list_map (λ e. e.0) es) ≡ true → p q ≡ true → (q ≡ k) ⊎ (is_behind k q ≡ true)
found_first p [] s k q found among passes = absurd (false≢true among)
found_first p (e ∷ es) s k q found among passes =
    let parts = head_of (below_all key_cmp e.0 es) (is_sorted key_cmp es) s in
    let rest = find p (list_map (λ (e : Key × Held). e.0) es) in
    elim (eq_by_cmp key_cmp q e.0) as (λ b. eq_by_cmp key_cmp q e.0 ≡ b → (b || is_among q (list_map (λ e. e.0) es)) ≡ true → (q ≡ k) ⊎ (is_behind k q ≡ true)) [
      | true ↦ λ tied _.
          let same = tied-is q e.0 tied in
          inl (same ∙ some_same e.0 k (sym (ap (λ b. cond b (Some e.0) rest) (ap p (sym same) ∙ passes)) ∙ found))
      | false ↦ λ _ further.
          elim (p e.0) as (λ b. cond b (Some e.0) rest ≡ Some k → (q ≡ k) ⊎ (is_behind k q ≡ true)) [
            | true ↦ λ first. inr (subst (λ x. is_behind x q ≡ true) (some_same e.0 k first) (below_among e.0 q es parts.0 further))
            | false ↦ λ later. found_first p es parts.1 k q later further passes
          ] found
    ] refl among

-- of one checkpoint
first_in : (t : Table) (fs : ℕ) (item : StripItem) (key : Key) → strip_in t fs None ≡ Some item → is_unstripped t fs key ≡ true → (fs ≡ item.id) × ((key ≡ item.key) ⊎ (is_behind item.key key ≡ true))
first_in t fs item key is left =
    let drops = and_left (drops_data t fs) (is_extent (column t key fs)) left in
    let extent = and_right (drops_data t fs) (is_extent (column t key fs)) left in
    let p : Key → Bool = λ q. is_extent (column t q fs) in
    elim (first_extent t fs None) as (λ o. first_extent t fs None ≡ o → option_map (item_at fs) o ≡ Some item → (fs ≡ item.id) × ((key ≡ item.key) ⊎ (is_behind item.key key ≡ true))) [
      | None ↦ λ _ none. absurd (none_some item none)
      | Some k ↦ λ found same.
          let at = some_same (item_at fs k) item same in
          let place = found_first p (row_of t fs) (is_sorted-row_of t fs) k key (sym (ap (find p) (keys-row fs (map.entries t.entries))) ∙ found)
          (among-keys key (row_of t fs) ∙ ap is_some (find-row_of t fs key) ∙ extent_stands (column t key fs) extent) extent in
          subst (λ (i : StripItem). (fs ≡ i.id) × ((key ≡ i.key) ⊎ (is_behind i.key key ≡ true))) at (refl, place)
    ] refl (sym (ap (λ (b : Bool). if b then option_map (item_at fs) (first_extent t fs None) else None) drops) ∙ is)

abbrev NotBefore : StripItem → ℕ → Key → Type 0
NotBefore item fs key = (item.id < fs) ⊎ ((fs ≡ item.id) × ((key ≡ item.key) ⊎ (is_behind item.key key ≡ true)))

least_among : (t : Table) (fs : ℕ) (key : Key) (item : StripItem) (xs ys : List ℕ) → AllByRecursion (λ x. x < fs) xs → is_unstripped t fs key ≡ true → first_strip t (xs ++ fs ∷ ys) ≡ Some item → NotBefore item fs key
least_among t fs key item [] ys lower left is =
    elim (strip_in t fs None) as (λ o. strip_in t fs None ≡ o → option_or o (first_strip t ys) ≡ Some item → NotBefore item fs key) [
      | None ↦ λ none _.
          let bare = none_in t fs (and_left (drops_data t fs) (is_extent (column t key fs)) left) none key in
          absurd (false≢true (sym bare ∙ and_right (drops_data t fs) (is_extent (column t key fs)) left))
      | Some i ↦ λ here same. inr (first_in t fs item key (here ∙ same) left)
    ] refl is
least_among t fs key item (x ∷ xs) ys lower left is =
    let lt = lower.0 in
    elim (strip_in t x None) as (λ o. IfSome o (λ i. i.id ≡ x) → option_or o (first_strip t (xs ++ fs ∷ ys)) ≡ Some item → NotBefore item fs key) [
      | None ↦ λ _ rest. least_among t fs key item xs ys lower.1 left rest
      | Some i ↦ λ at same.
          let id : item.id ≡ x = ap (λ (j : StripItem). j.id) (sym (some_same i item same)) ∙ at in
          inl (omega (arith, id, lt))
    ] (strip_in_id t x None) is

all_lower : (n : ℕ) (ids : List ℕ) → AllByRecursion (λ x. x < n) (filter (in_between 0 n) ids)
all_lower n [] = tt
all_lower n (x ∷ ids) =
    let rest = all_lower n ids in
    elim (in_between 0 n x) as (λ b. in_between 0 n x ≡ b → AllByRecursion (λ x. x < n) (cond b (x ∷ filter (in_between 0 n) ids) (filter (in_between 0 n) ids))) [
      | true ↦ λ between. let lower : x < n = grind (arith, nat_tests) in (lower, rest)
      | false ↦ λ _. rest
    ] refl

work_least : (t : Table) (item : StripItem) → IsTable t → strip_work_of t ≡ Some item → (fs : ℕ) (key : Key) → is_unstripped t fs key ≡ true → NotBefore item fs key
work_least t item lawful work fs key left =
    let drops = and_left (drops_data t fs) (is_extent (column t key fs)) left in
    let stands = live_stands t fs (and_left (is_live t fs) (not (keeps_data t fs)) drops) in
    let least = positive_id t fs lawful stands in
    least_among t fs key item (filter (in_between 0 fs) (map.keys t.filesets)) (newer t fs) (all_lower fs (map.keys t.filesets)) left
    (sym (ap (first_strip t) (newer_split t 0 fs (omega (arith, least)) stands)) ∙ work)

no_mark : (o : Option Held) → is_extent (option_map as_mark o) ≡ false
no_mark None = refl
no_mark (Some Absent) = refl
no_mark (Some (Plain stamp small)) = refl
no_mark (Some (Extent stamp block)) = refl
no_mark (Some (Mark stamp)) = refl

-- once the first one is stripped, nothing is left up to it
pub stripped_to : (old new : Table) (item : StripItem) (freed : Freed) → IsTable old → strip_work_of old ≡ Some item → IsStrip old new item freed → IsStrippedTo new item
stripped_to old new item freed lawful work strip fs key left =
    elim (work_least old item lawful work fs key (left_before old new strip.unseen fs key left)) [
      | inl more ↦ inl more
      | inr here ↦ elim here.1 [
        | inr behind ↦ inr (here.0, behind)
        | inl same ↦
            let mark = option_map as_mark (column old item.key item.id) in
            let there : column (with_entry old item.id item.key mark) item.key item.id ≡ mark = column-with_entry old item.id item.key mark item.id ∙ grind (arith, nat_tests) in
            let is : column new key fs ≡ mark = ap (λ u. column u key fs) strip.table ∙ (λ i. column (with_entry old item.id item.key mark) (same i) (here.0 i)) ∙ there in
            absurd (false≢true (sym (ap is_extent is ∙ no_mark (column old item.key item.id)) ∙ and_right (drops_data new fs) (is_extent (column new key fs)) left))
      ]
    ]
