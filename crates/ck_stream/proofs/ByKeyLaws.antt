-- A map of records after one change, and after many.
use Rattle.std.proofs.Common.{◌≡◌, Bool, true, false, ◌&&◌, cond, T, Option, Some, None, List, [], ◌∷◌, map as list_map, length, refl, sym, ap, subst, ◌∙◌, arith}
use Rattle.std.specs.declared.cmp.Ordering.{Ordering}
use Rattle.std.specs.declared.cmp.Ordering.TheVariants.{Less, Equal, Greater}
use Rattle.std.specs.Ordering.{nat_cmp, is_lt, is_eq, eq_by_cmp, match_ordering, ordering_then, ordering_reverse}
use Rattle.std.specs.Option.{unwrap_or, option_map}
use Rattle.std.specs.List.{AllByRecursion}
use Rattle.std.specs.List.Sorted.{IsStrictlySortedBy}
use Rattle.std.specs.FinMap.{find, is_sorted}
use Rattle.std.specs.FinMap.Entries.{below_all}
use Rattle.std.specs.FinMap as map
use Rattle.std.specs.Map.{lookup, remove_entry}
use Rattle.std.specs.BTreeMap.{BTreeMap, insert_entry, is_at}
use Rattle.std.specs.BTreeMap as tree
use Rattle.ck_model.specs.declared.key.Key.{Key}
use Rattle.ck_model.specs.declared.key.Key.TheVariants.{Name, Node, Block}
use Rattle.ck_model.specs.declared.cell.Payload.{Payload}
use Rattle.ck_model.specs.contracts.key.KeyOrd.TheImpl.{ghosts}
use Rattle.ck_model.specs.Cells.{Content}
use Rattle.ck_model.specs.Key.{key_cmp, key_cmp_total, key_cmp_exact}
use Rattle.ck_model.specs.Streams.{set_to, set_all, applied}
use Rattle.ck_model.proofs.CellLaws.{tied-is, entries_are}
use Rattle.ck_stream.specs.declared.item.Item.{Item}
use Rattle.ck_stream.specs.declared.item.Item.TheVariants.{Put, Removed}
use Rattle.ck_stream.specs.Right.{change_of, changes, contents, IsItem, IsPut, AreItems}
use Rattle.ck_stream.specs.ByKey.{records, held_at}
use Rattle.ck_stream.proofs.ItemsLaws.{split}

pub both : (a b : Bool) → a ≡ true → b ≡ true → (a && b) ≡ true
both a b p q = rw (p, q) refl

less : (r : Ordering) → is_lt r ≡ true → r ≡ Less
less Less h = refl
less Equal h = absurd cc
less Greater h = absurd cc

-- ---- the order of the keys in a map is theirs

then_equal : (o : Ordering) → o ≡ ordering_then o Equal
then_equal Less = refl
then_equal Equal = refl
then_equal Greater = refl

pub derived_key : (x y : Key) → (ghosts).cmp x y ≡ key_cmp x y
derived_key (Name d n) (Name e m) = refl
derived_key (Name d n) (Node y) = refl
derived_key (Name d n) (Block y j) = refl
derived_key (Node x) (Name e m) = refl
derived_key (Node x) (Node y) = then_equal (nat_cmp x y)
derived_key (Node x) (Block y j) = refl
derived_key (Block x i) (Name e m) = refl
derived_key (Block x i) (Node y) = refl
derived_key (Block x i) (Block y j) = ap (ordering_then (nat_cmp x y)) (then_equal (nat_cmp i j))

reversed_equal : (o : Ordering) → is_eq (ordering_reverse o) ≡ is_eq o
reversed_equal Less = refl
reversed_equal Equal = refl
reversed_equal Greater = refl

pub same_test : (x y : Key) → is_eq ((ghosts).cmp x y) ≡ eq_by_cmp key_cmp y x
same_test x y = ap is_eq (derived_key x y ∙ key_cmp_total.antisymm x y) ∙ reversed_equal (key_cmp y x)

held_is : (q : Key) (es : List (Key × Payload)) → find key_cmp q (contents (records es)) ≡ option_map (λ payload. Some payload) (lookup (is_at ((ghosts).cmp q)) es)
held_is q [] = refl
held_is q (e ∷ es) =
    ap (λ (o : Ordering). cond (is_eq o) (Some (Some e.1)) (find key_cmp q (contents (records es)))) (sym (derived_key q e.0))
    ∙ elim (is_eq ((ghosts).cmp q e.0)) as (λ b. cond b (Some (Some e.1)) (find key_cmp q (contents (records es))) ≡ option_map (λ payload. Some payload) (cond b (Some e.1) (lookup (is_at ((ghosts).cmp q)) es))) [
      | true ↦ refl
      | false ↦ held_is q es
    ]

ascending : (k : Key) (es : List (Key × Payload)) → AllByRecursion (λ y. (ghosts).cmp k y ≡ Less) (list_map (λ e. e.0) es) → below_all key_cmp k (changes (records es)) ≡ true
ascending k [] h = refl
ascending k (e ∷ es) h = both (is_lt (key_cmp k e.0)) (below_all key_cmp k (changes (records es))) (ap is_lt (sym (derived_key k e.0) ∙ h.0)) (ascending k es h.1)

pub sorted_records : (es : List (Key × Payload)) → IsStrictlySortedBy ((ghosts).cmp) (list_map (λ e. e.0) es) → is_sorted key_cmp (changes (records es)) ≡ true
unfolding IsStrictlySortedBy
sorted_records [] h = refl
sorted_records (e ∷ es) h = both (below_all key_cmp e.0 (changes (records es))) (is_sorted key_cmp (changes (records es))) (ascending e.0 es h.0) (sorted_records es h.1)

-- ---- one change

pub held_set : (old new : BTreeMap Key Payload) (k q : Key) (to : Option Payload) → tree.get ((ghosts).cmp) new q ≡ cond (is_at ((ghosts).cmp k) q) to (tree.get ((ghosts).cmp) old q)
    → held_at new q ≡ cond (eq_by_cmp key_cmp q k) (option_map (λ payload. Some payload) to) (held_at old q)
held_set old new k q to set =
    held_is q new.entries
    ∙ ap (option_map (λ payload. Some payload)) set
    ∙ ap (λ (b : Bool). option_map (λ payload. Some payload) (cond b to (tree.get ((ghosts).cmp) old q))) (same_test k q)
    ∙ elim (eq_by_cmp key_cmp q k) as (λ b. option_map (λ payload. Some payload) (cond b to (tree.get ((ghosts).cmp) old q)) ≡ cond b (option_map (λ payload. Some payload) to) (held_at old q)) [
      | true ↦ refl
      | false ↦ sym (held_is q old.entries)
    ]

pub each_put : (k : Key) (payload : Payload) (es : List (Key × Payload)) → IsItem (Put k payload) → AllByRecursion IsItem (records es) → AllByRecursion IsItem (records (insert_entry ((ghosts).cmp) es k payload))
each_put k payload [] right each = (right, tt)
each_put k payload (e ∷ es) right each =
    elim ((ghosts).cmp k e.0) as (λ o. (ghosts).cmp k e.0 ≡ o → AllByRecursion IsItem (records (match_ordering o ((k, payload) ∷ e ∷ es) ((e.0, payload) ∷ es) (e ∷ insert_entry ((ghosts).cmp) es k payload)))) [
      | Less ↦ λ _. (right, each)
      | Equal ↦ λ tied. (subst (λ (key : Key). IsItem (Put key payload)) (key_cmp_exact k e.0 (sym (derived_key k e.0) ∙ tied)) right, each.1)
      | Greater ↦ λ _. (each.0, each_put k payload es right each.1)
    ] refl

pub each_left : (test : Key → Bool) (es : List (Key × Payload)) → AllByRecursion IsItem (records es) → AllByRecursion IsItem (records (remove_entry test es))
each_left test [] each = tt
each_left test (e ∷ es) each =
    elim (test e.0) as (λ b. AllByRecursion IsItem (records (cond b es (e ∷ remove_entry test es)))) [
      | true ↦ each.1
      | false ↦ (each.0, each_left test es each.1)
    ]

-- ---- all changes

-- a key below all others isn't found
pub find_above : {X : Type 0} (key : Key) (es : List (Key × X)) → below_all key_cmp key es ≡ true → find key_cmp key es ≡ None
find_above key [] h = refl
find_above key (e ∷ es) h =
    let parts = split (is_lt (key_cmp key e.0)) (below_all key_cmp key es) h in
    ap (λ (r : Ordering). cond (is_eq r) (Some e.1) (find key_cmp key es)) (less (key_cmp key e.0) parts.0) ∙ find_above key es parts.1

pub right_rest : (item : Item) (rest : List Item) → AreItems (item ∷ rest) → AreItems rest
right_rest item rest right = record { each = right.each.1; ascend = (split (below_all key_cmp (change_of item).0 (changes rest)) (is_sorted key_cmp (changes rest)) right.ascend).1 }

-- a change and then the rest, at each key
pub one_change : (old new : Option Content) (q : Key) (item : Item) (rest : List Item) → AreItems (item ∷ rest) → new ≡ cond (eq_by_cmp key_cmp q (change_of item).0) (change_of item).1 old
    → unwrap_or (find key_cmp q (changes rest)) new ≡ unwrap_or (find key_cmp q (changes (item ∷ rest))) old
one_change old new q item rest right set =
    let k = (change_of item).0 in
    let above = (split (below_all key_cmp k (changes rest)) (is_sorted key_cmp (changes rest)) right.ascend).0 in
    ap (unwrap_or (find key_cmp q (changes rest))) set
    ∙ elim (eq_by_cmp key_cmp q k) as (λ b. eq_by_cmp key_cmp q k ≡ b → unwrap_or (find key_cmp q (changes rest)) (cond b (change_of item).1 old) ≡ unwrap_or (cond b (Some (change_of item).1) (find key_cmp q (changes rest))) old) [
      | true ↦ λ tied. ap (λ o. unwrap_or o (change_of item).1) (ap (λ x. find key_cmp x (changes rest)) (tied-is q k tied) ∙ find_above k (changes rest) above)
      | false ↦ λ _. refl
    ] refl

get-set_to : (made : map.FinMap key_cmp Content) (k : Key) (new : Option Content) (q : Key) → map.get (set_to made k new) q ≡ cond (eq_by_cmp key_cmp q k) new (map.get made q)
get-set_to made k None q = map.get-remove key_cmp_total made k q
get-set_to made k (Some content) q = map.get-insert key_cmp_total made k content q

get-set_all : (made : map.FinMap key_cmp Content) (es : List (Key × Option Content)) (q : Key) → map.get (set_all made es) q ≡ unwrap_or (find key_cmp q es) (map.get made q)
get-set_all made [] q = refl
get-set_all made (e ∷ es) q =
    get-set_to (set_all made es) e.0 e.1 q
    ∙ ap (cond (eq_by_cmp key_cmp q e.0) e.1) (get-set_all made es q)
    ∙ elim (eq_by_cmp key_cmp q e.0) as (λ b. cond b e.1 (unwrap_or (find key_cmp q es) (map.get made q)) ≡ unwrap_or (cond b (Some e.1) (find key_cmp q es)) (map.get made q)) [
      | true ↦ refl
      | false ↦ refl
    ]

above_contents : (key : Key) (items : List Item) → below_all key_cmp key (changes items) ≡ true → below_all key_cmp key (contents items) ≡ true
above_contents key [] h = refl
above_contents key (Put k payload ∷ items) h =
    let parts = split (is_lt (key_cmp key k)) (below_all key_cmp key (changes items)) h in
    both (is_lt (key_cmp key k)) (below_all key_cmp key (contents items)) parts.0 (above_contents key items parts.1)
above_contents key (Removed k ∷ items) h = above_contents key items (split (is_lt (key_cmp key k)) (below_all key_cmp key (changes items)) h).1

sorted_contents : (items : List Item) → is_sorted key_cmp (changes items) ≡ true → is_sorted key_cmp (contents items) ≡ true
sorted_contents [] sorted = refl
sorted_contents (Put k payload ∷ items) sorted =
    let parts = split (below_all key_cmp k (changes items)) (is_sorted key_cmp (changes items)) sorted in
    both (below_all key_cmp k (contents items)) (is_sorted key_cmp (contents items)) (above_contents k items parts.0) (sorted_contents items parts.1)
sorted_contents (Removed k ∷ items) sorted = sorted_contents items (split (below_all key_cmp k (changes items)) (is_sorted key_cmp (changes items)) sorted).1

-- what has the changes at each key is the list with the changes made
pub applied_is : (old new out : List Item) → is_sorted key_cmp (changes out) ≡ true
    → ((q : Key) → find key_cmp q (contents out) ≡ unwrap_or (find key_cmp q (changes new)) (find key_cmp q (contents old)))
    → contents out ≡ applied (contents old) (changes new)
applied_is old new out sorted found = sym (
    entries_are (set_all (map.from_entries (contents old)) (changes new)) (contents out) (subst T (sym (sorted_contents out sorted)) tt) (λ q.
    get-set_all (map.from_entries (contents old)) (changes new) q
    ∙ ap (λ (o : Option Content). unwrap_or (find key_cmp q (changes new)) o) (map.get-from_entries key_cmp_total (contents old) q)
    ∙ sym (found q)))

-- ---- from nothing on

found_put : (q : Key) (items : List Item) → AllByRecursion IsPut items → find key_cmp q (contents items) ≡ unwrap_or (find key_cmp q (changes items)) None
found_put q [] puts = refl
found_put q (Put k payload ∷ items) puts =
    elim (eq_by_cmp key_cmp q k) as (λ b. cond b (Some (Some payload)) (find key_cmp q (contents items)) ≡ unwrap_or (cond b (Some (Some (Some payload))) (find key_cmp q (changes items))) None) [
      | true ↦ refl
      | false ↦ found_put q items puts.1
    ]
found_put q (Removed k ∷ items) puts = absurd puts.0

abbrev again : List (Key × Content) → List Item
again [] = []
again (e ∷ es) = elim e.1 as (λ _. List Item) [ None ↦ Removed e.0 ∷ again es | Some payload ↦ Put e.0 payload ∷ again es ]

again_is : (items : List Item) → AllByRecursion IsPut items → again (contents items) ≡ items
again_is [] puts = refl
again_is (Put key payload ∷ items) puts = ap (λ (rest : List Item). Put key payload ∷ rest) (again_is items puts.1)
again_is (Removed key ∷ items) puts = absurd puts.0

pub puts_records : (es : List (Key × Payload)) → AllByRecursion IsPut (records es)
puts_records [] = tt
puts_records (e ∷ es) = (tt, puts_records es)

-- records that are put into nothing are all there is
pub all_put : (es : List (Key × Payload)) (items : List Item) → AreItems items → AllByRecursion IsPut items → contents (records es) ≡ applied [] (changes items) → records es ≡ items
all_put es items right puts made =
    let same : contents (records es) ≡ contents items = made ∙ sym (applied_is [] items items right.ascend (λ q. found_put q items puts)) in
    sym (again_is (records es) (puts_records es)) ∙ ap again same ∙ again_is items puts

pub nothing_left : {X : Type 0} (l : List X) → length l ≡ 0 → l ≡ []
nothing_left [] h = refl
nothing_left (x ∷ xs) h = absurd (omega arith)
