-- A map of records after one change, and after many.
use Rattle.std.proofs.Common.{◌≡◌, Bool, true, false, cond, Option, Some, None, List, [], ◌∷◌, map as list_map, refl, sym, ap, subst, ◌∙◌}
use Rattle.std.specs.declared.cmp.Ordering.TheVariants.{Less, Equal, Greater}
use Rattle.std.specs.Ordering.{is_lt, is_eq, eq_by_cmp, match_ordering}
use Rattle.std.specs.Option.{option_map, option_or}
use Rattle.std.specs.List.{AllByRecursion}
use Rattle.std.specs.List.Sorted.{IsStrictlySortedBy}
use Rattle.std.specs.FinMap.{find, is_sorted}
use Rattle.std.specs.FinMap.Entries.{below_all}
use Rattle.std.specs.Map.{lookup}
use Rattle.std.specs.BTreeMap.{BTreeMap, insert_entry, is_at}
use Rattle.std.specs.BTreeMap as tree
use Rattle.ck_model.specs.declared.key.Key.{Key}
use Rattle.ck_model.specs.declared.cell.Payload.{Payload}
use Rattle.ck_model.specs.contracts.key.KeyOrd.TheImpl.{ghosts}
use Rattle.ck_model.specs.Cells.{Content}
use Rattle.ck_model.specs.Key.{key_cmp, key_cmp_exact}
use Rattle.ck_model.proofs.CellLaws.{tied-is, find-values, is_sorted-values}
use Rattle.ck_stream.specs.declared.item.Item.{Item}
use Rattle.ck_stream.specs.Right.{change_of, changes, IsItem, AreItems}
use Rattle.ck_stream.proofs.ByKeyLaws.{both, derived_key, same_test, find_above}
use Rattle.ck_stream.proofs.ItemsLaws.{split}
use Rattle.ck_merge.specs.Merged.{record_of, records, change_at}

abbrev content_of : Option Payload → Option Content
content_of payload = option_map (λ payload. Some payload) payload

change_is : (key : Key) (payload : Option Payload) → change_of (record_of key payload) ≡ (key, content_of payload)
change_is key None = refl
change_is key (Some payload) = refl

changes_are : (es : List (Key × Option Payload)) → changes (records es) ≡ list_map (λ e. (e.0, content_of e.1)) es
changes_are [] = refl
changes_are (e ∷ es) = λ i. change_is e.0 e.1 i ∷ changes_are es i

-- ---- in order

ascending : {X : Type 0} (k : Key) (es : List (Key × X)) → AllByRecursion (λ y. (ghosts).cmp k y ≡ Less) (list_map (λ e. e.0) es) → below_all key_cmp k es ≡ true
ascending k [] h = refl
ascending k (e ∷ es) h = both (is_lt (key_cmp k e.0)) (below_all key_cmp k es) (ap is_lt (sym (derived_key k e.0) ∙ h.0)) (ascending k es h.1)

sorted_entries : {X : Type 0} (es : List (Key × X)) → IsStrictlySortedBy ((ghosts).cmp) (list_map (λ e. e.0) es) → is_sorted key_cmp es ≡ true
unfolding IsStrictlySortedBy
sorted_entries [] h = refl
sorted_entries (e ∷ es) h = both (below_all key_cmp e.0 es) (is_sorted key_cmp es) (ascending e.0 es h.0) (sorted_entries es h.1)

pub sorted_records : (es : List (Key × Option Payload)) → IsStrictlySortedBy ((ghosts).cmp) (list_map (λ e. e.0) es) → is_sorted key_cmp (changes (records es)) ≡ true
sorted_records es h = ap (is_sorted key_cmp) (changes_are es) ∙ is_sorted-values (λ _. content_of) es ∙ sorted_entries es h

-- ---- at a key

lookup_is : {X : Type 0} (q : Key) (es : List (Key × X)) → find key_cmp q es ≡ lookup (is_at ((ghosts).cmp q)) es
lookup_is q [] = refl
lookup_is q (e ∷ es) =
    ap (λ (o : _). cond (is_eq o) (Some e.1) (find key_cmp q es)) (sym (derived_key q e.0))
    ∙ elim (is_eq ((ghosts).cmp q e.0)) as (λ b. cond b (Some e.1) (find key_cmp q es) ≡ cond b (Some e.1) (lookup (is_at ((ghosts).cmp q)) es)) [
      | true ↦ refl
      | false ↦ lookup_is q es
    ]

change_is_at : (items : BTreeMap Key (Option Payload)) (q : Key) → change_at items q ≡ option_map content_of (tree.get ((ghosts).cmp) items q)
change_is_at items q =
    ap (find key_cmp q) (changes_are items.entries) ∙ find-values (λ _. content_of) q items.entries ∙ ap (option_map content_of) (lookup_is q items.entries)

-- ---- one change

pub held_set : (old new : BTreeMap Key (Option Payload)) (k q : Key) (to : Option Payload) → tree.get ((ghosts).cmp) new q ≡ cond (is_at ((ghosts).cmp k) q) (Some to) (tree.get ((ghosts).cmp) old q)
    → change_at new q ≡ cond (eq_by_cmp key_cmp q k) (Some (content_of to)) (change_at old q)
held_set old new k q to set =
    change_is_at new q
    ∙ ap (option_map content_of) set
    ∙ ap (λ (b : Bool). option_map content_of (cond b (Some to) (tree.get ((ghosts).cmp) old q))) (same_test k q)
    ∙ elim (eq_by_cmp key_cmp q k) as (λ b. option_map content_of (cond b (Some to) (tree.get ((ghosts).cmp) old q)) ≡ cond b (Some (content_of to)) (change_at old q)) [
      | true ↦ refl
      | false ↦ sym (change_is_at old q)
    ]

pub each_set : (k : Key) (to : Option Payload) (es : List (Key × Option Payload)) → IsItem (record_of k to) → AllByRecursion IsItem (records es) → AllByRecursion IsItem (records (insert_entry ((ghosts).cmp) es k to))
each_set k to [] right each = (right, tt)
each_set k to (e ∷ es) right each =
    elim ((ghosts).cmp k e.0) as (λ o. (ghosts).cmp k e.0 ≡ o → AllByRecursion IsItem (records (match_ordering o ((k, to) ∷ e ∷ es) ((e.0, to) ∷ es) (e ∷ insert_entry ((ghosts).cmp) es k to)))) [
      | Less ↦ λ _. (right, each)
      | Equal ↦ λ tied. (subst (λ (key : Key). IsItem (record_of key to)) (key_cmp_exact k e.0 (sym (derived_key k e.0) ∙ tied)) right, each.1)
      | Greater ↦ λ _. (each.0, each_set k to es right each.1)
    ] refl

-- ---- all changes

-- a change and then the rest, at each key
pub one_change : (old new : Option (Option Content)) (q : Key) (item : Item) (rest : List Item) → AreItems (item ∷ rest) → new ≡ cond (eq_by_cmp key_cmp q (change_of item).0) (Some (change_of item).1) old
    → option_or (find key_cmp q (changes rest)) new ≡ option_or (find key_cmp q (changes (item ∷ rest))) old
one_change old new q item rest right set =
    let k = (change_of item).0 in
    let above = (split (below_all key_cmp k (changes rest)) (is_sorted key_cmp (changes rest)) right.ascend).0 in
    ap (option_or (find key_cmp q (changes rest))) set
    ∙ elim (eq_by_cmp key_cmp q k) as (λ b. eq_by_cmp key_cmp q k ≡ b → option_or (find key_cmp q (changes rest)) (cond b (Some (change_of item).1) old) ≡ option_or (cond b (Some (change_of item).1) (find key_cmp q (changes rest))) old) [
      | true ↦ λ tied. ap (λ o. option_or o (Some (change_of item).1)) (ap (λ x. find key_cmp x (changes rest)) (tied-is q k tied) ∙ find_above k (changes rest) above)
      | false ↦ λ _. refl
    ] refl
