-- What the maps of cells hold at each key.
use Rattle.std.proofs.Common.{◌≡◌, Bool, true, false, cond, ◌&&◌, not, T, Option, Some, None, is_some, List, [], ◌∷◌, ◌++◌, map as list_map, if◌then◌else◌, nat_eq, refl, sym, ap, ◌∙◌, arith}
use Rattle.std.specs.declared.cmp.Ordering.{Ordering}
use Rattle.std.specs.declared.cmp.Ordering.TheVariants.{Less, Equal, Greater}
use Rattle.std.specs.Ordering.{eq_by_cmp, is_eq, is_lt}
use Rattle.std.specs.Option.{option_or, option_map}
use Rattle.std.specs.FinMap.{find, is_sorted, entries_sorted}
use Rattle.std.specs.FinMap.Entries.{below_all, same_entries}
use Rattle.std.specs.FinMap as map
use Rattle.std.proofs.lemmas.Bool.Decides.{nat_tests}
use Rattle.ck_model.specs.declared.key.Key.{Key}
use Rattle.ck_model.specs.declared.cell.Cell.{Cell}
use Rattle.ck_model.specs.Key.{key_cmp, key_cmp_total, key_cmp_exact, is_block}
use Rattle.ck_model.specs.Cells.{Cells, with_cells, mark_of, marked, differs, differences}

pub equal : (r : Ordering) → is_eq r ≡ true → r ≡ Equal
equal Less h = cc
equal Equal h = refl
equal Greater h = cc

-- keys that tie are one
pub tied-is : (x y : Key) → eq_by_cmp key_cmp x y ≡ true → x ≡ y
tied-is x y h = key_cmp_exact x y (equal (key_cmp x y) h)

-- the first entry of two lists
pub find-append_or : {X : Type 0} (q : Key) (es fs : List (Key × X)) → find key_cmp q (es ++ fs) ≡ option_or (find key_cmp q es) (find key_cmp q fs)
find-append_or q [] fs = refl
find-append_or q (e ∷ es) fs =
    elim (eq_by_cmp key_cmp q e.0) as (λ b. cond b (Some e.1) (find key_cmp q (es ++ fs)) ≡ option_or (cond b (Some e.1) (find key_cmp q es)) (find key_cmp q fs)) [
      | true ↦ refl
      | false ↦ find-append_or q es fs
    ]

-- a list whose values are made from another's, each from its key and value
pub find-values : {X Y : Type 0} (f : Key → X → Y) (q : Key) (es : List (Key × X)) → find key_cmp q (list_map (λ e. (e.0, f e.0 e.1)) es) ≡ option_map (f q) (find key_cmp q es)
find-values f q [] = refl
find-values f q (e ∷ es) =
    elim (eq_by_cmp key_cmp q e.0) as (λ b. eq_by_cmp key_cmp q e.0 ≡ b → cond b (Some (f e.0 e.1)) (find key_cmp q (list_map (λ x. (x.0, f x.0 x.1)) es)) ≡ option_map (f q) (cond b (Some e.1) (find key_cmp q es))) [
      | true ↦ λ tied. ap (λ key. Some (f key e.1)) (sym (tied-is q e.0 tied))
      | false ↦ λ _. find-values f q es
    ] refl

below_all-values : {X Y : Type 0} (f : Key → X → Y) (k : Key) (es : List (Key × X)) → below_all key_cmp k (list_map (λ e. (e.0, f e.0 e.1)) es) ≡ below_all key_cmp k es
below_all-values f k [] = refl
below_all-values f k (e ∷ es) = ap (λ b. is_lt (key_cmp k e.0) && b) (below_all-values f k es)

-- such a list is in order where the other is
pub is_sorted-values : {X Y : Type 0} (f : Key → X → Y) (es : List (Key × X)) → is_sorted key_cmp (list_map (λ e. (e.0, f e.0 e.1)) es) ≡ is_sorted key_cmp es
is_sorted-values f [] = refl
is_sorted-values f (e ∷ es) = λ i. below_all-values f e.0 es i && is_sorted-values f es i

-- the entries are those of any list in order that has the same at each key
pub entries_are : {X : Type 0} (m : map.FinMap key_cmp X) (es : List (Key × X)) → T (is_sorted key_cmp es) → ((q : Key) → map.get m q ≡ find key_cmp q es) → map.entries m ≡ es
entries_are m es sorted same = same_entries key_cmp key_cmp_total key_cmp_exact (map.entries m) es (entries_sorted m) sorted (λ q. sym (map.get-entries m q) ∙ same q)

-- a key passes a test or its cell isn't there
pub get-retain_keys : {X : Type 0} (m : map.FinMap key_cmp X) (p : Key → Bool) (q : Key) → map.get (map.retain_keys m p) q ≡ (if p q then map.get m q else None)
get-retain_keys m p q = map.get-retain_keys m p q (λ x tied. ap p (sym (key_cmp_exact q x tied)))

-- what was put stands over what there was
pub get-with_cells : (cells : Cells) (es : List (Key × Cell)) (q : Key) → map.get (with_cells cells es) q ≡ option_or (find key_cmp q es) (map.get cells q)
get-with_cells cells [] q = refl
get-with_cells cells (e ∷ es) q =
    map.get-insert key_cmp_total (with_cells cells es) e.0 e.1 q
    ∙ ap (cond (eq_by_cmp key_cmp q e.0) (Some e.1)) (get-with_cells cells es q)
    ∙ elim (eq_by_cmp key_cmp q e.0) as (λ b. cond b (Some e.1) (option_or (find key_cmp q es) (map.get cells q)) ≡ option_or (cond b (Some e.1) (find key_cmp q es)) (map.get cells q)) [
      | true ↦ refl
      | false ↦ refl
    ]

pub get-marked : (cells : Cells) (q : Key) → map.get (marked cells) q ≡ option_map (mark_of q) (map.get cells q)
get-marked cells q =
    map.get-from_entries key_cmp_total (list_map (λ e. (e.0, mark_of e.0 e.1)) (map.entries cells)) q
    ∙ find-values mark_of q (map.entries cells)
    ∙ ap (option_map (mark_of q)) (sym (map.get-entries cells q))

mark_of_again : (q : Key) (o : Option Cell) → option_map (mark_of q) (option_map (mark_of q) o) ≡ option_map (mark_of q) o
mark_of_again q None = refl
mark_of_again q (Some cell) =
    elim (is_block q) as (λ b. Some (if b then record (if b then record cell { payload = None } else cell) { payload = None } else (if b then record cell { payload = None } else cell)) ≡ Some (if b then record cell { payload = None } else cell)) [
      | true ↦ refl
      | false ↦ refl
    ]

-- to mark twice is to mark once
pub marked_again : (cells : Cells) → marked (marked cells) ≡ marked cells
marked_again cells = map.same_map key_cmp_total key_cmp_exact _ _ (λ q.
    get-marked (marked cells) q ∙ ap (option_map (mark_of q)) (get-marked cells q) ∙ mark_of_again q (map.get cells q) ∙ sym (get-marked cells q))

pub differs-itself : (o : Option Cell) → differs o o ≡ false
differs-itself None = refl
differs-itself (Some x) = grind (arith, nat_tests)

-- marks keep their stamps
pub stamp-mark_of : (q : Key) (cell : Cell) → (mark_of q cell).stamp ≡ cell.stamp
stamp-mark_of q cell = elim (is_block q) as (λ b. (if b then record cell { payload = None } else cell).stamp ≡ cell.stamp) [ true ↦ refl | false ↦ refl ]

pub differs-mark_of : (q : Key) (o p : Option Cell) → differs (option_map (mark_of q) o) p ≡ differs o p
differs-mark_of q None p = refl
differs-mark_of q (Some x) None = refl
differs-mark_of q (Some x) (Some y) = ap (λ stamp. not (nat_eq stamp y.stamp)) (stamp-mark_of q x)

get-both : (a b : Cells) (q : Key) → map.get (map.from_entries {R = key_cmp} (list_map (λ e. (e.0, Some e.1)) (map.entries b) ++ list_map (λ e. (e.0, None)) (map.entries a))) q ≡ option_or (option_map (λ cell. Some cell) (map.get b q)) (option_map (λ cell. None) (map.get a q))
get-both a b q =
    map.get-from_entries key_cmp_total _ q
    ∙ find-append_or q (list_map (λ e. (e.0, Some e.1)) (map.entries b)) (list_map (λ e. (e.0, None)) (map.entries a))
    ∙ (λ i. option_or ((find-values (λ key cell. Some cell) q (map.entries b) ∙ ap (option_map (λ cell. Some cell)) (sym (map.get-entries b q))) i) ((find-values (λ key cell. None) q (map.entries a) ∙ ap (option_map (λ cell. None)) (sym (map.get-entries a q))) i))

new_or_gone : (o p : Option Cell) → (if differs o p then option_or (option_map (λ cell. Some cell) p) (option_map (λ cell. None) o) else None) ≡ (if differs o p then Some p else None)
new_or_gone None None = refl
new_or_gone None (Some y) = refl
new_or_gone (Some x) None = refl
new_or_gone (Some x) (Some y) = refl

-- at a key at which the maps differ stands what the second one has
pub get-differences : (a b : Cells) (q : Key) → map.get (differences a b) q ≡ (if differs (map.get a q) (map.get b q) then Some (map.get b q) else None)
get-differences a b q =
    get-retain_keys (map.from_entries (list_map (λ e. (e.0, Some e.1)) (map.entries b) ++ list_map (λ e. (e.0, None)) (map.entries a))) (λ key. differs (map.get a key) (map.get b key)) q
    ∙ ap (λ o. if differs (map.get a q) (map.get b q) then o else None) (get-both a b q)
    ∙ new_or_gone (map.get a q) (map.get b q)

pub contains_key-differences : (a b : Cells) (q : Key) → map.contains_key (differences a b) q ≡ differs (map.get a q) (map.get b q)
contains_key-differences a b q =
    ap is_some (get-differences a b q)
    ∙ elim (differs (map.get a q) (map.get b q)) as (λ d. is_some (if d then Some (map.get b q) else None) ≡ d) [ true ↦ refl | false ↦ refl ]

-- that the first map has marks in place of blocks changes nothing
pub differences-marked : (a b : Cells) → differences (marked a) b ≡ differences a b
differences-marked a b = map.same_map key_cmp_total key_cmp_exact _ _ (λ q.
    get-differences (marked a) b q
    ∙ ap (λ d. if d then Some (map.get b q) else None) (ap (λ o. differs o (map.get b q)) (get-marked a q) ∙ differs-mark_of q (map.get a q) (map.get b q))
    ∙ sym (get-differences a b q))
