-- What stands in the lists of streams, and what they make of one another.
use Rattle.std.proofs.Common.{◌≡◌, true, false, cond, T, Option, Some, None, List, [], ◌∷◌, map as list_map, if◌then◌else◌, refl, sym, ap, subst, ◌∙◌}
use Rattle.std.specs.Ordering.{eq_by_cmp}
use Rattle.std.specs.Option.{option_map, unwrap_or}
use Rattle.std.specs.FinMap.{find, is_sorted, entries_sorted}
use Rattle.std.specs.FinMap as map
use Rattle.ck_model.specs.declared.key.Key.{Key}
use Rattle.ck_model.specs.declared.cell.Cell.{Cell}
use Rattle.ck_model.specs.Key.{key_cmp, key_cmp_total}
use Rattle.ck_model.specs.Cells.{Cells, Content, marked, differs, differences, OfOneHistory}
use Rattle.ck_model.specs.Streams.{image, changed, set_to, set_all, applied}
use Rattle.ck_model.proofs.CellLaws.{find-values, is_sorted-values, entries_are, get-differences, differences-marked}

abbrev content_of : Cell → Content
content_of cell = cell.payload

-- an image has each key of the map and what it holds
pub find-image : (cells : Cells) (q : Key) → find key_cmp q (image cells) ≡ option_map (λ cell. cell.payload) (map.get cells q)
find-image cells q = find-values (λ key. content_of) q (map.entries cells) ∙ ap (option_map content_of) (sym (map.get-entries cells q))

pub is_sorted-image : (cells : Cells) → T (is_sorted key_cmp (image cells))
is_sorted-image cells = subst T (sym (is_sorted-values (λ key. content_of) (map.entries cells))) (entries_sorted cells)

-- what changed has each key at which the maps differ and what the second one holds
pub find-changed : (a b : Cells) (q : Key) → find key_cmp q (changed a b) ≡ (if differs (map.get a q) (map.get b q) then Some (option_map (λ cell. cell.payload) (map.get b q)) else None)
find-changed a b q =
    find-values (λ key. option_map content_of) q (map.entries (differences a b))
    ∙ ap (option_map (option_map content_of)) (sym (map.get-entries (differences a b) q) ∙ get-differences a b q)
    ∙ elim (differs (map.get a q) (map.get b q)) as (λ d. option_map (option_map content_of) (if d then Some (map.get b q) else None) ≡ (if d then Some (option_map content_of (map.get b q)) else None)) [
      | true ↦ refl
      | false ↦ refl
    ]

pub is_sorted-changed : (a b : Cells) → T (is_sorted key_cmp (changed a b))
is_sorted-changed a b = subst T (sym (is_sorted-values (λ key. option_map content_of) (map.entries (differences a b)))) (entries_sorted (differences a b))

-- that the first map has marks in place of blocks changes nothing
pub changed-marked : (a b : Cells) → changed (marked a) b ≡ changed a b
changed-marked a b = ap (λ d. list_map (λ e. (e.0, option_map content_of e.1)) (map.entries d)) (differences-marked a b)

get-set_to : (contents : map.FinMap key_cmp Content) (k : Key) (new : Option Content) (q : Key) → map.get (set_to contents k new) q ≡ cond (eq_by_cmp key_cmp q k) new (map.get contents q)
get-set_to contents k None q = map.get-remove key_cmp_total contents k q
get-set_to contents k (Some content) q = map.get-insert key_cmp_total contents k content q

-- after changes a key has what the first change of it puts, or what it had
pub get-set_all : (contents : map.FinMap key_cmp Content) (changes : List (Key × Option Content)) (q : Key) → map.get (set_all contents changes) q ≡ unwrap_or (find key_cmp q changes) (map.get contents q)
get-set_all contents [] q = refl
get-set_all contents (e ∷ es) q =
    get-set_to (set_all contents es) e.0 e.1 q
    ∙ ap (cond (eq_by_cmp key_cmp q e.0) e.1) (get-set_all contents es q)
    ∙ elim (eq_by_cmp key_cmp q e.0) as (λ b. cond b e.1 (unwrap_or (find key_cmp q es) (map.get contents q)) ≡ unwrap_or (cond b (Some e.1) (find key_cmp q es)) (map.get contents q)) [
      | true ↦ refl
      | false ↦ refl
    ]

-- what the second map holds, from what changed and what the first one holds
new_content : (a b : Cells) → OfOneHistory a b → (q : Key) → unwrap_or (if differs (map.get a q) (map.get b q) then Some (option_map content_of (map.get b q)) else None) (option_map content_of (map.get a q)) ≡ option_map content_of (map.get b q)
new_content a b history q =
    elim (differs (map.get a q) (map.get b q)) as (λ d. differs (map.get a q) (map.get b q) ≡ d → unwrap_or (if d then Some (option_map content_of (map.get b q)) else None) (option_map content_of (map.get a q)) ≡ option_map content_of (map.get b q)) [
      | true ↦ λ _. refl
      | false ↦ λ same. ap (option_map content_of) (history q same)
    ] refl

-- what changed from one map to another, applied to the first one's image, gives the second one's
pub applied-changed : (a b : Cells) → OfOneHistory a b → applied (image a) (changed a b) ≡ image b
applied-changed a b history =
    entries_are (set_all (map.from_entries (image a)) (changed a b)) (image b) (is_sorted-image b) (λ q.
    get-set_all (map.from_entries (image a)) (changed a b) q
    ∙ (λ i. unwrap_or (find-changed a b q i) ((map.get-from_entries key_cmp_total (image a) q ∙ find-image a q) i))
    ∙ new_content a b history q
    ∙ sym (find-image b q))
