-- What merged changes have at each key, and what they come to.
use Rattle.std.proofs.Common.{◌≡◌, true, T, Option, Some, None, List, [], ◌∷◌, ◌++◌, map as list_map, refl, sym, ap, subst, ◌∙◌}
use Rattle.std.specs.Option.{option_or, unwrap_or}
use Rattle.std.specs.FinMap.{find, is_sorted, entries_sorted}
use Rattle.std.specs.FinMap as map
use Rattle.ck_model.specs.declared.key.Key.{Key}
use Rattle.ck_model.specs.Cells.{Cells, Content, OfOneHistory}
use Rattle.ck_model.specs.Key.{key_cmp, key_cmp_total}
use Rattle.ck_model.specs.Streams.{image, set_all, applied, changed as map_changes}
use Rattle.ck_model.proofs.CellLaws.{find-append_or, entries_are}
use Rattle.ck_model.proofs.StreamLaws.{get-set_all, applied-changed}
use Rattle.ck_stream.specs.declared.item.Item.{Item}
use Rattle.ck_stream.specs.declared.item.Item.TheVariants.{Put, Removed}
use Rattle.ck_stream.specs.declared.stream.Full.{Full}
use Rattle.ck_stream.specs.declared.stream.Changed.{Changed}
use Rattle.ck_stream.specs.declared.stream.Stream.TheVariants as stream
use Rattle.ck_stream.specs.Written.{text}
use Rattle.ck_stream.specs.Right.{IsFull, contents, changes}
use Rattle.ck_stream.specs.Texts.{change_for, texts}
use Rattle.ck_stream.proofs.TextsLaws.{text_is}
use Rattle.ck_merge.specs.Merged.{merged}

-- the maps from which the lists are made
abbrev both : List (Key × Option Content) → List (Key × Option Content) → map.FinMap key_cmp (Option Content)
both x y = map.from_entries (y ++ x)

get-both : (x y : List (Key × Option Content)) (q : Key) → map.get (both x y) q ≡ option_or (find key_cmp q y) (find key_cmp q x)
get-both x y q = map.get-from_entries key_cmp_total (y ++ x) q ∙ find-append_or q y x

pub has_both : (x y : List (Key × Option Content)) (q : Key) → find key_cmp q (merged x y) ≡ option_or (find key_cmp q y) (find key_cmp q x)
has_both x y q = sym (map.get-entries (both x y) q) ∙ get-both x y q

-- what has both in order is what is merged
pub merged_is : (x y out : List (Key × Option Content)) → is_sorted key_cmp out ≡ true → ((q : Key) → find key_cmp q out ≡ option_or (find key_cmp q y) (find key_cmp q x)) → out ≡ merged x y
merged_is x y out sorted found =
    sym (entries_are (both x y) out (subst T (sym sorted) tt) (λ q. get-both x y q ∙ sym (found q)))

or_none : {X : Type 0} (o : Option X) → o ≡ option_or o None
or_none None = refl
or_none (Some x) = refl

-- what is merged with nothing stays
pub merged_alone : (changes : List (Key × Option Content)) → is_sorted key_cmp changes ≡ true → changes ≡ merged [] changes
merged_alone changes sorted = merged_is [] changes changes sorted (λ q. or_none (find key_cmp q changes))

-- ---- applied to a list

-- what a key of the list has then
find-applied : (items : List (Key × Content)) (changes : List (Key × Option Content)) (q : Key) → find key_cmp q (applied items changes) ≡ unwrap_or (find key_cmp q changes) (find key_cmp q items)
find-applied items changes q =
    sym (map.get-entries (set_all (map.from_entries items) changes) q)
    ∙ get-set_all (map.from_entries items) changes q
    ∙ ap (unwrap_or (find key_cmp q changes)) (map.get-from_entries key_cmp_total items q)

one_of_both : {X : Type 0} (second first : Option X) (else : X) → unwrap_or (option_or second first) else ≡ unwrap_or second (unwrap_or first else)
one_of_both None first else = refl
one_of_both (Some x) first else = refl

pub applies : (items : List (Key × Content)) (x y : List (Key × Option Content)) → applied items (merged x y) ≡ applied (applied items x) y
applies items x y =
    entries_are (set_all (map.from_entries items) (merged x y)) (applied (applied items x) y) (entries_sorted (set_all (map.from_entries (applied items x)) y)) (λ q.
    map.get-entries (set_all (map.from_entries items) (merged x y)) q
    ∙ find-applied items (merged x y) q
    ∙ ap (λ (o : Option (Option Content)). unwrap_or o (find key_cmp q items)) (has_both x y q)
    ∙ one_of_both (find key_cmp q y) (find key_cmp q x) (find key_cmp q items)
    ∙ ap (unwrap_or (find key_cmp q y)) (sym (find-applied items x q))
    ∙ sym (find-applied (applied items x) y q))

-- a full stream of one map with two steps of one history applied to it at once is the last map's
pub backups_merge : (a b c : Cells) (full later : Full) (first second both : Changed) → OfOneHistory a b → OfOneHistory b c → contents full.items ≡ image a → changes first.items ≡ map_changes a b → changes second.items ≡ map_changes b c → changes both.items ≡ merged (changes first.items) (changes second.items) → IsFull later → later.id ≡ second.to → contents later.items ≡ applied (contents full.items) (changes both.items) → text (stream.Full later) ≡ texts.full second.to (image c)
backups_merge a b c full later first second both one other of_a of_first of_second of_both right id made =
    text_is later second.to (image c) right id (
    made
    ∙ (λ i. applied (of_a i) ((of_both ∙ (λ j. merged (of_first j) (of_second j))) i))
    ∙ applies (image a) (map_changes a b) (map_changes b c)
    ∙ ap (λ (items : List (Key × Content)). applied items (map_changes b c)) (applied-changed a b one)
    ∙ applied-changed b c other)

-- ---- records

-- records come of what they change
pub items_again : (items : List Item) → list_map (λ e. change_for e.0 e.1) (changes items) ≡ items
items_again [] = refl
items_again (Put key payload ∷ items) = ap (λ (rest : List Item). Put key payload ∷ rest) (items_again items)
items_again (Removed key ∷ items) = ap (λ (rest : List Item). Removed key ∷ rest) (items_again items)

pub same_items : (a b : List Item) → changes a ≡ changes b → a ≡ b
same_items a b same = sym (items_again a) ∙ ap (list_map (λ e. change_for e.0 e.1)) same ∙ items_again b
