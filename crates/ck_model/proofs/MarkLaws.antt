-- Maps whose blocks are marks: how many keys they have, and the list that is such a map.
use Rattle.std.proofs.Common.{◌≡◌, true, T, Option, Some, None, is_some, List, length, map as list_map, refl, sym, ap, subst, ◌∙◌}
use Rattle.std.specs.Option.{option_map}
use Rattle.std.specs.FinMap.{find, is_sorted}
use Rattle.std.specs.FinMap as map
use Rattle.std.proofs.lemmas.List.{length-map}
use Rattle.ck_model.specs.declared.key.Key.{Key}
use Rattle.ck_model.specs.declared.cell.Cell.{Cell}
use Rattle.ck_model.specs.Key.{key_cmp, key_cmp_total, key_cmp_exact}
use Rattle.ck_model.specs.Cells.{Cells, mark_of, marked, mark_entry}
use Rattle.ck_model.specs.Ordered.{Edits}
use Rattle.ck_model.proofs.CellLaws.{find-values, is_sorted-values, get-marked}
use Rattle.ck_model.proofs.PlaceLaws.{len_of}
use Rattle.ck_model.proofs.SizeLaws.{len_same_keys}

is_some-map : {X Y : Type 0} (f : X → Y) (o : Option X) → is_some (option_map f o) ≡ is_some o
is_some-map f None = refl
is_some-map f (Some x) = refl

pub len-marked : (cells : Cells) → map.len (marked cells) ≡ map.len cells
len-marked cells =
    len_same_keys key_cmp_total key_cmp_exact (marked cells) cells (λ q. ap is_some (get-marked cells q) ∙ is_some-map (mark_of q) (map.get cells q))

-- the list with its blocks as marks is the map with its blocks as marks
pub edits_marked : (es new : List (Key × Cell)) → is_sorted key_cmp es ≡ true → new ≡ list_map mark_entry es → Edits key_cmp new (marked (map.from_sorted es))
edits_marked es new sorted is =
    let start : T (is_sorted key_cmp es) = subst T (sym sorted) tt in
    let in_order : is_sorted key_cmp new ≡ true = ap (is_sorted key_cmp) is ∙ is_sorted-values mark_of es ∙ sorted in
    record {
      sorted = in_order;
      means = map.same_map key_cmp_total key_cmp_exact (map.from_sorted new) (marked (map.from_sorted es)) (λ q.
          map.get-from_sorted key_cmp new q (subst T (sym in_order) tt)
          ∙ ap (find key_cmp q) is ∙ find-values mark_of q es
          ∙ sym (get-marked (map.from_sorted es) q ∙ ap (option_map (mark_of q)) (map.get-from_sorted key_cmp es q start)));
      length = ap length is ∙ length-map es mark_entry ∙ sym (len-marked (map.from_sorted es) ∙ len_of key_cmp_total key_cmp_exact es sorted);
    }
