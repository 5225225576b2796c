-- How many keys there are at which two maps differ.
use Rattle.std.proofs.Common.{◌≡◌, ◌+◌, ◌≤◌, true, false, not, ◌&&◌, Option, Some, None, is_some, nat_eq, refl, sym, ap, ◌∙◌, arith}
use Rattle.std.specs.Option.{option_map}
use Rattle.std.specs.FinMap as map
use Rattle.ck_model.specs.declared.key.Key.{Key}
use Rattle.ck_model.specs.declared.cell.Cell.{Cell}
use Rattle.ck_model.specs.declared.checkpoint.Kind.{Kind}
use Rattle.ck_model.specs.declared.checkpoint.Kind.TheVariants.{Keeping, Nodata}
use Rattle.ck_model.specs.Key.{key_cmp, key_cmp_total, key_cmp_exact}
use Rattle.ck_model.specs.Cells.{Cells, differs, differences, mark_of, is_new_in, is_gone_in}
use Rattle.ck_model.specs.World.{shown_by}
use Rattle.ck_model.proofs.CellLaws.{get-marked, stamp-mark_of, differs-itself, differs-mark_of, contains_key-differences}
use Rattle.ck_model.proofs.MarkLaws.{len-marked}
use Rattle.ck_model.proofs.SizeLaws.{len-retain_keys-le, len_parts, len_same_keys, contains_key-retain_keys}

there : (o p : Option Cell) → (is_some p && differs o p) ≡ (differs o p && is_some p)
there None None = refl
there None (Some y) = refl
there (Some x) None = refl
there (Some x) (Some y) = elim (not (nat_eq x.stamp y.stamp)) as (λ b. b ≡ (b && true)) [ true ↦ refl | false ↦ refl ]

gone : (o p : Option Cell) → (not (is_some p) && differs o p) ≡ (not (is_some p) && is_some o)
gone None None = refl
gone None (Some y) = refl
gone (Some x) None = refl
gone (Some x) (Some y) = refl

-- they are those of the second map that the first one lacks or has in another version, and those that the second one lacks
pub len-differences : (a b : Cells) → map.len (differences a b) ≡ map.len (map.retain_keys b (is_new_in a b)) + map.len (map.retain_keys a (is_gone_in b))
len-differences a b =
    let d = differences a b in
    let new : map.len (map.retain_keys d (map.contains_key b)) ≡ map.len (map.retain_keys b (is_new_in a b)) =
    len_same_keys key_cmp_total key_cmp_exact (map.retain_keys d (map.contains_key b)) (map.retain_keys b (is_new_in a b)) (λ q.
    contains_key-retain_keys key_cmp_total key_cmp_exact d (map.contains_key b) q
    ∙ ap (λ t. map.contains_key b q && t) (contains_key-differences a b q)
    ∙ there (map.get a q) (map.get b q)
    ∙ sym (contains_key-retain_keys key_cmp_total key_cmp_exact b (is_new_in a b) q)) in
    let lacks : map.len (map.retain_keys d (is_gone_in b)) ≡ map.len (map.retain_keys a (is_gone_in b)) =
    len_same_keys key_cmp_total key_cmp_exact (map.retain_keys d (is_gone_in b)) (map.retain_keys a (is_gone_in b)) (λ q.
    contains_key-retain_keys key_cmp_total key_cmp_exact d (is_gone_in b) q
    ∙ ap (λ t. is_gone_in b q && t) (contains_key-differences a b q)
    ∙ gone (map.get a q) (map.get b q)
    ∙ sym (contains_key-retain_keys key_cmp_total key_cmp_exact a (is_gone_in b) q)) in
    omega (arith, len_parts key_cmp_total key_cmp_exact d (map.contains_key b), new, lacks)

pub len-differences-le : (a b : Cells) → map.len (differences a b) ≤ map.len a + map.len b
len-differences-le a b =
    omega (arith, len-differences a b, len-retain_keys-le key_cmp_total key_cmp_exact b (is_new_in a b), len-retain_keys-le key_cmp_total key_cmp_exact a (is_gone_in b))

pub differs_from_mark : (q : Key) (o p : Option Cell) → differs o (option_map (mark_of q) p) ≡ differs o p
differs_from_mark q None None = refl
differs_from_mark q None (Some y) = refl
differs_from_mark q (Some x) None = refl
differs_from_mark q (Some x) (Some y) = ap (λ stamp. not (nat_eq x.stamp stamp)) (stamp-mark_of q y)

-- what a checkpoint of either kind shows of a map differs from others as the map does, and not from the map
differs_from_shown : (kind : Kind) (a b : Cells) (q : Key) → differs (map.get a q) (map.get (shown_by kind b) q) ≡ differs (map.get a q) (map.get b q)
differs_from_shown Keeping a b q = refl
differs_from_shown Nodata a b q = ap (differs (map.get a q)) (get-marked b q) ∙ differs_from_mark q (map.get a q) (map.get b q)

shown_differs : (kind : Kind) (a : Cells) (q : Key) → differs (map.get (shown_by kind a) q) (map.get a q) ≡ false
shown_differs Keeping a q = differs-itself (map.get a q)
shown_differs Nodata a q = ap (λ o. differs o (map.get a q)) (get-marked a q) ∙ differs-mark_of q (map.get a q) (map.get a q) ∙ differs-itself (map.get a q)

pub len-differences_shown : (kind : Kind) (a b : Cells) → map.len (differences a (shown_by kind b)) ≡ map.len (differences a b)
len-differences_shown kind a b = len_same_keys key_cmp_total key_cmp_exact (differences a (shown_by kind b)) (differences a b) (λ q.
    contains_key-differences a (shown_by kind b) q ∙ differs_from_shown kind a b q ∙ sym (contains_key-differences a b q))

pub len-shown_differences : (kind : Kind) (a : Cells) → map.len (differences (shown_by kind a) a) ≡ 0
len-shown_differences kind a =
    len_same_keys key_cmp_total key_cmp_exact (differences (shown_by kind a) a) (map.empty {X = Cell}) (λ q.
    contains_key-differences (shown_by kind a) a q ∙ shown_differs kind a q ∙ sym (ap is_some (map.get-empty key_cmp q)))
    ∙ map.len-empty key_cmp Cell

pub len-shown_by : (kind : Kind) (cells : Cells) → map.len (shown_by kind cells) ≡ map.len cells
len-shown_by Keeping cells = refl
len-shown_by Nodata cells = len-marked cells
