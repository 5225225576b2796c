-- A directory has no more names than its map has cells.
use Rattle.std.proofs.Common.{ℕ, suc, ◌≤◌, List, [], ◌∷◌, length, Option, Some, None, sym, subst, arith}
use Rattle.std.specs.List.{filter_map, cons_option}
use Rattle.std.specs.FinMap as map
use Rattle.ck_model.specs.Cells.{Cells}
use Rattle.ck_model.specs.Contents.{child_in, children}

few_more : {Y : Type 0} (o : Option Y) (ys : List Y) (n : ℕ) → length ys ≤ n → length (cons_option o ys) ≤ suc n
few_more None ys n h = omega arith
few_more (Some y) ys n h = omega arith

few : {X Y : Type 0} (h : X → Option Y) (xs : List X) → length (filter_map h xs) ≤ length xs
few h [] = omega arith
few h (x ∷ xs) = few_more (h x) (filter_map h xs) (length xs) (few h xs)

pub few_children : (cells : Cells) (directory : ℕ) → length (children cells directory) ≤ map.len cells
few_children cells directory =
    subst (λ n. length (children cells directory) ≤ n) (sym (map.len-entries cells)) (few (child_in cells directory) (map.entries cells))
