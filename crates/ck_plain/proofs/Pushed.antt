-- Lists that are made by pushes, a place at a time.
use Rattle.std.proofs.Common.{◌≡◌, ℕ, ◌+◌, List, [], ◌∷◌, ◌++◌, map as list_map, sym, ap, ◌∙◌}
use Rattle.std.specs.List.{range_with_len}
use Rattle.std.proofs.lemmas.List.FromFn.{map-range_with_len_more}

-- one more place of a range
pub pushed_range : {X : Type 0} (f : ℕ → X) (from count place : ℕ) (xs ys : List X) (x : X) → xs ≡ list_map f (range_with_len from count) → from + count ≡ place → ys ≡ xs ++ x ∷ [] → x ≡ f place → ys ≡ list_map f (range_with_len from (count + 1))
pushed_range f from count place xs ys x so_far here pushed is =
    pushed ∙ ap (λ zs. zs ++ x ∷ []) so_far ∙ ap (λ y. list_map f (range_with_len from count) ++ y ∷ []) is
    ∙ sym (map-range_with_len_more f from count place here)
