-- Cells that are put from the last to the first.
use Rattle.std.proofs.Common.{◌≡◌, ℕ, suc, nat_eq, false, if◌then◌else◌, ◌+◌, ◌-◌, ◌/◌, ◌<◌, ◌≤◌, ◌∷◌, map as list_map, sym, ap, ◌∙◌, arith}
use Rattle.std.proofs.lemmas.Bool.Decides.{nat_tests}
use Rattle.std.specs.Int.{div_ceil}
use Rattle.std.specs.List.{range_with_len}
use Rattle.std.specs.FinMap as map
use Rattle.ck_model.specs.declared.key.Key.{Key}
use Rattle.ck_model.specs.declared.cell.Cell.{Cell}
use Rattle.ck_model.specs.Cells.{Cells, with_cells}
use Rattle.ck_model.specs.Changes.{touched}

range_down : (i end : ℕ) → 0 < i → i ≤ end → range_with_len (i - 1) (end - (i - 1)) ≡ (i - 1) ∷ range_with_len i (end - i)
range_down i end above below =
    let count : end - (i - 1) ≡ suc (end - i) = omega arith in
    let here : i - 1 + 1 ≡ i = omega arith in
    ap (range_with_len (i - 1)) count ∙ ap (λ k. (i - 1) ∷ range_with_len k (end - i)) here

module _ (f : ℕ → Key × Cell) (start : Cells) where
  pub put_none : (end : ℕ) → start ≡ with_cells start (list_map f (range_with_len end (end - end)))
  put_none end =
      let none : 0 ≡ end - end = omega arith in
      ap (λ n. with_cells start (list_map f (range_with_len end n))) none

  -- one more, before those that are put
  pub put_down : (before after : Cells) (i end : ℕ) → 0 < i → i ≤ end → before ≡ with_cells start (list_map f (range_with_len i (end - i))) → after ≡ map.insert before (f (i - 1)).0 (f (i - 1)).1 → after ≡ with_cells start (list_map f (range_with_len (i - 1) (end - (i - 1))))
  put_down before after i end above below so_far put =
      put ∙ ap (λ m. map.insert m (f (i - 1)).0 (f (i - 1)).1) so_far
      ∙ sym (ap (λ is. with_cells start (list_map f is)) (range_down i end above below))

-- the blocks that some bytes touch
pub touched_some : (at len first end : ℕ) → 0 < len → first ≡ at / 4096 → end ≡ div_ceil (at + len) 4096 → range_with_len first (end - first) ≡ touched at len
touched_some at len first end some is_first is_end =
    let count : end - first ≡ (at + len + 4095) / 4096 - at / 4096 = omega arith in
    let any : nat_eq len 0 ≡ false = grind (arith, nat_tests) in
    ap (range_with_len first) count ∙ ap (λ k. range_with_len k ((at + len + 4095) / 4096 - at / 4096)) is_first
    ∙ sym (ap (λ b. range_with_len (at / 4096) (if b then 0 else (at + len + 4095) / 4096 - at / 4096)) any)
