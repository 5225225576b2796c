-- The bytes that are read of one data block, and the part of a file that they are.
use Rattle.std.proofs.Common.{◌≡◌, ℕ, zero, suc, ◌+◌, ◌/◌, ◌%◌, ◌<◌, ◌≤◌, true, replicate, slice_index, add-zero, Option, List, ◌∷◌, length, get_or, take, drop, drop-cons, map as list_map, ◌⊎◌, inl, inr, refl, sym, ap, ◌∙◌, arith}
use Rattle.std.specs.List.{range_with_len}
use Rattle.std.specs.Option.{option_and_then}
use Rattle.std.proofs.lemmas.List.{get_or_past, get_or-replicate, length-replicate}
use Rattle.std.proofs.lemmas.Bool.{cases_lt}
use Rattle.ck_model.specs.declared.key.Key.TheVariants.{Block}
use Rattle.ck_model.specs.Cells.{content_at, bytes_in}
use Rattle.ck_model.specs.Chain.{value_of, is_live_data}
use Rattle.ck_model.specs.Rules.{block_in}
use Rattle.ck_model.specs.Table.{Table, IsTable}
use Rattle.ck_model.specs.Values.{Store}
use Rattle.ck_read.specs.Block.{map_on, bytes_of, part_of, IsFilled}
use Rattle.ck_read.specs.Progress.{bytes_from}
use Rattle.ck_read.proofs.MapLemmas.{bytes-map_on}

-- reads behind the end of a list give zero as well
pub zeros : (n place : ℕ) → slice_index (replicate n 0) place ≡ 0
zeros n place = at (cases_lt place n)
  where
    at : (place < n) ⊎ (n ≤ place) → slice_index (replicate n 0) place ≡ 0
    at (inl h) = get_or-replicate n place 0 0 h
    at (inr h) = get_or_past (replicate n 0) place 0 (omega (arith, length-replicate {A = ℕ} n 0, h))

map_shift : (f g : ℕ → ℕ) (a b n : ℕ) → ((k : ℕ) → k < n → f (a + k) ≡ g (b + k)) → list_map f (range_with_len a n) ≡ list_map g (range_with_len b n)
map_shift f g a b zero same = refl
map_shift f g a b (suc n) same =
    let first : f a ≡ g b = simp add-zero at (same 0 (omega arith)) in
    ap (λ x. x ∷ list_map f (range_with_len (a + 1) n)) first
    ∙ ap (λ xs. g b ∷ xs) (map_shift f g (a + 1) (b + 1) n (λ k lt.
    let to : a + 1 + k ≡ a + suc k = omega arith in
    let from : b + suc k ≡ b + 1 + k = omega arith in
    ap f to ∙ same (suc k) (omega arith) ∙ ap g from))

-- a part of a list, byte for byte
slice_is : (xs : List ℕ) (from count : ℕ) → from + count ≤ length xs → take count (drop from xs) ≡ list_map (λ place. get_or xs place 0) (range_with_len from count)
slice_is xs from zero within = refl
slice_is xs from (suc n) within =
    let next : suc from ≡ from + 1 = omega arith in
    ap (take (suc n)) (drop-cons xs from 0 (omega arith))
    ∙ ap (λ ys. get_or xs from 0 ∷ ys) (slice_is xs (suc from) n (omega arith))
    ∙ ap (λ k. get_or xs from 0 ∷ list_map (λ place. get_or xs place 0) (range_with_len k n)) next

-- the part that is taken of a block that was read
pub part_is : (store : Store) (named : Option ℕ) (block : List ℕ) (from count n : ℕ) → n ≡ count → from + count ≤ length block → IsFilled (bytes_of store named) block → take n (drop from block) ≡ part_of store named from count
part_is store named block from count n is within filled =
    ap (λ k. take k (drop from block)) is ∙ slice_is block from count within
    ∙ map_shift (λ place. get_or block place 0) (λ place. get_or (bytes_of store named) place 0) from from count (λ k lt. filled (from + k))

-- the part of a file that stands in one block
pub part_in_file : (store : Store) (t : Table) (fs node place count : ℕ) → IsTable t → is_live_data t fs ≡ true → place % 4096 + count ≤ 4096
    → part_of store (option_and_then block_in (value_of t fs (Block node (place / 4096)))) (place % 4096) count ≡ bytes_from (map_on store t fs) node place count
part_in_file store t fs node place count lawful live within =
    map_shift _ _ (place % 4096) place count (λ k lt.
    let index : place / 4096 ≡ (place + k) / 4096 = omega arith in
    let at : place % 4096 + k ≡ (place + k) % 4096 = omega arith in
    ap (λ bytes. get_or bytes (place % 4096 + k) 0) (sym (bytes-map_on store t fs (Block node (place / 4096)) lawful live))
    ∙ ap (λ i. get_or (bytes_in (content_at (map_on store t fs) (Block node i))) (place % 4096 + k) 0) index
    ∙ ap (λ p. get_or (bytes_in (content_at (map_on store t fs) (Block node ((place + k) / 4096)))) p 0) at)
