-- Reads of data blocks, one after the other, and the bytes of a file that they give.
use Rattle.std.proofs.Common.{◌≡◌, ℕ, zero, suc, ◌+◌, ◌-◌, ◌/◌, ◌%◌, ◌<◌, ◌≤◌, ◌++◌, replicate, slice_index, add-zero, Option, Some, None, List, ◌∷◌, length, get_or, take, drop, drop-cons, map as list_map, ◌⊎◌, inl, inr, refl, sym, ap, ◌∙◌, arith}
use Rattle.std.specs.List.{range_with_len}
use Rattle.std.specs.Option.{option_and_then}
use Rattle.std.specs.FinMap as map
use Rattle.std.proofs.lemmas.List.{get_or_past, get_or-replicate, length-replicate}
use Rattle.std.proofs.lemmas.Bool.{cases_lt}
use Rattle.ck_disk.specs.Disk.{Image}
use Rattle.ck_model.specs.declared.key.Key.{Key}
use Rattle.ck_model.specs.declared.key.Key.TheVariants.{Block}
use Rattle.ck_model.specs.declared.held.Held.{Held}
use Rattle.ck_model.specs.declared.held.Held.TheVariants.{Absent, Plain, Extent, Mark}
use Rattle.ck_model.specs.declared.held.Small.TheVariants as small
use Rattle.ck_model.specs.Cells.{content_at, bytes_in}
use Rattle.ck_model.specs.Contents.{file_byte}
use Rattle.ck_model.specs.Values.{Store, Values, cells_on}
use Rattle.ck_model.specs.Rules.{block_in}
use Rattle.ck_data.specs.Device.{store_on}
use Rattle.ck_data.specs.Reads.{bytes_of, part_of, IsFilled}
use Rattle.ck_model.specs.Cells.{Content}
use Rattle.ck_model.specs.declared.cell.Cell.{Cell}
use Rattle.std.specs.Option.{option_map}
use Rattle.ck_model.specs.Values.{cell_on}
use Rattle.ck_model.proofs.ValueLaws.{get-cells_on}

-- a cell's content over these data blocks
abbrev pub content_on : Store → Option Held → Content
content_on store held = option_and_then (λ (cell : Cell). cell.payload) (option_map (cell_on store) held)

pub content-cells_on : (store : Store) (values : Values) (key : Key) → content_at (cells_on store values) key ≡ content_on store (map.get values key)
content-cells_on store values key = ap (option_and_then (λ (cell : Cell). cell.payload)) (get-cells_on store values key)

-- the bytes of a cell
pub bytes-cells_on : (store : Store) (values : Values) (key : Key) → bytes_in (content_at (cells_on store values) key) ≡ bytes_of store (option_and_then block_in (map.get values key))
bytes-cells_on store values key = ap bytes_in (content-cells_on store values key) ∙ alike (map.get values key)
  where
    alike : (held : Option Held) → bytes_in (content_on store held) ≡ bytes_of store (option_and_then block_in held)
    alike None = refl
    alike (Some Absent) = refl
    alike (Some (Plain stamp (small.To node))) = refl
    alike (Some (Plain stamp (small.File size))) = refl
    alike (Some (Plain stamp small.Dir)) = refl
    alike (Some (Extent stamp block)) = refl
    alike (Some (Mark stamp)) = refl

-- reads behind the end of a list give zero as well
pub zeros : (n place : ℕ) → slice_index (replicate n 0) place ≡ 0
zeros n place = at (cases_lt place n)
  where
    at : (place < n) ⊎ (n ≤ place) → slice_index (replicate n 0) place ≡ 0
    at (inl h) = get_or-replicate n place 0 0 h
    at (inr h) = get_or_past (replicate n 0) place 0 (omega (arith, length-replicate {A = ℕ} n 0, h))

pub map_shift : (f g : ℕ → ℕ) (a b n : ℕ) → ((k : ℕ) → k < n → f (a + k) ≡ g (b + k)) → list_map f (range_with_len a n) ≡ list_map g (range_with_len b n)
map_shift f g a b zero same = refl
map_shift f g a b (suc n) same =
    let first : f a ≡ g b = simp add-zero at (same 0 (omega arith)) in
    ap (λ x. x ∷ list_map f (range_with_len (a + 1) n)) first
    ∙ ap (λ xs. g b ∷ xs) (map_shift f g (a + 1) (b + 1) n (λ k lt.
    let to : a + 1 + k ≡ a + suc k = omega arith in
    let from : b + suc k ≡ b + 1 + k = omega arith in
    ap f to ∙ same (suc k) (omega arith) ∙ ap g from))

map_ranges : (f : ℕ → ℕ) (a n m : ℕ) → list_map f (range_with_len a n) ++ list_map f (range_with_len (a + n) m) ≡ list_map f (range_with_len a (n + m))
map_ranges f a zero m =
    let start : a + 0 ≡ a = omega arith in
    let count : 0 + m ≡ m = omega arith in
    ap (λ k. list_map f (range_with_len k m)) start ∙ sym (ap (λ k. list_map f (range_with_len a k)) count)
map_ranges f a (suc n) m =
    let start : a + suc n ≡ a + 1 + n = omega arith in
    let count : suc (n + m) ≡ suc n + m = omega arith in
    ap (λ k. f a ∷ (list_map f (range_with_len (a + 1) n) ++ list_map f (range_with_len k m))) start
    ∙ ap (λ xs. f a ∷ xs) (map_ranges f (a + 1) n m)
    ∙ ap (λ k. list_map f (range_with_len a k)) count

-- a part of a list, byte for byte
slice_is : (xs : List ℕ) (from count : ℕ) → from + count ≤ length xs → take count (drop from xs) ≡ list_map (λ place. get_or xs place 0) (range_with_len from count)
slice_is xs from zero within = refl
slice_is xs from (suc n) within =
    let next : suc from ≡ from + 1 = omega arith in
    ap (take (suc n)) (drop-cons xs from 0 (omega arith))
    ∙ ap (λ ys. get_or xs from 0 ∷ ys) (slice_is xs (suc from) n (omega arith))
    ∙ ap (λ k. get_or xs from 0 ∷ list_map (λ place. get_or xs place 0) (range_with_len k n)) next

pub part_is : (store : Store) (named : Option ℕ) (block : List ℕ) (from count n : ℕ) → n ≡ count → from + count ≤ length block → IsFilled (bytes_of store named) block → take n (drop from block) ≡ part_of store named from count
part_is store named block from count n is within filled =
    ap (λ k. take k (drop from block)) is ∙ slice_is block from count within
    ∙ map_shift (λ place. get_or block place 0) (λ place. get_or (bytes_of store named) place 0) from from count (λ k lt. filled (from + k))

-- the part of a file that stands in one block
part_in_file : (store : Store) (values : Values) (node place count : ℕ) → place % 4096 + count ≤ 4096
    → part_of store (option_and_then block_in (map.get values (Block node (place / 4096)))) (place % 4096) count ≡ list_map (file_byte (cells_on store values) node) (range_with_len place count)
part_in_file store values node place count within =
    map_shift _ _ (place % 4096) place count (λ k lt.
    let index : place / 4096 ≡ (place + k) / 4096 = omega arith in
    let at : place % 4096 + k ≡ (place + k) % 4096 = omega arith in
    ap (λ bytes. get_or bytes (place % 4096 + k) 0) (sym (bytes-cells_on store values (Block node (place / 4096))))
    ∙ ap (λ i. get_or (bytes_in (content_at (cells_on store values) (Block node i))) (place % 4096 + k) 0) index
    ∙ ap (λ p. get_or (bytes_in (content_at (cells_on store values) (Block node ((place + k) / 4096)))) p 0) at)

-- one part more of a file, read while the disk shows the same
pub range_more : (shows now : Image) (base : ℕ) (values : Values) (node at place count : ℕ) (held : Option Held) (named : Option ℕ) (xs ys : List ℕ) → at ≤ place → place % 4096 + count ≤ 4096
    → now ≡ shows → held ≡ map.get values (Block node (place / 4096)) → named ≡ option_and_then block_in held
    → xs ≡ list_map (file_byte (cells_on (store_on shows base) values) node) (range_with_len at (place - at))
    → ys ≡ xs ++ part_of (store_on now base) named (place % 4096) count
    → ys ≡ list_map (file_byte (cells_on (store_on shows base) values) node) (range_with_len at (place + count - at))
range_more shows now base values node at place count held named xs ys above within same got block so_far is =
    let store = store_on shows base in
    let byte = file_byte (cells_on store values) node in
    let start : place ≡ at + (place - at) = omega arith in
    let all : place - at + count ≡ place + count - at = omega arith in
    let which : named ≡ option_and_then block_in (map.get values (Block node (place / 4096))) = block ∙ ap (option_and_then block_in) got in
    let part : part_of (store_on now base) named (place % 4096) count ≡ list_map byte (range_with_len (at + (place - at)) count) =
    ap (λ image. part_of (store_on image base) named (place % 4096) count) same
    ∙ ap (λ o. part_of store o (place % 4096) count) which
    ∙ part_in_file store values node place count within
    ∙ ap (λ p. list_map byte (range_with_len p count)) start in
    is ∙ ap (λ zs. zs ++ part_of (store_on now base) named (place % 4096) count) so_far
    ∙ ap (λ zs. list_map byte (range_with_len at (place - at)) ++ zs) part
    ∙ map_ranges byte at (place - at) count
    ∙ ap (λ n. list_map byte (range_with_len at n)) all
