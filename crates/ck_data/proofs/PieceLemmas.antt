-- A block of a file as a call leaves it, from the part that the call's bytes stand in.
use Rattle.std.proofs.Common.{◌≡◌, ℕ, ◌+◌, ◌-◌, ◌*◌, ◌<◌, ◌≤◌, ◌&&◌, Bool, true, false, Option, List, [], length, take, drop, length-take-le, length-drop, map as list_map, replicate, if◌then◌else◌, nat_le, nat_lt, slice_index, refl, sym, ap, subst, ◌∙◌, arith}
use Rattle.std.specs.List.{range_with_len}
use Rattle.std.specs.Option.{option_and_then}
use Rattle.std.specs.FinMap as map
use Rattle.std.proofs.lemmas.Bool.Decides.{nat_tests}
use Rattle.std.proofs.lemmas.List.{get_or-replicate, length-replicate, get_or-take, get_or-drop, take_all}
use mathlib.Core.Bool.{false≢true}
use Rattle.ck_model.specs.declared.key.Key.TheVariants.{Block}
use Rattle.ck_model.specs.Changes.{block_after, byte_after, cut_block}
use Rattle.ck_model.specs.Contents.{block_byte}
use Rattle.ck_model.specs.Rules.{block_in}
use Rattle.ck_model.specs.Values.{Store, Values, cells_on}
use Rattle.ck_data.specs.Piece.{IsPiece}
use Rattle.ck_data.specs.Reads.{bytes_of}
use Rattle.ck_data.specs.Writes.{patched}
use Rattle.ck_data.proofs.ReadLemmas.{bytes-cells_on, map_shift, zeros}

-- ---- a byte of the block

both_true : (a b : Bool) → a ≡ true → b ≡ true → (a && b) ≡ true
both_true true b h k = k
both_true false b h k = absurd (false≢true h)

-- it is one of the call's bytes exactly where it stands in the part
module _ (place len index at from count k : ℕ) (piece : IsPiece place len index at from count) (lt : k < 4096) where
  abbrev here : ℕ
  here = index * 4096 + k

  stands : (b : Bool) → (nat_le place here && nat_lt here (place + len)) ≡ b → (nat_le at k && nat_lt k (at + count)) ≡ b
  stands true is =
      let above : place ≤ here = grind (arith, nat_tests, is) in
      let below : here < place + len = grind (arith, nat_tests, is) in
      let low = piece.low k lt above below in
      let high = piece.high k lt above below in
      grind (arith, nat_tests, low, high)
  stands false is = outside (nat_le at k && nat_lt k (at + count)) refl
    where
      outside : (b : Bool) → (nat_le at k && nat_lt k (at + count)) ≡ b → b ≡ false
      outside false stands = refl
      outside true stands =
          let low : at ≤ k = grind (arith, nat_tests, stands) in
          let high : k < at + count = grind (arith, nat_tests, stands) in
          let some : 0 < count = omega arith in
          let same = piece.same some in
          let above : place ≤ here = omega (arith, same, low) in
          let below : here < place + len = omega (arith, same, low, high, piece.inside) in
          let inside : (nat_le place here && nat_lt here (place + len)) ≡ true = grind (arith, nat_tests, above, below) in
          sym inside ∙ is

  which : (nat_le place here && nat_lt here (place + len)) ≡ true → k - at < count
  which is =
      let above : place ≤ here = grind (arith, nat_tests, is) in
      let below : here < place + len = grind (arith, nat_tests, is) in
      omega (arith, piece.low k lt above below, piece.high k lt above below)

  from_where : (nat_le place here && nat_lt here (place + len)) ≡ true → from + (k - at) ≡ here - place
  from_where is =
      let above : place ≤ here = grind (arith, nat_tests, is) in
      let below : here < place + len = grind (arith, nat_tests, is) in
      let low = piece.low k lt above below in
      let high = piece.high k lt above below in
      let same = piece.same (omega (arith, low, high)) in
      omega (arith, same, low)

-- ---- the block

module _ (store : Store) (values : Values) (node index : ℕ) where
  abbrev old : List ℕ
  old = bytes_of store (option_and_then block_in (map.get values (Block node index)))

  old_byte : (k : ℕ) → slice_index old k ≡ block_byte (cells_on store values) node index k
  old_byte k = ap (λ bytes. slice_index bytes k) (sym (bytes-cells_on store values (Block node index)))

  -- what is the same at each place of a block is the same block
  block_same : (f g : ℕ → ℕ) → ((k : ℕ) → k < 4096 → f k ≡ g k) → list_map f (range_with_len 0 4096) ≡ list_map g (range_with_len 0 4096)
  block_same f g same = map_shift f g 0 0 4096 (λ k lt. let z : 0 + k ≡ k = omega arith in ap f z ∙ same k lt ∙ sym (ap g z))

  -- the old block with the part over it is the block with the bytes in it
  module _ (place at from count : ℕ) (bytes part : List ℕ) (piece : IsPiece place (length bytes) index at from count) (long : length part ≡ count)
      (each : (k : ℕ) → k < count → slice_index part k ≡ slice_index bytes (from + k)) where
    byte : (k : ℕ) → k < 4096 → (b : Bool) → (nat_le place (index * 4096 + k) && nat_lt (index * 4096 + k) (place + length bytes)) ≡ b
        → (if nat_le at k && nat_lt k (at + length part) then slice_index part (k - at) else slice_index old k) ≡ byte_after (cells_on store values) node place bytes index k
    byte k lt b is =
        ap (λ n. if nat_le at k && nat_lt k (at + n) then slice_index part (k - at) else slice_index old k) long
        ∙ ap (λ t. if t then slice_index part (k - at) else slice_index old k) (stands place (length bytes) index at from count k piece lt b is)
        ∙ chosen b is
        ∙ sym (ap (λ t. if t then slice_index bytes (index * 4096 + k - place) else block_byte (cells_on store values) node index k) is)
      where
        chosen : (b : Bool) → (nat_le place (index * 4096 + k) && nat_lt (index * 4096 + k) (place + length bytes)) ≡ b
            → (if b then slice_index part (k - at) else slice_index old k) ≡ (if b then slice_index bytes (index * 4096 + k - place) else block_byte (cells_on store values) node index k)
        chosen true is =
            each (k - at) (which place (length bytes) index at from count k piece lt is)
            ∙ ap (slice_index bytes) (from_where place (length bytes) index at from count k piece lt is)
        chosen false is = old_byte k

    pub piece-block : patched old at part ≡ block_after (cells_on store values) node place bytes index
    unfolding block_after
    piece-block = block_same _ _ (λ k lt. byte k lt (nat_le place (index * 4096 + k) && nat_lt (index * 4096 + k) (place + length bytes)) refl)

  -- zeros over all from a place on leave what stands before it
  pub cut-block : (kept : ℕ) (zeros : List ℕ) → kept + length zeros ≡ 4096 → ((k : ℕ) → slice_index zeros k ≡ 0) → patched old kept zeros ≡ cut_block (cells_on store values) node index kept
  unfolding cut_block
  cut-block kept zeros long none = block_same _ _ (λ k lt. by k lt (nat_lt k kept) refl)
    where
      by : (k : ℕ) → k < 4096 → (b : Bool) → nat_lt k kept ≡ b
          → (if nat_le kept k && nat_lt k (kept + length zeros) then slice_index zeros (k - kept) else slice_index old k) ≡ (if nat_lt k kept then block_byte (cells_on store values) node index k else 0)
      by k lt true is =
          let out : (nat_le kept k && nat_lt k (kept + length zeros)) ≡ false = grind (arith, nat_tests, is) in
          ap (λ t. if t then slice_index zeros (k - kept) else slice_index old k) out ∙ old_byte k ∙ sym (ap (λ t. if t then block_byte (cells_on store values) node index k else 0) is)
      by k lt false is =
          let in_it : (nat_le kept k && nat_lt k (kept + length zeros)) ≡ true = grind (arith, nat_tests, is, long, lt) in
          ap (λ t. if t then slice_index zeros (k - kept) else slice_index old k) in_it ∙ none (k - kept) ∙ sym (ap (λ t. if t then block_byte (cells_on store values) node index k else 0) is)

-- ---- the calls that write bytes

module _ (store : Store) (values : Values) (node index : ℕ) (named : Option ℕ) (is : named ≡ option_and_then block_in (map.get values (Block node index))) where
  abbrev at_block : ℕ → List ℕ → List ℕ
  at_block at part = patched (bytes_of store named) at part

  by_name : (at : ℕ) (part : List ℕ) → at_block at part ≡ patched (old store values node index) at part
  by_name at part = ap (λ o. patched (bytes_of store o) at part) is

  pub bytes-block : (place : ℕ) (bytes items : List ℕ) (at from count n : ℕ) → items ≡ bytes → n ≡ count → IsPiece place (length items) index at from count
      → at_block at (take n (drop from items)) ≡ block_after (cells_on store values) node place bytes index
  bytes-block place bytes items at from count n same many piece =
      by_name at (take n (drop from items))
      ∙ ap (λ m. patched (old store values node index) at (take m (drop from items))) many
      ∙ piece-block store values node index place at from count items (take count (drop from items)) piece
      (length-take-le count (drop from items) (omega (arith, length-drop from items, piece.inside)))
      (λ k lt. get_or-take count (drop from items) k 0 lt ∙ get_or-drop from items k 0)
      ∙ ap (λ xs. block_after (cells_on store values) node place xs index) same

  pub fill-block : (place byte len at from count : ℕ) (all : List ℕ) → all ≡ replicate 4096 byte → IsPiece place len index at from count
      → at_block at (take count all) ≡ block_after (cells_on store values) node place (replicate len byte) index
  fill-block place byte len at from count all filled piece =
      let long : length (replicate len byte) ≡ len = length-replicate len byte in
      let whole : length (replicate 4096 byte) ≡ 4096 = length-replicate 4096 byte in
      by_name at (take count all)
      ∙ ap (λ xs. patched (old store values node index) at (take count xs)) filled
      ∙ piece-block store values node index place at from count (replicate len byte) (take count (replicate 4096 byte))
      (subst (λ n. IsPiece place n index at from count) (sym long) piece)
      (length-take-le count (replicate 4096 byte) (omega (arith, whole, piece.within)))
      (λ k lt.
      get_or-take count (replicate 4096 byte) k 0 lt
      ∙ get_or-replicate 4096 k byte 0 (omega (arith, lt, piece.within))
      ∙ sym (get_or-replicate len (from + k) byte 0 (omega (arith, lt, piece.inside))))

  pub trunc-block : (kept : ℕ) (all : List ℕ) → all ≡ replicate 4096 0 → kept ≤ 4096 → at_block kept (take (4096 - kept) (drop kept all)) ≡ cut_block (cells_on store values) node index kept
  trunc-block kept all filled low =
      let whole : length (replicate {A = ℕ} 4096 0) ≡ 4096 = length-replicate {A = ℕ} 4096 0 in
      let behind : List ℕ = drop kept (replicate 4096 0) in
      let long : length behind ≡ 4096 - kept = length-drop {A = ℕ} kept (replicate 4096 0) ∙ ap (λ n. n - kept) whole in
      by_name kept (take (4096 - kept) (drop kept all))
      ∙ ap (λ xs. patched (old store values node index) kept (take (4096 - kept) (drop kept xs))) filled
      ∙ ap (patched (old store values node index) kept) (take_all (4096 - kept) behind (omega (arith, long)))
      ∙ cut-block store values node index kept behind (omega (arith, long, low))
      (λ k. get_or-drop kept (replicate 4096 0) k 0 ∙ zeros 4096 (kept + k))

  -- no bytes
  pub same-block : at_block 0 [] ≡ block_after (cells_on store values) node 0 [] index
  same-block =
      by_name 0 []
      ∙ piece-block store values node index 0 0 0 0 [] []
      (record { within = omega arith; inside = omega arith; same = λ some. absurd (omega (arith, some)); low = λ k lt above below. omega arith; high = λ k lt above below. absurd (omega (arith, below)) })
      refl
      (λ k lt. absurd (omega (arith, lt)))
