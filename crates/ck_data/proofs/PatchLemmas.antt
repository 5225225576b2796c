-- A block with bytes put over a part of it, byte by byte.
use Rattle.std.proofs.Common.{◌≡◌, ℕ, ◌+◌, ◌-◌, ◌<◌, ◌≤◌, ◌&&◌, Bool, true, false, None, Option, ⊎_elim, List, ◌++◌, length, get_or, take, drop, length-take-le, length-drop, length-append, slice_index, if◌then◌else◌, nat_eq, nat_le, nat_lt, refl, sym, ap, ◌∙◌, arith}
use Rattle.std.proofs.lemmas.List.{get_or-take, get_or-drop, get_or-append_right, get_or_append_left}
use Rattle.std.proofs.lemmas.List.FromFn.{get_or-map-range_with_len, length-map-range_with_len}
use Rattle.std.proofs.lemmas.Grind.{same_number_lists}
use Rattle.std.proofs.lemmas.Bool.{cases_lt}
use Rattle.std.proofs.lemmas.Bool.Decides.{nat_tests}
use Rattle.ck_model.specs.Values.{Store}
use Rattle.ck_data.specs.Reads.{bytes_of, IsFilled}
use Rattle.ck_data.specs.Writes.{patched}

module _ (block old bytes : List ℕ) (at : ℕ) (long : length block ≡ 4096) (within : at + length bytes ≤ 4096) (filled : IsFilled old block) where
  abbrev front : List ℕ
  front = take at block ++ bytes

  abbrev whole : List ℕ
  whole = front ++ drop (at + length bytes) block

  abbrev byte : ℕ → ℕ
  byte place = if nat_le at place && nat_lt place (at + length bytes) then slice_index bytes (place - at) else slice_index old place

  length-front : length front ≡ at + length bytes
  length-front = length-append (take at block) bytes ∙ ap (λ n. n + length bytes) (length-take-le at block (omega (arith, within, long)))

  length-whole : length whole ≡ 4096
  length-whole = length-append front (drop (at + length bytes) block) ∙ omega (arith, length-front, length-drop (at + length bytes) block, long, within)

  chosen : (k : ℕ) (b : Bool) → (nat_le at k && nat_lt k (at + length bytes)) ≡ b → byte k ≡ (if b then slice_index bytes (k - at) else slice_index old k)
  chosen k b is = ap (λ t. if t then slice_index bytes (k - at) else slice_index old k) is

  before : (k : ℕ) → k < at → get_or whole k 0 ≡ byte k
  before k lt =
      get_or_append_left front (drop (at + length bytes) block) 0 k (omega (arith, length-front))
      ∙ get_or_append_left (take at block) bytes 0 k (omega (arith, length-take-le at block (omega (arith, within, long))))
      ∙ get_or-take at block k 0 lt ∙ filled k
      ∙ sym (chosen k false (grind (arith, nat_tests, lt)))

  inside : (k : ℕ) → at ≤ k → k < at + length bytes → get_or whole k 0 ≡ byte k
  inside k le lt =
      get_or_append_left front (drop (at + length bytes) block) 0 k (omega (arith, length-front))
      ∙ get_or-append_right (take at block) bytes at k 0 (length-take-le at block (omega (arith, within, long))) le
      ∙ sym (chosen k true (grind (arith, nat_tests, le, lt)))

  behind : (k : ℕ) → at + length bytes ≤ k → get_or whole k 0 ≡ byte k
  behind k le =
      let same : (at + length bytes) + (k - (at + length bytes)) ≡ k = omega (arith, le) in
      get_or-append_right front (drop (at + length bytes) block) (at + length bytes) k 0 length-front le
      ∙ get_or-drop (at + length bytes) block (k - (at + length bytes)) 0
      ∙ ap (λ n. get_or block n 0) same ∙ filled k
      ∙ sym (chosen k false (grind (arith, nat_tests, le)))

  pub patch-is : whole ≡ patched old at bytes
  patch-is = same_number_lists whole (patched old at bytes) (length-whole ∙ sym (length-map-range_with_len byte 0 4096)) (λ k lt.
      ⊎_elim (λ less. before k less) (λ le. ⊎_elim (λ less. inside k le less) (λ more. behind k more) (cases_lt k (at + length bytes))) (cases_lt k at)
      ∙ sym (get_or-map-range_with_len byte 0 4096 k k 0 (omega (arith, lt, length-whole)) (omega arith)))

-- bytes for a whole block leave nothing of what it held
module _ (old other bytes : List ℕ) (at : ℕ) (long : length bytes ≡ 4096) (within : at + length bytes ≤ 4096) where
  abbrev byte_of : List ℕ → ℕ → ℕ
  byte_of from place = if nat_le at place && nat_lt place (at + length bytes) then slice_index bytes (place - at) else slice_index from place

  covered : (k : ℕ) → k < 4096 → (nat_le at k && nat_lt k (at + length bytes)) ≡ true
  covered k lt = grind (arith, nat_tests, lt, long, within)

  same_byte : (k : ℕ) → k < 4096 → byte_of old k ≡ byte_of other k
  same_byte k lt =
      ap (λ b. if b then slice_index bytes (k - at) else slice_index old k) (covered k lt)
      ∙ sym (ap (λ b. if b then slice_index bytes (k - at) else slice_index other k) (covered k lt))

  below : (k : ℕ) → k < length (patched old at bytes) → k < 4096
  below k lt = let all = length-map-range_with_len (byte_of old) 0 4096 in omega (arith, lt, all)

  pub patched_whole : patched old at bytes ≡ patched other at bytes
  patched_whole = same_number_lists (patched old at bytes) (patched other at bytes) (length-map-range_with_len (byte_of old) 0 4096 ∙ sym (length-map-range_with_len (byte_of other) 0 4096)) (λ k lt.
      get_or-map-range_with_len (byte_of old) 0 4096 k k 0 (below k lt) (omega arith)
      ∙ same_byte k (below k lt)
      ∙ sym (get_or-map-range_with_len (byte_of other) 0 4096 k k 0 (below k lt) (omega arith)))

-- so its old block needn't be read
pub patched_kept : (store : Store) (old : Option ℕ) (bytes : List ℕ) (at : ℕ) → at + length bytes ≤ 4096 → (kept : Option ℕ) → kept ≡ (if nat_eq (length bytes) 4096 then None else old)
    → patched (bytes_of store kept) at bytes ≡ patched (bytes_of store old) at bytes
patched_kept store old bytes at within kept is = by (nat_eq (length bytes) 4096) refl is
  where
    by : (b : Bool) → nat_eq (length bytes) 4096 ≡ b → kept ≡ (if b then None else old) → patched (bytes_of store kept) at bytes ≡ patched (bytes_of store old) at bytes
    by true whole is = patched_whole (bytes_of store kept) (bytes_of store old) bytes at (grind (arith, nat_tests, whole)) within
    by false other is = ap (λ o. patched (bytes_of store o) at bytes) is
