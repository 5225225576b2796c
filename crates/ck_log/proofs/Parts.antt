-- Runs of blocks in an image.
use Rattle.std.proofs.Common.{◌≡◌, ◌≢◌, ⊎_elim, ◌≤◌, ◌<◌, ◌+◌, ◌-◌, ◌++◌, ℕ, suc, List, [], ◌∷◌, length, get_or, set, take, drop, sym, ◌∙◌, ap, arith, get_or-take, get_or-drop, ext_get_or, length-drop, drop-cons}
use Rattle.std.proofs.lemmas.List.{length-take, drop-set-add, take_more, take_more_set}
use Rattle.ck_disk.specs.Disk.{Image, Agrees, Outside}
use Rattle.ck_log.specs.Images.{part}

-- one block more of a run
pub part_more : (c : Image) (at i : ℕ) (b : List ℕ) (blocks : Image) → at + i < length c → i < length blocks → b ≡ get_or blocks i []
    → part at i c ≡ take i blocks → part at (i + 1) (set c (at + i) b) ≡ take (i + 1) blocks
part_more c at i b blocks lt within is so_far =
    ap (λ (l : Image). take (i + 1) l) (drop-set-add at c i b)
    ∙ take_more_set (drop at c) i b (omega (arith, length-drop at c))
    ∙ ap (λ (l : Image). l ++ b ∷ []) so_far
    ∙ ap (λ (x : List ℕ). take i blocks ++ x ∷ []) is
    ∙ sym (take_more blocks i [] within)

pub run_more : (c : Image) (at i place : ℕ) (b : List ℕ) (blocks : Image) → place ≡ at + i → at + i < length c → i < length blocks → b ≡ get_or blocks i []
    → part at i c ≡ take i blocks → part at (i + 1) (set c place b) ≡ take (i + 1) blocks
run_more c at i place b blocks same lt within is so_far =
    ap (λ (p : ℕ). part at (i + 1) (set c p b)) same ∙ part_more c at i b blocks lt within is so_far

-- a run within K is the same
pub part_agrees : (K : ℕ → Type 0) (d c : Image) (at n : ℕ) → Agrees K d c → ((i : ℕ) → i < n → K (at + i)) → part at n c ≡ part at n d
part_agrees K d c at n same inside = ext_get_or [] (part at n c) (part at n d) lengths (λ i lt.
    let below : i < n = omega (arith, length-take n (drop at c)) in
    get_or-take n (drop at c) i [] below ∙ get_or-drop at c i [] ∙ same.at (at + i) (inside i below) ∙ sym (get_or-take n (drop at d) i [] below ∙ get_or-drop at d i []))
  where
    lengths : length (part at n c) ≡ length (part at n d)
    lengths = omega (arith, length-take n (drop at c), length-take n (drop at d), length-drop at c, length-drop at d, same.size)

pub apart_run : (at n i place : ℕ) → place ≡ at + i → i < n → (k : ℕ) → Outside at n k → k ≢ place
apart_run at n i place is lt k outside same = ⊎_elim (λ (h : k < at). omega arith) (λ (h : at + n ≤ k). omega arith) outside

-- a run's first block, and the blocks behind it
pub part_first : (c : Image) (at n : ℕ) (b : List ℕ) (rest : Image) → 1 ≤ n → at < length c → get_or c at [] ≡ b → part (at + 1) (n - 1) c ≡ rest → part at n c ≡ b ∷ rest
part_first c at n b rest some lt is behind =
    let e : n ≡ suc (n - 1) = omega arith in
    let next : suc at ≡ at + 1 = omega arith in
    ap (λ (l : Image). take n l) (drop-cons c at [] lt)
    ∙ ap (λ (m : ℕ). take m (get_or c at [] ∷ drop (suc at) c)) e
    ∙ ap (λ (x : List ℕ). x ∷ take (n - 1) (drop (suc at) c)) is
    ∙ ap (λ (p : ℕ). b ∷ take (n - 1) (drop p c)) next
    ∙ ap (λ (l : Image). b ∷ l) behind
