-- The laws of a disk whose lost writes count as written.
use Rattle.std.proofs.Common.{◌≡◌, ◌≢◌, ◌<◌, ◌≤◌, ◌||◌, inl, inr, ⊎_elim, ◌⊎◌, ℕ, Bool, true, false, nat_eq, IsTrue, List, [], ◌∷◌, length, get_or, set, replicate, refl, sym, ◌∙◌, ap, subst, arith, get_or-set_same, get_or-set_other, set-set}
use Rattle.std.proofs.lemmas.List.{length-set, length-replicate, set-get_or, get_or_past, get_or_default}
use Rattle.std.proofs.lemmas.List.Elements.{All-get_or, All-set}
use Rattle.std.proofs.lemmas.Bool.{cases_eq, cases_lt}
use Rattle.std.proofs.lemmas.Bool.Decides.{nat_tests}
use Rattle.ck_disk.specs.Disk.{Image, Meaning, block_len, IsBlock, AreBlocks, Lawful, Agrees, Within}
use Rattle.ck_disk.specs.Lost.{LeftBut, is_written_with, but_lost}

-- a block that counts as not written is none of them
apart : (at : ℕ) (places : List ℕ) (written : ℕ → Bool) (k : ℕ) → is_written_with (at ∷ places) written k ≡ false → (k ≢ at) × (is_written_with places written k ≡ false)
apart at places written k clean = by_test (nat_eq at k) refl clean
  where
    by_test : (b : Bool) → nat_eq at k ≡ b → (b || is_written_with places written k) ≡ false → (k ≢ at) × (is_written_with places written k ≡ false)
    by_test false is rest = (grind (arith, nat_tests, is), rest)
    by_test true is never = cc

-- another block counts as written where it did before
pub other : (at : ℕ) (places : List ℕ) (written : ℕ → Bool) (k : ℕ) → k ≢ at → is_written_with places written k ≡ false → is_written_with (at ∷ places) written k ≡ false
other at places written k ne clean = ap (λ (b : Bool). b || is_written_with places written k) (elsewhere ne) ∙ clean
  where
    elsewhere : k ≢ at → nat_eq at k ≡ false
    elsewhere ne = grind (arith, nat_tests)

-- such a block is as it was left
still : (places : List ℕ) (m : Meaning) → Lawful m → IsTrue m.tells → (c : Image) → LeftBut places m.may_leave c → Agrees (λ k. is_written_with places m.written k ≡ false) m.shows c
still [] m law told c left = law.clean told c left
still (at ∷ places) m law told c left =
    let before = still places m law told left.0 left.3 in
    record {
      size = ap length left.4 ∙ length-set left.0 at left.1 ∙ before.size;
      at = λ k clean. let is = apart at places m.written k clean in
          ap (λ (i : Image). get_or i k []) left.4 ∙ get_or-set_other left.0 at k left.1 [] is.0 ∙ before.at k is.1;
    }

-- a block of zeros
blank : List ℕ
blank = replicate block_len 0

blank_block : IsBlock blank
unfolding blank
blank_block = length-replicate {A = ℕ} block_len 0

-- the block at a place of an image, or that one past its end
block_at : (image : Image) (at : ℕ) → AreBlocks image → IsBlock (get_or image at blank)
block_at image at blocks = by_place (cases_lt at (length image))
  where
    by_place : (at < length image) ⊎ (length image ≤ at) → IsBlock (get_or image at blank)
    by_place (inl lt) = All-get_or IsBlock image at blank lt blocks
    by_place (inr past) = subst IsBlock (sym (get_or_past image at blank past)) blank_block

-- and every other block may hold any bytes
any_bytes : (places : List ℕ) (m : Meaning) → Lawful m → IsTrue m.tells → (c : Image) → AreBlocks c → Agrees (λ k. is_written_with places m.written k ≡ false) m.shows c → LeftBut places m.may_leave c
any_bytes [] m law told c blocks same = law.torn told c blocks same
any_bytes (at ∷ places) m law told c blocks same =
    (before, get_or c at blank, block_at c at blocks, any_bytes places m law told before (All-set IsBlock c at stood stood_block blocks) without, sym (set-set c at stood (get_or c at blank) ∙ set-get_or c at blank))
  where
    stood : List ℕ
    stood = get_or m.shows at blank

    before : Image
    before = set c at stood

    stood_block : IsBlock stood
    stood_block = block_at m.shows at (law.blocks m.moment m.shows (law.counts_now m.moment m.shows (omega arith) (law.shown told)))

    shown : (at < length c) ⊎ (length c ≤ at) → get_or before at [] ≡ get_or m.shows at []
    shown (inl lt) = get_or-set_same c at stood [] lt ∙ get_or_default m.shows at blank [] (omega (arith, lt, same.size))
    shown (inr ge) = get_or_past before at [] (omega (arith, ge, length-set c at stood)) ∙ sym (get_or_past m.shows at [] (omega (arith, ge, same.size)))

    back : (k : ℕ) → is_written_with places m.written k ≡ false → (k ≡ at) ⊎ (k ≢ at) → get_or before k [] ≡ get_or m.shows k []
    back k clean (inl here) = ap (λ (j : ℕ). get_or before j []) here ∙ shown (cases_lt at (length c)) ∙ sym (ap (λ (j : ℕ). get_or m.shows j []) here)
    back k clean (inr ne) = get_or-set_other c at k stood [] ne ∙ same.at k (other at places m.written k ne clean)

    without : Agrees (λ k. is_written_with places m.written k ≡ false) m.shows before
    without = record {
      size = length-set c at stood ∙ same.size;
      at = λ k clean. back k clean (cases_eq k at);
    }

-- what is left consists of blocks
blocks_left : (places : List ℕ) (all : Image → Type 0) → Within all AreBlocks → Within (LeftBut places all) AreBlocks
blocks_left [] all blocks c left = blocks c left
blocks_left (at ∷ places) all blocks c left = subst AreBlocks (sym left.4) (All-set IsBlock left.0 at left.1 left.2 (blocks_left places all blocks left.0 left.3))

-- what was left before may be left
more_left : (places : List ℕ) (all : Image → Type 0) (at : ℕ) → Within all AreBlocks → Within (LeftBut places all) (LeftBut (at ∷ places) all)
more_left places all at blocks c left = (c, get_or c at blank, block_at c at (blocks_left places all blocks c left), left, sym (set-get_or c at blank))

-- what is left below may be left
some_left : (places : List ℕ) (all : Image → Type 0) → Within all AreBlocks → Within all (LeftBut places all)
some_left [] all blocks c left = left
some_left (at ∷ places) all blocks c left = more_left places all at blocks c (some_left places all blocks c left)

-- an image that a crash may leave consists of blocks
may_leave_blocks : (m : Meaning) → Lawful m → Within m.may_leave AreBlocks
may_leave_blocks m law c left = law.blocks m.moment c (law.counts_now m.moment c (omega arith) left)

-- what was left before a write was lost may be left
pub one_more_left : (places : List ℕ) (m : Meaning) (at : ℕ) → Lawful m → Within (LeftBut places m.may_leave) (LeftBut (at ∷ places) m.may_leave)
one_more_left places m at law = more_left places m.may_leave at (may_leave_blocks m law)

pub but_lost_lawful : (places : List ℕ) (reads writes : ℕ) (m : Meaning) → Lawful m → Lawful (but_lost places reads writes m)
but_lost_lawful places reads writes m law = record {
  counts_now = λ t c le left. inr left;
  only_now = λ c left. ⊎_elim (λ below. some_left places m.may_leave (may_leave_blocks m law) c (law.only_now c below)) (λ now. now) left;
  blocks = λ t c left. ⊎_elim (λ below. law.blocks t c below) (λ now. blocks_left places m.may_leave (may_leave_blocks m law) c now) left;
  shown = λ told. some_left places m.may_leave (may_leave_blocks m law) m.shows (law.shown told);
  clean = still places m law;
  torn = any_bytes places m law;
  whole = law.whole;
  fits = law.fits;
}
