-- The slots of one block, read behind those of the blocks before it.
use Rattle.std.proofs.Common.{◌≡◌, ℕ, ◌+◌, ◌*◌, ◌/◌, ◌%◌, ◌<◌, Option, None, List, [], ◌∷◌, ◌++◌, length, get_or, take, drop, refl, sym, ap, subst, ◌∙◌, arith, inl, inr, length-append}
use Rattle.std.proofs.lemmas.Bool.{cases_lt}
use Rattle.std.proofs.Math.ListN.{get_or-append}
use Rattle.std.proofs.Math.Seq.{get_or-append_seam}
use Rattle.ck_record.specs.declared.records.Record.{Record}
use Rattle.ck_area.specs.Pushed.{ArePushed}
use Rattle.ck_area.specs.Area.{Area, Blocks, IsReadAs, AreSlots, slot_at, slot_bytes}

module _ {X : Type 0} (IsMade : ℕ → X → Type 0) where
  pub pushed_none : (before : List X) → ArePushed IsMade before 0 before
  pushed_none before = record {
    len = omega arith;
    kept = λ k d h. refl;
    each = λ k d h. absurd (omega arith);
  }

  at_front : (xs : List X) (x d : X) (k : ℕ) → k < length xs → get_or (xs ++ x ∷ []) k d ≡ get_or xs k d
  at_front xs x d k h = get_or-append xs (x ∷ []) d k h

  at_end : (xs : List X) (x d : X) (k : ℕ) → k ≡ length xs → get_or (xs ++ x ∷ []) k d ≡ x
  at_end xs x d k h = subst (λ (n : ℕ). get_or (xs ++ x ∷ []) n d ≡ x) (sym h) (get_or-append_seam xs x [] d)

  pub pushed_more : (before : List X) (count : ℕ) (after : List X) (value : X) → ArePushed IsMade before count after → IsMade count value → ArePushed IsMade before (count + 1) (after ++ value ∷ [])
  pushed_more before count after value h is = record {
    len = simp length-append (omega (arith, h.len));
    kept = λ k d low. at_front after value d k (omega (arith, h.len)) ∙ h.kept k d low;
    each = λ k d low. elim (cases_lt k count) [
      | inl less ↦ subst (IsMade k) (sym (at_front after value d (length before + k) (omega (arith, h.len)))) (h.each k d less)
      | inr more ↦
          let same : count ≡ k = omega arith in
          subst (IsMade k) (sym (at_end after value d (length before + k) (omega (arith, h.len)))) (subst (λ (n : ℕ). IsMade n value) same is)
    ];
  }

block_front : (blocks : Blocks) (block : List ℕ) (k : ℕ) → k < length blocks → get_or (blocks ++ block ∷ []) k [] ≡ get_or blocks k []
block_front blocks block k h = get_or-append blocks (block ∷ []) [] k h

block_end : (blocks : Blocks) (block : List ℕ) (k : ℕ) → k ≡ length blocks → get_or (blocks ++ block ∷ []) k [] ≡ block
block_end blocks block k h = subst (λ (n : ℕ). get_or (blocks ++ block ∷ []) n [] ≡ block) (sym h) (get_or-append_seam blocks block [] [])

-- with all 32 slots of a block behind, they are the slots of the blocks and this one
pub all_pushed : (IsMade : ℕ → Option Record → Type 0) (blocks : Blocks) (before after : Area) (block : List ℕ) → ((k : ℕ) (value : Option Record) → k < 32 → IsMade k value → IsReadAs (take 128 (drop (128 * k) block)) value)
    → AreSlots blocks before → ArePushed IsMade before 32 after → AreSlots (blocks ++ block ∷ []) after
all_pushed IsMade blocks before after block reads slots h = record {
  count = h.len ∙ rw slots.count (simp length-append (omega arith));
  each = λ slot low. elim (cases_lt slot (length before)) [
    | inl less ↦
        let lower : slot / 32 < length blocks = omega (arith, slots.count) in
        let bytes : slot_bytes blocks slot ≡ slot_bytes (blocks ++ block ∷ []) slot = ap (λ (b : List ℕ). take 128 (drop (128 * (slot % 32)) b)) (sym (block_front blocks block (slot / 32) lower)) in
        subst (λ (b : List ℕ). IsReadAs b (slot_at after slot)) bytes (subst (IsReadAs (slot_bytes blocks slot)) (sym (h.kept slot None less)) (slots.each slot less))
    | inr more ↦
        let last : slot / 32 ≡ length blocks = omega (arith, slots.count, h.len) in
        let place : length before + slot % 32 ≡ slot = omega (arith, slots.count, h.len) in
        let bytes : take 128 (drop (128 * (slot % 32)) block) ≡ slot_bytes (blocks ++ block ∷ []) slot = ap (λ (b : List ℕ). take 128 (drop (128 * (slot % 32)) b)) (sym (block_end blocks block (slot / 32) last)) in
        let read : IsReadAs (take 128 (drop (128 * (slot % 32)) block)) (get_or after (length before + slot % 32) None) = reads (slot % 32) _ (omega arith) (h.each (slot % 32) None (omega arith)) in
        subst (λ (b : List ℕ). IsReadAs b (slot_at after slot)) bytes (subst (λ (n : ℕ). IsReadAs (take 128 (drop (128 * (slot % 32)) block)) (get_or after n None)) place read)
  ];
}
