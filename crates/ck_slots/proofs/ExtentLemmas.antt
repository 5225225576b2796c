-- The data blocks that the first entries name.
use Rattle.std.proofs.Common.{◌≡◌, ℕ, zero, suc, ◌+◌, List, [], ◌∷◌, ◌++◌, take, Some, sym, ap, ◌∙◌, append_assoc, append-nil, arith}
use Rattle.std.specs.List.{slice_get}
use Rattle.ck_model.specs.declared.key.Key.{Key}
use Rattle.ck_model.specs.declared.held.Held.{Held}
use Rattle.ck_model.specs.TableWorld.{blocks_in, blocks_of}
use Rattle.ck_slots.proofs.TableLemmas.{some_same, none_some}

blocks_next : (es : List ((ℕ × Key) × Held)) (at : ℕ) (e : (ℕ × Key) × Held) → slice_get es at ≡ Some e → blocks_of (take (suc at) es) ≡ blocks_of (take at es) ++ blocks_in e.1
blocks_next [] at e there = absurd (none_some e there)
blocks_next (x ∷ es) zero e there = append-nil (blocks_in x.1) ∙ ap (λ (y : (ℕ × Key) × Held). blocks_in y.1) (some_same x e there)
blocks_next (x ∷ es) (suc at) e there = ap (λ l. blocks_in x.1 ++ l) (blocks_next es at e there) ∙ sym (append_assoc (blocks_in x.1) (blocks_of (take at es)) (blocks_in e.1))

pub blocks_more : (es : List ((ℕ × Key) × Held)) (at : ℕ) (e : (ℕ × Key) × Held) → slice_get es at ≡ Some e → blocks_of (take (at + 1) es) ≡ blocks_of (take at es) ++ blocks_in e.1
blocks_more es at e there =
    let next : at + 1 ≡ suc at = omega arith in
    ap (λ n. blocks_of (take n es)) next ∙ blocks_next es at e there
