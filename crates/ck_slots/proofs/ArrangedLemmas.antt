-- The entries of a list of slots by their numbers.
use Rattle.std.proofs.Common.{◌≡◌, ◌≢◌, ℕ, zero, suc, ◌+◌, ◌<◌, ◌≤◌, true, cond, List, [], ◌∷◌, ◌++◌, take, drop, map as list_map, length, get_or, set, nat_eq, T, refl, sym, ap, subst, ◌∙◌, arith}
use Rattle.std.proofs.lemmas.List.{get_or_default, get_or-map, length-map, map-append, take-map, drop-map, get_or-set_other, get_or-set_same}
use Rattle.std.proofs.Math.ListN.{get_or-append}
use Rattle.std.proofs.Math.Seq.{get_or-append_seam}
use Rattle.std.proofs.lemmas.Bool.Decides.{nat_tests}
use Rattle.std.specs.List.{insert, remove}
use Rattle.std.specs.FinMap.{is_sorted}
use Rattle.std.specs.FinMap as map
use Rattle.ck_model.specs.declared.key.Key.{Key}
use Rattle.ck_model.specs.declared.held.Held.{Held}
use Rattle.ck_model.specs.Key.{entry_cmp, entry_cmp_total, entry_cmp_exact}
use Rattle.ck_model.proofs.PlaceLaws.{len_of}
use Rattle.ck_slots.specs.declared.slot.Slot.{Slot}
use Rattle.ck_slots.specs.Arranged.{entry_of, entry_in, arranged, entries_of, times, no_slot}
use Rattle.ck_slots.proofs.OnceLemmas.{one, one_itself, times_some}

pub length-arranged : (slots : List Slot) (order : List ℕ) → length (arranged slots order) ≡ length order
length-arranged slots order = length-map order (entry_in slots)

-- the slot that is read is the entry
pub read_slot : (slots : List Slot) (number : ℕ) (slot : Slot) → number < length slots → slot ≡ get_or slots number slot → entry_in slots number ≡ entry_of slot
read_slot slots number slot within is = ap entry_of (get_or_default slots number no_slot slot within ∙ sym is)

pub get_or-arranged : (slots : List Slot) (order : List ℕ) (at : ℕ) (d : (ℕ × Key) × Held) (slot : Slot) → at < length order → get_or order at 0 < length slots → slot ≡ get_or slots (get_or order at 0) slot → get_or (arranged slots order) at d ≡ entry_of slot
get_or-arranged slots order at d slot within inside is = get_or-map (entry_in slots) order at 0 d within ∙ read_slot slots (get_or order at 0) slot inside is

-- ---- what an edit of the slots or the order leaves

pub arranged-insert : (slots : List Slot) (order : List ℕ) (at number : ℕ) → arranged slots (insert order at number) ≡ insert (arranged slots order) at (entry_in slots number)
arranged-insert slots order at number =
    map-append (entry_in slots) (take at order) (number ∷ drop at order)
    ∙ ap (λ xs. xs ++ entry_in slots number ∷ list_map (entry_in slots) (drop at order)) (sym (take-map (entry_in slots) at order))
    ∙ ap (λ ys. take at (arranged slots order) ++ entry_in slots number ∷ ys) (sym (drop-map (entry_in slots) at order))

pub arranged-remove : (slots : List Slot) (order : List ℕ) (at : ℕ) → arranged slots (remove order at) ≡ remove (arranged slots order) at
arranged-remove slots order at =
    map-append (entry_in slots) (take at order) (drop (suc at) order)
    ∙ ap (λ xs. xs ++ list_map (entry_in slots) (drop (suc at) order)) (sym (take-map (entry_in slots) at order))
    ∙ ap (λ ys. take at (arranged slots order) ++ ys) (sym (drop-map (entry_in slots) (suc at) order))

entry_in-set_other : (slots : List Slot) (number n : ℕ) (slot : Slot) → n ≢ number → entry_in (set slots number slot) n ≡ entry_in slots n
entry_in-set_other slots number n slot other = ap entry_of (get_or-set_other slots number n slot no_slot other)

pub entry_in-set : (slots : List Slot) (number : ℕ) (slot : Slot) → number < length slots → entry_in (set slots number slot) number ≡ entry_of slot
entry_in-set slots number slot within = ap entry_of (get_or-set_same slots number slot no_slot within)

pub entry_in-pushed : (slots : List Slot) (slot : Slot) → entry_in (slots ++ slot ∷ []) (length slots) ≡ entry_of slot
entry_in-pushed slots slot = ap entry_of (get_or-append_seam slots slot [] no_slot)

other_of : (n number rest : ℕ) → one n number + rest ≡ 0 → n ≢ number
other_of n number rest none same = let t : nat_eq n number ≡ true = grind (arith, nat_tests) in let few = ap (λ b. cond b 1 0 + rest) (sym t) ∙ none in omega arith

-- a slot that isn't in order may be written
pub arranged-set_absent : (slots : List Slot) (order : List ℕ) (number : ℕ) (slot : Slot) → times number order ≡ 0 → arranged (set slots number slot) order ≡ arranged slots order
arranged-set_absent slots [] number slot none = refl
arranged-set_absent slots (n ∷ order) number slot none =
    ap (λ e. e ∷ arranged (set slots number slot) order) (entry_in-set_other slots number n slot (other_of n number (times number order) none))
    ∙ ap (λ es. entry_in slots n ∷ es) (arranged-set_absent slots order number slot (omega arith))

-- one that is in order once is written at its place
pub arranged-set_once : (slots : List Slot) (order : List ℕ) (at : ℕ) (slot : Slot) → at < length order → get_or order at 0 < length slots → times (get_or order at 0) order ≤ 1 → arranged (set slots (get_or order at 0) slot) order ≡ set (arranged slots order) at (entry_of slot)
arranged-set_once slots [] at slot within inside few = absurd (omega arith)
arranged-set_once slots (n ∷ order) zero slot within inside few =
    let none : times n order ≡ 0 = omega (arith, one_itself n, few) in
    ap (λ e. e ∷ arranged (set slots n slot) order) (entry_in-set slots n slot inside)
    ∙ ap (λ es. entry_of slot ∷ es) (arranged-set_absent slots order n slot none)
arranged-set_once slots (n ∷ order) (suc at) slot within inside few =
    let number = get_or order at 0 in
    let there = times_some order at (omega arith) in
    let none : one n number + 0 ≡ 0 = omega (arith, there, few) in
    ap (λ e. e ∷ arranged (set slots number slot) order) (entry_in-set_other slots number n slot (other_of n number 0 none))
    ∙ ap (λ es. entry_in slots n ∷ es) (arranged-set_once slots order at slot (omega arith) inside (omega arith))

-- a slot that is pushed changes none that is in order
pub arranged-push : (slots : List Slot) (order : List ℕ) (slot : Slot) → ((at : ℕ) → at < length order → get_or order at 0 < length slots) → arranged (slots ++ slot ∷ []) order ≡ arranged slots order
arranged-push slots [] slot inside = refl
arranged-push slots (n ∷ order) slot inside =
    ap (λ s. entry_of s ∷ arranged (slots ++ slot ∷ []) order) (get_or-append slots (slot ∷ []) no_slot n (inside 0 (omega arith)))
    ∙ ap (λ es. entry_in slots n ∷ es) (arranged-push slots order slot (λ at within. inside (suc at) (omega arith)))

pub len-entries_of : (slots : List Slot) (order : List ℕ) → is_sorted entry_cmp (arranged slots order) ≡ true → map.len (entries_of slots order) ≡ length order
len-entries_of slots order sorted = len_of entry_cmp_total entry_cmp_exact (arranged slots order) sorted ∙ length-arranged slots order

pub entries-entries_of : (slots : List Slot) (order : List ℕ) → is_sorted entry_cmp (arranged slots order) ≡ true → map.entries (entries_of slots order) ≡ arranged slots order
entries-entries_of slots order sorted = map.entries-from_sorted entry_cmp (arranged slots order) (subst T (sym sorted) tt)
