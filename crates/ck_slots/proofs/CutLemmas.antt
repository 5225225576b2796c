-- The place of a cut among entries whose numbers are in pieces.
use Rattle.std.proofs.Common.{◌≡◌, ℕ, zero, suc, ◌+◌, ◌-◌, ◌<◌, ◌≤◌, Bool, true, false, cond, ◌&&◌, T, List, [], ◌∷◌, ◌++◌, take, length, length-append, get_or, refl, sym, ap, subst, ◌∙◌, inl, inr, arith}
use Rattle.std.proofs.lemmas.List.{map-append}
use Rattle.std.proofs.lemmas.Bool.{cases_lt}
use Rattle.std.specs.declared.cmp.Ordering.{Ordering}
use Rattle.std.specs.Ordering.{is_lt}
use Rattle.std.specs.List.{concat}
use Rattle.std.specs.FinMap.{is_sorted}
use Rattle.std.specs.FinMap.Entries.{below_all}
use Rattle.ck_model.specs.declared.key.Key.{Key}
use Rattle.ck_model.specs.Key.{entry_cmp}
use Rattle.ck_slots.specs.declared.slot.Slot.{Slot}
use Rattle.ck_slots.specs.declared.search.Cut.{Cut}
use Rattle.ck_slots.specs.Arranged.{arranged, entry_of, entry_in, no_slot}
use Rattle.ck_slots.specs.Cut.{front, stands_before}
use Rattle.ck_slots.specs.Pieces.{offset, piece_at}
use Rattle.ck_slots.proofs.ArrangedLemmas.{length-arranged, get_or-arranged}
use Rattle.ck_slots.proofs.Cuts.{both_of, front_above, front_below, front_le, cut_falls}
use Rattle.ck_slots.proofs.PieceLemmas.{offset-next, offset_inside, offset_last, number_at}

-- ---- how many stand at the front of two lists that are joined

front_past : {K X : Type 0} (test : K → Bool) (xs ys : List (K × X)) → length xs ≤ front test (xs ++ ys) → front test (xs ++ ys) ≡ length xs + front test ys
front_past test [] ys far = omega arith
front_past test (x ∷ xs) ys far =
    elim (test x.0) as (λ b. suc (length xs) ≤ cond b (suc (front test (xs ++ ys))) 0 → cond b (suc (front test (xs ++ ys))) 0 ≡ suc (length xs) + front test ys) [
      | true ↦ λ far. omega (arith, front_past test xs ys (omega (arith, far)))
      | false ↦ λ far. absurd (omega (arith, far))
    ] far

front_within : {K X : Type 0} (test : K → Bool) (xs ys : List (K × X)) → front test (xs ++ ys) ≤ length xs → front test xs ≡ front test (xs ++ ys)
front_within test [] ys few = omega (arith, few)
front_within test (x ∷ xs) ys few =
    elim (test x.0) as (λ b. cond b (suc (front test (xs ++ ys))) 0 ≤ suc (length xs) → cond b (suc (front test xs)) 0 ≡ cond b (suc (front test (xs ++ ys))) 0) [
      | true ↦ λ few. ap suc (front_within test xs ys (omega (arith, few)))
      | false ↦ λ few. refl
    ] few

arranged-append : (slots : List Slot) (xs ys : List ℕ) → arranged slots (xs ++ ys) ≡ arranged slots xs ++ arranged slots ys
arranged-append slots xs ys = map-append (entry_in slots) xs ys

-- the piece that the front ends in has the rest of it
pub front_pieces : (slots : List Slot) (test : ℕ × Key → Bool) (pieces : List (List ℕ)) (piece : ℕ) → piece < length pieces → offset pieces piece ≤ front test (arranged slots (concat pieces)) → front test (arranged slots (concat pieces)) ≤ offset pieces piece + length (piece_at pieces piece)
    → offset pieces piece + front test (arranged slots (piece_at pieces piece)) ≡ front test (arranged slots (concat pieces))
front_pieces slots test [] piece there behind before = absurd (omega arith)
front_pieces slots test (p ∷ ps) zero there behind before =
    let parts = ap (front test) (arranged-append slots p (concat ps)) in
    let here = front_within test (arranged slots p) (arranged slots (concat ps)) (omega (arith, before, parts, length-arranged slots p)) in
    omega (arith, parts, here)
front_pieces slots test (p ∷ ps) (suc piece) there behind before =
    let parts = ap (front test) (arranged-append slots p (concat ps)) in
    let long = length-arranged slots p in
    let sum = length-append p (concat (take piece ps)) in
    let past = front_past test (arranged slots p) (arranged slots (concat ps)) (omega (arith, behind, parts, long, sum)) in
    let rest = front_pieces slots test ps piece (omega arith) (omega (arith, behind, parts, past, long, sum)) (omega (arith, before, parts, past, long, sum)) in
    omega (arith, parts, past, long, sum, rest)

-- it ends in the piece where it ends before the next one, if there is one
pub front_end : (slots : List Slot) (test : ℕ × Key → Bool) (pieces : List (List ℕ)) (piece : ℕ) → piece < length pieces → (suc piece < length pieces → front test (arranged slots (concat pieces)) < offset pieces (suc piece)) → front test (arranged slots (concat pieces)) ≤ offset pieces piece + length (piece_at pieces piece)
front_end slots test pieces piece there before = elim (cases_lt (suc piece) (length pieces)) [
  | inl more ↦ omega (arith, before more, offset-next pieces piece (suc piece) refl there)
  | inr last ↦ omega (arith, front_le test (arranged slots (concat pieces)), length-arranged slots (concat pieces), offset_last pieces piece (omega (arith, there, last)))
]

-- a front that takes a whole piece takes all
pub all_behind : (slots : List Slot) (test : ℕ × Key → Bool) (pieces : List (List ℕ)) (piece : ℕ) → piece < length pieces → (suc piece < length pieces → front test (arranged slots (concat pieces)) < offset pieces (suc piece)) → (within : ℕ) → within ≡ length (piece_at pieces piece) → offset pieces piece + within ≡ front test (arranged slots (concat pieces)) → offset pieces piece + within ≡ length (concat pieces)
all_behind slots test pieces piece there before within end is = elim (cases_lt (suc piece) (length pieces)) [
  | inl more ↦ absurd (omega (arith, before more, end, is, offset-next pieces piece (suc piece) refl there))
  | inr last ↦ omega (arith, end, offset_last pieces piece (omega (arith, there, last)))
]

-- ---- the entries of a piece are in order

true_of : (b : Bool) → T b → b ≡ true
true_of true h = refl
true_of false h = absurd h

and_of : (a b : Bool) → T a → T b → T (a && b)
and_of true true h k = tt
and_of true false h k = absurd k
and_of false b h k = absurd h

module _ {K X : Type 0} (R : K → K → Ordering) where
  below_left : (x : K) (xs ys : List (K × X)) → T (below_all R x (xs ++ ys)) → T (below_all R x xs)
  below_left x [] ys h = tt
  below_left x (y ∷ xs) ys h =
      let parts = both_of (is_lt (R x y.0)) (below_all R x (xs ++ ys)) h in
      and_of (is_lt (R x y.0)) (below_all R x xs) parts.0 (below_left x xs ys parts.1)

  sorted_left : (xs ys : List (K × X)) → T (is_sorted R (xs ++ ys)) → T (is_sorted R xs)
  sorted_left [] ys h = tt
  sorted_left (x ∷ xs) ys h =
      let parts = both_of (below_all R x.0 (xs ++ ys)) (is_sorted R (xs ++ ys)) h in
      and_of (below_all R x.0 xs) (is_sorted R xs) (below_left x.0 xs ys parts.0) (sorted_left xs ys parts.1)

  sorted_right : (xs ys : List (K × X)) → T (is_sorted R (xs ++ ys)) → T (is_sorted R ys)
  sorted_right [] ys h = h
  sorted_right (x ∷ xs) ys h = sorted_right xs ys (both_of (below_all R x.0 (xs ++ ys)) (is_sorted R (xs ++ ys)) h).1

sorted_in : (slots : List Slot) (pieces : List (List ℕ)) (piece : ℕ) → piece < length pieces → T (is_sorted entry_cmp (arranged slots (concat pieces))) → T (is_sorted entry_cmp (arranged slots (piece_at pieces piece)))
sorted_in slots [] piece there h = absurd (omega arith)
sorted_in slots (p ∷ ps) zero there h = sorted_left entry_cmp (arranged slots p) (arranged slots (concat ps)) (subst (λ es. T (is_sorted entry_cmp es)) (arranged-append slots p (concat ps)) h)
sorted_in slots (p ∷ ps) (suc piece) there h =
    sorted_in slots ps piece (omega arith) (sorted_right entry_cmp (arranged slots p) (arranged slots (concat ps)) (subst (λ es. T (is_sorted entry_cmp es)) (arranged-append slots p (concat ps)) h))

pub sorted_piece : (slots : List Slot) (pieces : List (List ℕ)) (piece : ℕ) → piece < length pieces → is_sorted entry_cmp (arranged slots (concat pieces)) ≡ true → is_sorted entry_cmp (arranged slots (piece_at pieces piece)) ≡ true
sorted_piece slots pieces piece there sorted = true_of (is_sorted entry_cmp (arranged slots (piece_at pieces piece))) (sorted_in slots pieces piece there (subst T (sym sorted) tt))

module _ (slots : List Slot) (pieces : List (List ℕ)) (inside : (k : ℕ) → k < length (concat pieces) → get_or (concat pieces) k 0 < length slots) (piece : ℕ) (there : piece < length pieces) where
  pub inside_piece : (k : ℕ) → k < length (piece_at pieces piece) → get_or (piece_at pieces piece) k 0 < length slots
  inside_piece k within =
      let is = number_at pieces piece k (offset pieces piece + k) 0 refl there within in
      subst (λ n. n < length slots) is (inside (offset pieces piece + k) (omega (arith, within, offset_inside pieces piece there)))

  -- the number at the end of the piece, as it is read
  module _ (some : 0 < length (piece_at pieces piece)) (number : ℕ) (number_is : number ≡ get_or (piece_at pieces piece) (length (piece_at pieces piece) - 1) 0) where
    pub last_inside : number < length slots
    last_inside = subst (λ n. n < length slots) (sym number_is) (inside_piece (length (piece_at pieces piece) - 1) (omega (arith, some)))

    module _ (slot : Slot) (slot_is : slot ≡ get_or slots number slot) where
      read : (at : ℕ) → at ≡ offset pieces piece + (length (piece_at pieces piece) - 1) → get_or (arranged slots (concat pieces)) at (entry_of no_slot) ≡ entry_of slot
      read at is =
          let within : at < length (concat pieces) = omega (arith, is, some, offset_inside pieces piece there) in
          let same = number_is ∙ sym (number_at pieces piece (length (piece_at pieces piece) - 1) at 0 is there (omega (arith, some))) in
          get_or-arranged slots (concat pieces) at (entry_of no_slot) slot within (inside at within) (subst (λ n. slot ≡ get_or slots n slot) same slot_is)

      pub last_before : (cut : Cut) → is_sorted entry_cmp (arranged slots (concat pieces)) ≡ true → stands_before cut (slot.fileset, slot.key) ≡ true → offset pieces (suc piece) ≤ front (stands_before cut) (arranged slots (concat pieces))
      last_before cut sorted passes =
          let at = offset pieces piece + (length (piece_at pieces piece) - 1) in
          let es = arranged slots (concat pieces) in
          let within : at < length es = omega (arith, some, offset_inside pieces piece there, length-arranged slots (concat pieces)) in
          let above = front_above entry_cmp (stands_before cut) (cut_falls cut) es at (entry_of no_slot) (subst T (sym sorted) tt) within (ap (λ e. stands_before cut e.0) (read at refl) ∙ passes) in
          omega (arith, above, some, offset-next pieces piece (suc piece) refl there)

      pub last_behind : (cut : Cut) → stands_before cut (slot.fileset, slot.key) ≡ false → front (stands_before cut) (arranged slots (concat pieces)) < offset pieces (suc piece)
      last_behind cut fails =
          let at = offset pieces piece + (length (piece_at pieces piece) - 1) in
          let es = arranged slots (concat pieces) in
          let within : at < length es = omega (arith, some, offset_inside pieces piece there, length-arranged slots (concat pieces)) in
          let below = front_below (stands_before cut) es at (entry_of no_slot) within (ap (λ e. stands_before cut e.0) (read at refl) ∙ fails) in
          omega (arith, below, some, offset-next pieces piece (suc piece) refl there)
