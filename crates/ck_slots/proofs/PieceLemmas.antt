-- Numbers in pieces, after an edit of the pieces.
use Rattle.std.proofs.Common.{◌≡◌, ℕ, zero, suc, ◌+◌, ◌*◌, ◌<◌, ◌≤◌, List, [], ◌∷◌, ◌++◌, take, length, get_or, set, append_assoc, append-nil, refl, sym, ap, subst, ◌∙◌, length-append, arith, inl, inr}
use Rattle.std.proofs.lemmas.List.{get_or_append_left, get_or-append-add, get_or_default}
use Rattle.std.proofs.lemmas.List.Edits.{length-remove}
use Rattle.std.proofs.lemmas.Bool.{cases_lt}
use Rattle.std.specs.List.{concat, insert, remove}
use Rattle.ck_slots.specs.declared.order.Place.{Place}
use Rattle.ck_slots.specs.Pieces.{offset, piece_at, IsTaken, AreFilled}

-- ---- edits of two lists that are joined

insert_left : (xs ys : List ℕ) (at n : ℕ) → at ≤ length xs → insert (xs ++ ys) at n ≡ insert xs at n ++ ys
insert_left [] ys zero n within = refl
insert_left [] ys (suc at) n within = absurd (omega arith)
insert_left (x ∷ xs) ys zero n within = refl
insert_left (x ∷ xs) ys (suc at) n within = ap (λ zs. x ∷ zs) (insert_left xs ys at n (omega arith))

insert_right : (xs ys : List ℕ) (at n place : ℕ) → place ≡ length xs + at → insert (xs ++ ys) place n ≡ xs ++ insert ys at n
insert_right [] ys at n place is = let same : place ≡ at = omega arith in ap (λ k. insert ys k n) same
insert_right (x ∷ xs) ys at n place is =
    let same : place ≡ suc (length xs + at) = omega arith in
    ap (λ k. insert (x ∷ xs ++ ys) k n) same ∙ ap (λ zs. x ∷ zs) (insert_right xs ys at n (length xs + at) refl)

remove_left : (xs ys : List ℕ) (at : ℕ) → at < length xs → remove (xs ++ ys) at ≡ remove xs at ++ ys
remove_left [] ys at within = absurd (omega arith)
remove_left (x ∷ xs) ys zero within = refl
remove_left (x ∷ xs) ys (suc at) within = ap (λ zs. x ∷ zs) (remove_left xs ys at (omega arith))

remove_right : (xs ys : List ℕ) (at place : ℕ) → place ≡ length xs + at → remove (xs ++ ys) place ≡ xs ++ remove ys at
remove_right [] ys at place is = let same : place ≡ at = omega arith in ap (λ k. remove ys k) same
remove_right (x ∷ xs) ys at place is =
    let same : place ≡ suc (length xs + at) = omega arith in
    ap (λ k. remove (x ∷ xs ++ ys) k) same ∙ ap (λ zs. x ∷ zs) (remove_right xs ys at (length xs + at) refl)

-- ---- the numbers in pieces

pub offset-next : (pieces : List (List ℕ)) (piece next : ℕ) → next ≡ suc piece → piece < length pieces → offset pieces next ≡ offset pieces piece + length (piece_at pieces piece)
offset-next [] piece next is within = absurd (omega arith)
offset-next (p ∷ ps) zero next is within =
    let one : next ≡ 1 = omega arith in
    ap (λ k. offset (p ∷ ps) k) one ∙ length-append p [] ∙ omega arith
offset-next (p ∷ ps) (suc piece) next is within =
    let rest = offset-next ps piece (suc piece) refl (omega arith) in
    ap (λ k. offset (p ∷ ps) k) is ∙ omega (arith, rest, length-append p (concat (take (suc piece) ps)), length-append p (concat (take piece ps)))

pub offset_inside : (pieces : List (List ℕ)) (piece : ℕ) → piece < length pieces → offset pieces piece + length (piece_at pieces piece) ≤ length (concat pieces)
offset_inside [] piece within = absurd (omega arith)
offset_inside (p ∷ ps) zero within = omega (arith, length-append p (concat ps))
offset_inside (p ∷ ps) (suc piece) within = omega (arith, offset_inside ps piece (omega arith), length-append p (concat ps), length-append p (concat (take piece ps)))

pub offset_last : (pieces : List (List ℕ)) (piece : ℕ) → suc piece ≡ length pieces → offset pieces piece + length (piece_at pieces piece) ≡ length (concat pieces)
offset_last [] piece last = absurd (omega arith)
offset_last (p ∷ []) zero last = omega (arith, length-append p [])
offset_last (p ∷ q ∷ ps) zero last = absurd (omega arith)
offset_last (p ∷ ps) (suc piece) last = omega (arith, offset_last ps piece (omega arith), length-append p (concat ps), length-append p (concat (take piece ps)))

-- where a number stands at a place, it is one of all
pub index_inside : (pieces : List (List ℕ)) (place : Place) → IsTaken pieces place → offset pieces place.piece + place.within < length (concat pieces)
index_inside pieces place taken = omega (arith, taken.within, offset_inside pieces place.piece taken.piece)

pub number_at : (pieces : List (List ℕ)) (piece within place d : ℕ) → place ≡ offset pieces piece + within → piece < length pieces → within < length (piece_at pieces piece) → get_or (concat pieces) place d ≡ get_or (piece_at pieces piece) within d
number_at [] piece within place d is there inside = absurd (omega arith)
number_at (p ∷ ps) zero within place d is there inside =
    let same : place ≡ within = omega arith in
    ap (λ k. get_or (p ++ concat ps) k d) same ∙ get_or_append_left p (concat ps) d within inside
number_at (p ∷ ps) (suc piece) within place d is there inside =
    let same : place ≡ length p + (offset ps piece + within) = omega (arith, is, length-append p (concat (take piece ps))) in
    ap (λ k. get_or (p ++ concat ps) k d) same ∙ get_or-append-add p (concat ps) (offset ps piece + within) d
    ∙ number_at ps piece within (offset ps piece + within) d refl (omega arith) inside

pub inserted_in : (pieces : List (List ℕ)) (piece within place n : ℕ) → place ≡ offset pieces piece + within → piece < length pieces → within ≤ length (piece_at pieces piece) → concat (set pieces piece (insert (piece_at pieces piece) within n)) ≡ insert (concat pieces) place n
inserted_in [] piece within place n is there inside = absurd (omega arith)
inserted_in (p ∷ ps) zero within place n is there inside =
    let same : within ≡ place = omega arith in
    sym (insert_left p (concat ps) within n inside) ∙ ap (λ k. insert (p ++ concat ps) k n) same
inserted_in (p ∷ ps) (suc piece) within place n is there inside =
    ap (λ ns. p ++ ns) (inserted_in ps piece within (offset ps piece + within) n refl (omega arith) inside)
    ∙ sym (insert_right p (concat ps) (offset ps piece + within) n place (omega (arith, is, length-append p (concat (take piece ps)))))

pub removed_in : (pieces : List (List ℕ)) (piece within place : ℕ) → place ≡ offset pieces piece + within → piece < length pieces → within < length (piece_at pieces piece) → concat (set pieces piece (remove (piece_at pieces piece) within)) ≡ remove (concat pieces) place
removed_in [] piece within place is there inside = absurd (omega arith)
removed_in (p ∷ ps) zero within place is there inside =
    let same : within ≡ place = omega arith in
    sym (remove_left p (concat ps) within inside) ∙ ap (λ k. remove (p ++ concat ps) k) same
removed_in (p ∷ ps) (suc piece) within place is there inside =
    ap (λ ns. p ++ ns) (removed_in ps piece within (offset ps piece + within) refl (omega arith) inside)
    ∙ sym (remove_right p (concat ps) (offset ps piece + within) place (omega (arith, is, length-append p (concat (take piece ps)))))

head_removed : (p ns : List ℕ) → length p ≡ 1 → ns ≡ remove (p ++ ns) 0
head_removed [] ns one = absurd (omega arith)
head_removed (x ∷ []) ns one = refl
head_removed (x ∷ y ∷ p) ns one = absurd (omega arith)

-- a piece of one number is taken out
pub removed_with : (pieces : List (List ℕ)) (piece : ℕ) → piece < length pieces → length (piece_at pieces piece) ≡ 1 → concat (remove pieces piece) ≡ remove (concat pieces) (offset pieces piece)
removed_with [] piece there one = absurd (omega arith)
removed_with (p ∷ ps) zero there one = head_removed p (concat ps) one
removed_with (p ∷ ps) (suc piece) there one =
    ap (λ ns. p ++ ns) (removed_with ps piece (omega arith) one)
    ∙ sym (remove_right p (concat ps) (offset ps piece) (offset (p ∷ ps) (suc piece)) (length-append p (concat (take piece ps))))

pub concat-split : (pieces : List (List ℕ)) (piece next : ℕ) (lower upper : List ℕ) → next ≡ suc piece → piece < length pieces → piece_at pieces piece ≡ lower ++ upper → concat (insert (set pieces piece lower) next upper) ≡ concat pieces
concat-split [] piece next lower upper follows there is = absurd (omega arith)
concat-split (p ∷ ps) zero next lower upper follows there is =
    ap (λ k. concat (insert (lower ∷ ps) k upper)) follows ∙ sym (append_assoc lower upper (concat ps)) ∙ ap (λ q. q ++ concat ps) (sym is)
concat-split (p ∷ ps) (suc piece) next lower upper follows there is =
    ap (λ k. concat (insert (p ∷ set ps piece lower) k upper)) follows
    ∙ ap (λ ns. p ++ ns) (concat-split ps piece (suc piece) lower upper refl (omega arith) is)

pub concat-join : (pieces : List (List ℕ)) (piece next : ℕ) → next ≡ suc piece → next < length pieces → concat (set (remove pieces next) piece (piece_at pieces piece ++ piece_at pieces next)) ≡ concat pieces
concat-join [] piece next follows there = absurd (omega arith)
concat-join (p ∷ []) piece next follows there = absurd (omega arith)
concat-join (p ∷ q ∷ ps) zero next follows there =
    ap (λ k. concat (set (remove (p ∷ q ∷ ps) k) 0 (p ++ piece_at (p ∷ q ∷ ps) k))) follows ∙ append_assoc p q (concat ps)
concat-join (p ∷ q ∷ ps) (suc piece) next follows there =
    ap (λ k. concat (set (remove (p ∷ q ∷ ps) k) (suc piece) (piece_at (q ∷ ps) piece ++ piece_at (p ∷ q ∷ ps) k))) follows
    ∙ ap (λ ns. p ++ ns) (concat-join (q ∷ ps) piece (suc piece) refl (omega arith))

-- ---- no piece but the last is empty

filled-cons : (p : List ℕ) (ps : List (List ℕ)) → (0 < length ps → 0 < length p) → AreFilled ps → AreFilled (p ∷ ps)
filled-cons p ps some filled zero within = some (omega arith)
filled-cons p ps some filled (suc k) within = filled k (omega arith)

filled_rest : (p : List ℕ) (ps : List (List ℕ)) → AreFilled (p ∷ ps) → AreFilled ps
filled_rest p ps filled k within = filled (suc k) (omega arith)

pub filled-split : (pieces : List (List ℕ)) (piece next : ℕ) (lower upper : List ℕ) → next ≡ suc piece → piece < length pieces → 0 < length lower → 0 < length upper → AreFilled pieces → AreFilled (insert (set pieces piece lower) next upper)
filled-split [] piece next lower upper follows there some more filled = absurd (omega arith)
filled-split (p ∷ ps) zero next lower upper follows there some more filled =
    subst (λ k. AreFilled (insert (lower ∷ ps) k upper)) (sym follows) (filled-cons lower (upper ∷ ps) (λ _. some) (filled-cons upper ps (λ _. more) (filled_rest p ps filled)))
filled-split (p ∷ ps) (suc piece) next lower upper follows there some more filled =
    subst (λ k. AreFilled (insert (p ∷ set ps piece lower) k upper)) (sym follows)
    (filled-cons p (insert (set ps piece lower) (suc piece) upper) (λ _. filled 0 (omega arith)) (filled-split ps piece (suc piece) lower upper refl (omega arith) some more (filled_rest p ps filled)))

pub filled-join : (pieces : List (List ℕ)) (piece next : ℕ) → next ≡ suc piece → next < length pieces → AreFilled pieces → AreFilled (set (remove pieces next) piece (piece_at pieces piece ++ piece_at pieces next))
filled-join [] piece next follows there filled = absurd (omega arith)
filled-join (p ∷ []) piece next follows there filled = absurd (omega arith)
filled-join (p ∷ q ∷ ps) zero next follows there filled =
    subst (λ k. AreFilled (set (remove (p ∷ q ∷ ps) k) 0 (p ++ piece_at (p ∷ q ∷ ps) k))) (sym follows)
    (filled-cons (p ++ q) ps (λ _. omega (arith, filled 0 (omega arith), length-append p q)) (filled_rest q ps (filled_rest p (q ∷ ps) filled)))
filled-join (p ∷ q ∷ ps) (suc piece) next follows there filled =
    subst (λ k. AreFilled (set (remove (p ∷ q ∷ ps) k) (suc piece) (piece_at (q ∷ ps) piece ++ piece_at (p ∷ q ∷ ps) k))) (sym follows)
    (filled-cons p (set (remove (q ∷ ps) (suc piece)) piece (piece_at (q ∷ ps) piece ++ piece_at (q ∷ ps) (suc piece))) (λ _. filled 0 (omega arith)) (filled-join (q ∷ ps) piece (suc piece) refl (omega arith) (filled_rest p (q ∷ ps) filled)))

before_removed : (pieces : List (List ℕ)) (at next : ℕ) → at < next → next < length pieces → piece_at (remove pieces next) at ≡ piece_at pieces at
before_removed [] at next before there = absurd (omega arith)
before_removed (p ∷ ps) at zero before there = absurd (omega arith)
before_removed (p ∷ ps) zero (suc next) before there = refl
before_removed (p ∷ ps) (suc at) (suc next) before there = before_removed ps at next (omega arith) (omega arith)

-- what a join makes of the pieces
pub joined_is : (pieces rest : List (List ℕ)) (at next : ℕ) (first second joined : List ℕ) → next ≡ suc at → next < length pieces → rest ≡ remove pieces next → first ≡ get_or rest at first → second ≡ get_or pieces next second → joined ≡ first ++ second → set rest at joined ≡ set (remove pieces next) at (piece_at pieces at ++ piece_at pieces next)
joined_is pieces rest at next first second joined follows there rest_is first_is second_is is =
    let within : at < length rest = omega (arith, follows, there, ap length rest_is, length-remove pieces next there) in
    ap (λ r. set r at joined) rest_is
    ∙ ap (λ p. set (remove pieces next) at p) (is
    ∙ ap (λ p. p ++ second) (first_is ∙ get_or_default rest at first [] within ∙ ap (λ r. piece_at r at) rest_is ∙ before_removed pieces at next (omega arith) there)
    ∙ ap (λ p. piece_at pieces at ++ p) (second_is ∙ get_or_default pieces next second [] there))

pub concat-next : (pieces : List (List ℕ)) (piece next : ℕ) → next ≡ suc piece → piece < length pieces → concat (take next pieces) ≡ concat (take piece pieces) ++ piece_at pieces piece
concat-next [] piece next is within = absurd (omega arith)
concat-next (p ∷ ps) zero next is within = ap (λ k. concat (take k (p ∷ ps))) is ∙ append-nil p
concat-next (p ∷ ps) (suc piece) next is within =
    ap (λ k. concat (take k (p ∷ ps))) is
    ∙ ap (λ ns. p ++ ns) (concat-next ps piece (suc piece) refl (omega arith))
    ∙ sym (append_assoc p (concat (take piece ps)) (piece_at ps piece))

-- no two neighbours up to this piece fit into one
abbrev pub AreCrowded : List (List ℕ) → ℕ → Type 0
AreCrowded pieces at = (k : ℕ) → k < at → 512 < length (piece_at pieces k) + length (piece_at pieces (suc k))

pub crowded-join : (old new : List (List ℕ)) (at : ℕ) → ((k : ℕ) → k < at → piece_at new k ≡ piece_at old k) → piece_at new at ≡ piece_at old at ++ piece_at old (suc at) → AreCrowded old at → AreCrowded new at
crowded-join old new at before joined crowded k below = elim (cases_lt (suc k) at) [
  | inl inside ↦ omega (arith, crowded k below, ap length (before k below), ap length (before (suc k) inside))
  | inr end ↦
      let last : suc k ≡ at = omega arith in
      omega (arith, crowded k below, ap length (before k below), ap (λ n. length (piece_at new n)) last, ap (λ n. length (piece_at old n)) last, ap length joined, length-append (piece_at old at) (piece_at old (suc at)))
]

-- where no two neighbours fit into one piece, the pieces are few
pub few_pieces : (pieces : List (List ℕ)) → ((k : ℕ) → suc k < length pieces → 512 < length (piece_at pieces k) + length (piece_at pieces (suc k))) → 512 * length pieces ≤ 2 * length (concat pieces) + 512
few_pieces [] crowded = omega arith
few_pieces (p ∷ []) crowded = omega arith
few_pieces (p ∷ q ∷ ps) crowded =
    let rest = few_pieces ps (λ k within. crowded (suc (suc k)) (omega arith)) in
    omega (arith, rest, crowded 0 (omega arith), length-append p (q ++ concat ps), length-append q (concat ps))
