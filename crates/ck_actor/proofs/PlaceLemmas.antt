-- An actor's numbers in the lines before a place.
use Rattle.std.proofs.Common.{◌≡◌, ℕ, zero, suc, ◌+◌, ◌<◌, ◌≤◌, true, false, cond, Some, None, IfSome, List, [], ◌∷◌, ◌++◌, length, take, drop, get_or, nat_eq, if◌then◌else◌, inl, inr, refl, sym, ap, ◌∙◌, subst, arith, drop-cons, length-append}
use Rattle.std.specs.Prelude.{slice_get}
use Rattle.std.specs.List.{cons_option, range_with_len}
use Rattle.std.proofs.lemmas.Bool.Decides.{nat_tests}
use Rattle.std.proofs.lemmas.List.{take_more, take_all, take-append-drop, map-append, append-nil}
use Rattle.std.proofs.lemmas.List.Elements.{filter_map-append}
use Rattle.std.proofs.lemmas.Option.{slice_get_read, slice_get_past, slice_get_cases}
use Rattle.ck_model.specs.declared.call.Call.{Call}
use Rattle.ck_model.specs.History.{calls_of, call_at}
use Rattle.ck_script.specs.declared.line.Line.{Line}
use Rattle.ck_script.specs.Numbered.{calls_in, numbers_in, IsNumbered}

pub numbers_in-append : (before after : List Line) (actor : ℕ) → numbers_in (before ++ after) actor ≡ numbers_in before actor ++ numbers_in after actor
numbers_in-append before after actor = filter_map-append (λ (l : Line). if nat_eq l.actor actor then Some l.seq else None) before after

module _ (lines : List Line) (at : ℕ) (line : Line) (actor : ℕ) (within : at < length lines) (is : line ≡ get_or lines at line) where
  more : numbers_in (take (at + 1) lines) actor ≡ numbers_in (take at lines) actor ++ numbers_in (line ∷ []) actor
  more =
      ap (λ xs. numbers_in xs actor) (take_more lines at line within ∙ ap (λ last. take at lines ++ last ∷ []) (sym is))
      ∙ numbers_in-append (take at lines) (line ∷ []) actor

  parts : lines ≡ take at lines ++ line ∷ drop (suc at) lines
  parts = sym (take-append-drop at lines) ∙ ap (λ rest. take at lines ++ rest) (drop-cons lines at line within ∙ ap (λ first. first ∷ drop (suc at) lines) (sym is))

-- behind a line of another actor they are the same
pub other_line : (lines : List Line) (at : ℕ) (line : Line) (actor : ℕ) → at < length lines → line ≡ get_or lines at line → nat_eq line.actor actor ≡ false → numbers_in (take (at + 1) lines) actor ≡ numbers_in (take at lines) actor
other_line lines at line actor within is other =
    more lines at line actor within is
    ∙ ap (λ b. numbers_in (take at lines) actor ++ cons_option (cond b (Some line.seq) None) []) other
    ∙ append-nil (numbers_in (take at lines) actor)

-- behind the actor's own line there is one more
pub own_line : (lines : List Line) (at : ℕ) (line : Line) (actor : ℕ) → at < length lines → line ≡ get_or lines at line → nat_eq line.actor actor ≡ true → numbers_in (take (at + 1) lines) actor ≡ numbers_in (take at lines) actor ++ line.seq ∷ []
own_line lines at line actor within is own =
    more lines at line actor within is
    ∙ ap (λ b. numbers_in (take at lines) actor ++ cons_option (cond b (Some line.seq) None) []) own

-- all of them
pub numbers_around : (lines : List Line) (at : ℕ) (line : Line) (actor : ℕ) → at < length lines → line ≡ get_or lines at line → nat_eq line.actor actor ≡ true
    → numbers_in lines actor ≡ numbers_in (take at lines) actor ++ line.seq ∷ numbers_in (drop (suc at) lines) actor
numbers_around lines at line actor within is own =
    ap (λ xs. numbers_in xs actor) (parts lines at line actor within is)
    ∙ numbers_in-append (take at lines) (line ∷ drop (suc at) lines) actor
    ∙ ap (λ b. numbers_in (take at lines) actor ++ cons_option (cond b (Some line.seq) None) (numbers_in (drop (suc at) lines) actor)) own

get_here : {A : Type 0} (xs : List A) (y : A) (ys : List A) → slice_get (xs ++ y ∷ ys) (length xs) ≡ Some y
get_here [] y ys = refl
get_here (x ∷ xs) y ys = get_here xs y ys

range_here : (first n k : ℕ) → k < n → slice_get (range_with_len first n) k ≡ Some (first + k)
range_here first zero k lt = absurd (omega arith)
range_here first (suc n) zero lt = let is : first ≡ first + 0 = omega arith in ap (λ m. Some m) is
range_here first (suc n) (suc k) lt =
    let is : (first + 1) + k ≡ first + suc k = omega arith in
    range_here (first + 1) n k (omega arith) ∙ ap (λ m. Some m) is

some_same : {A : Type 0} (x y : A) → Some x ≡ Some y → x ≡ y
some_same x y h = cc

longer : (xs : List ℕ) (y : ℕ) (ys : List ℕ) → length xs < length (xs ++ y ∷ ys)
longer xs y ys = simp length-append (omega arith)

-- fewer than all are before the actor's own line
pub left_at : (lines : List Line) (at : ℕ) (line : Line) (actor : ℕ) → at < length lines → line ≡ get_or lines at line → nat_eq line.actor actor ≡ true → length (numbers_in (take at lines) actor) < length (numbers_in lines actor)
left_at lines at line actor within is own =
    subst (λ xs. length (numbers_in (take at lines) actor) < length xs) (sym (numbers_around lines at line actor within is own))
    (longer (numbers_in (take at lines) actor) line.seq (numbers_in (drop (suc at) lines) actor))

-- its number is the next one
pub own_number : (lines : List Line) (at : ℕ) (line : Line) (actor : ℕ) → IsNumbered lines → at < length lines → line ≡ get_or lines at line → nat_eq line.actor actor ≡ true → line.seq ≡ length (numbers_in (take at lines) actor) + 1
own_number lines at line actor numbered within is own =
    let numbers = numbers_in (take at lines) actor in
    let around = numbers_around lines at line actor within is own in
    let here : Some line.seq ≡ Some (1 + length numbers) =
    sym (get_here numbers line.seq (numbers_in (drop (suc at) lines) actor))
    ∙ ap (λ xs. slice_get xs (length numbers)) (sym around ∙ numbered actor)
    ∙ range_here 1 (length (numbers_in lines actor)) (length numbers) (left_at lines at line actor within is own) in
    omega (arith, some_same line.seq (1 + length numbers) here)

pub none_there : (lines : List Line) (at actor : ℕ) → length lines ≤ at → IfSome (slice_get lines at) (λ line. line.actor ≡ actor)
none_there lines at actor past = subst (λ found. IfSome found (λ line. line.actor ≡ actor)) (sym (slice_get_past lines at past)) tt

-- what holds of the line at a place holds of the line that is read there
pub own_at : (lines : List Line) (at : ℕ) (line : Line) (actor : ℕ) → at < length lines → line ≡ get_or lines at line → IfSome (slice_get lines at) (λ line. line.actor ≡ actor) → nat_eq line.actor actor ≡ true
own_at lines at line actor within is own =
    let same : line.actor ≡ actor = subst (λ found. IfSome found (λ line. line.actor ≡ actor)) (slice_get_read lines (length lines) at line refl within is) own in
    grind (arith, nat_tests, same)

-- ---- the call of a line

pub calls_as_many : (lines : List Line) (actor : ℕ) → length (calls_of (calls_in lines) actor) ≡ length (numbers_in lines actor)
calls_as_many [] actor = refl
calls_as_many (line ∷ lines) actor =
    elim (nat_eq line.actor actor) as (λ b. length (cons_option (cond b (Some line.call) None) (calls_of (calls_in lines) actor)) ≡ length (cons_option (cond b (Some line.seq) None) (numbers_in lines actor))) [
      | true ↦ ap suc (calls_as_many lines actor)
      | false ↦ calls_as_many lines actor
    ]

calls_around : (lines : List Line) (at : ℕ) (line : Line) (actor : ℕ) → at < length lines → line ≡ get_or lines at line → nat_eq line.actor actor ≡ true
    → calls_of (calls_in lines) actor ≡ calls_of (calls_in (take at lines)) actor ++ line.call ∷ calls_of (calls_in (drop (suc at) lines)) actor
calls_around lines at line actor within is own =
    ap (λ xs. calls_of (calls_in xs) actor) (parts lines at line actor within is)
    ∙ ap (λ script. calls_of script actor) (map-append (λ (l : Line). (l.actor, l.call)) (take at lines) (line ∷ drop (suc at) lines))
    ∙ filter_map-append (λ (l : ℕ × Call). if nat_eq l.0 actor then Some l.1 else None) (calls_in (take at lines)) (calls_in (line ∷ drop (suc at) lines))
    ∙ ap (λ b. calls_of (calls_in (take at lines)) actor ++ cons_option (cond b (Some line.call) None) (calls_of (calls_in (drop (suc at) lines)) actor)) own

-- a line's own actor and number lead to its call
pub own_call : (lines : List Line) (at : ℕ) (line : Line) (actor : ℕ) → IsNumbered lines → at < length lines → line ≡ get_or lines at line → nat_eq line.actor actor ≡ true → call_at (calls_in lines) actor line.seq ≡ Some line.call
own_call lines at line actor numbered within is own =
    let before = calls_of (calls_in (take at lines)) actor in
    let number : line.seq ≡ suc (length before) = omega (arith, own_number lines at line actor numbered within is own, calls_as_many (take at lines) actor) in
    ap (call_at (calls_in lines) actor) number
    ∙ ap (λ xs. slice_get xs (length before)) (calls_around lines at line actor within is own)
    ∙ get_here before line.call (calls_of (calls_in (drop (suc at) lines)) actor)

pub line_call : (lines : List Line) (at : ℕ) (line : Line) → IsNumbered lines → at < length lines → line ≡ get_or lines at line → call_at (calls_in lines) line.actor line.seq ≡ Some line.call
line_call lines at line numbered within is = own_call lines at line line.actor numbered within is itself
  where
    itself : nat_eq line.actor line.actor ≡ true
    itself = grind (arith, nat_tests)

-- ---- the end

-- no call is left exactly where the place is the end
pub all_before : (lines : List Line) (at actor : ℕ) → length lines ≤ at → numbers_in (take at lines) actor ≡ numbers_in lines actor
all_before lines at actor past = ap (λ xs. numbers_in xs actor) (take_all at lines past)

pub none_left : (lines : List Line) (at actor : ℕ) → IfSome (slice_get lines at) (λ line. line.actor ≡ actor) → numbers_in (take at lines) actor ≡ numbers_in lines actor → length lines ≤ at
none_left lines at actor own all =
    elim (slice_get_cases lines at).1 [
      | inl there ↦
          let own = own_at lines at there.0 actor there.1 (sym there.3) own in
          let less = left_at lines at there.0 actor there.1 (sym there.3) own in
          let same : length (numbers_in (take at lines) actor) ≡ length (numbers_in lines actor) = ap (λ (numbers : List ℕ). length numbers) all in
          absurd (omega (arith, less, same))
      | inr past ↦ past.0
    ]
