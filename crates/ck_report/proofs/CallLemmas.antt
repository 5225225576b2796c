-- The call of an actor with a number, among lines whose numbers rise.
use Rattle.std.proofs.Common.{◌≡◌, ℕ, zero, suc, ◌+◌, ◌-◌, ◌<◌, ◌≤◌, Bool, true, false, cond, ◌&&◌, List, [], ◌∷◌, length, get_or, drop, drop-cons, Option, Some, None, nat_eq, inl, inr, refl, sym, ap, ◌∙◌, arith}
use Rattle.std.specs.Prelude.{slice_get}
use Rattle.std.specs.List.{range_with_len, cons_option, find}
use Rattle.std.specs.Option.{option_map}
use Rattle.std.proofs.lemmas.Bool.{cases_lt}
use Rattle.std.proofs.lemmas.Bool.Decides.{nat_tests}
use Rattle.std.proofs.lemmas.Option.{slice_get_read, slice_get_cases}
use Rattle.ck_model.specs.declared.call.Call.{Call}
use Rattle.ck_model.specs.History.{calls_of, call_at}
use Rattle.ck_script.specs.declared.line.Line.{Line}
use Rattle.ck_script.specs.Numbered.{calls_in, numbers_in, IsNumbered}
use Rattle.ck_report.specs.Places.{is_call_of}

abbrev pub call_of : Line → Call
call_of line = line.call

-- the call of the first line with this actor and number
abbrev pub call_among : ℕ → ℕ → List Line → Option Call
call_among actor seq lines = option_map call_of (find (is_call_of actor seq) lines)

-- an actor's calls of these lines, the first of which has the number `first`
abbrev pub RisesFrom : ℕ → ℕ → List Line → Type 0
RisesFrom actor first lines = numbers_in lines actor ≡ range_with_len first (length (numbers_in lines actor))

first_number : (seq first : ℕ) (numbers : List ℕ) → seq ∷ numbers ≡ range_with_len first (suc (length numbers)) → seq ≡ first
first_number seq first numbers h = cc

other_numbers : (seq first : ℕ) (numbers : List ℕ) → seq ∷ numbers ≡ range_with_len first (suc (length numbers)) → numbers ≡ range_with_len (first + 1) (length numbers)
other_numbers seq first numbers h = cc

pub call_before : (actor first seq : ℕ) (lines : List Line) → RisesFrom actor first lines → seq < first → call_among actor seq lines ≡ None
call_before actor first seq [] rises before = refl
call_before actor first seq (line ∷ lines) rises before =
    elim (nat_eq line.actor actor) as (λ b. cons_option (cond b (Some line.seq) None) (numbers_in lines actor) ≡ range_with_len first (length (cons_option (cond b (Some line.seq) None) (numbers_in lines actor)))
    → option_map call_of (cond (b && nat_eq line.seq seq) (Some line) (find (is_call_of actor seq) lines)) ≡ None) [
      | true ↦ λ rises.
          let first_is = first_number line.seq first (numbers_in lines actor) rises in
          let other : nat_eq line.seq seq ≡ false = grind (arith, nat_tests, first_is) in
          ap (λ b. option_map call_of (cond b (Some line) (find (is_call_of actor seq) lines))) other
          ∙ call_before actor (first + 1) seq lines (other_numbers line.seq first (numbers_in lines actor) rises) (omega arith)
      | false ↦ λ rises. call_before actor first seq lines rises before
    ] rises

at_next : {A : Type 0} (x : A) (xs : List A) (first seq : ℕ) → first < seq → slice_get (x ∷ xs) (seq - first) ≡ slice_get xs (seq - (first + 1))
at_next x xs first seq lt = let next : seq - first ≡ suc (seq - (first + 1)) = omega arith in ap (slice_get (x ∷ xs)) next

-- the call with a number is the one at that place among the actor's
pub call_from : (actor first seq : ℕ) (lines : List Line) → RisesFrom actor first lines → first ≤ seq → call_among actor seq lines ≡ slice_get (calls_of (calls_in lines) actor) (seq - first)
call_from actor first seq [] rises within = refl
call_from actor first seq (line ∷ lines) rises within =
    elim (nat_eq line.actor actor) as (λ b. cons_option (cond b (Some line.seq) None) (numbers_in lines actor) ≡ range_with_len first (length (cons_option (cond b (Some line.seq) None) (numbers_in lines actor)))
    → option_map call_of (cond (b && nat_eq line.seq seq) (Some line) (find (is_call_of actor seq) lines)) ≡ slice_get (cons_option (cond b (Some line.call) None) (calls_of (calls_in lines) actor)) (seq - first)) [
      | true ↦ λ rises.
          let first_is = first_number line.seq first (numbers_in lines actor) rises in
          let below = other_numbers line.seq first (numbers_in lines actor) rises in
          elim (cases_lt first seq) [
            | inl lt ↦
                let other : nat_eq line.seq seq ≡ false = grind (arith, nat_tests, first_is) in
                ap (λ b. option_map call_of (cond b (Some line) (find (is_call_of actor seq) lines))) other
                ∙ call_from actor (first + 1) seq lines below (omega arith)
                ∙ sym (at_next line.call (calls_of (calls_in lines) actor) first seq lt)
            | inr ge ↦
                let here : nat_eq line.seq seq ≡ true = grind (arith, nat_tests, first_is) in
                let none : seq - first ≡ 0 = omega arith in
                ap (λ b. option_map call_of (cond b (Some line) (find (is_call_of actor seq) lines))) here
                ∙ sym (ap (slice_get (line.call ∷ calls_of (calls_in lines) actor)) none)
          ]
      | false ↦ λ rises. call_from actor first seq lines rises within
    ] rises

pub call_among-is : (actor seq : ℕ) (lines : List Line) → IsNumbered lines → call_among actor seq lines ≡ call_at (calls_in lines) actor seq
call_among-is actor zero lines numbered = call_before actor 1 zero lines (numbered actor) (omega arith)
call_among-is actor (suc before) lines numbered = let place : suc before - 1 ≡ before = omega arith in call_from actor 1 (suc before) lines (numbered actor) (omega arith) ∙ ap (slice_get (calls_of (calls_in lines) actor)) place

-- a call that stands behind a place is the only one with its number
call_behind_from : (actor first seq start : ℕ) (lines : List Line) (line : Line) → RisesFrom actor first lines → find (is_call_of actor seq) (drop start lines) ≡ Some line → find (is_call_of actor seq) lines ≡ Some line
call_behind_from actor first seq zero lines line rises found = found
call_behind_from actor first seq (suc start) [] line rises found = cc
call_behind_from actor first seq (suc start) (head ∷ lines) line rises found =
    elim (nat_eq head.actor actor) as (λ b. cons_option (cond b (Some head.seq) None) (numbers_in lines actor) ≡ range_with_len first (length (cons_option (cond b (Some head.seq) None) (numbers_in lines actor)))
    → cond (b && nat_eq head.seq seq) (Some head) (find (is_call_of actor seq) lines) ≡ Some line) [
      | true ↦ λ rises.
          let first_is = first_number head.seq first (numbers_in lines actor) rises in
          let below = other_numbers head.seq first (numbers_in lines actor) rises in
          let behind = call_behind_from actor (first + 1) seq start lines line below found in
          elim (nat_eq head.seq seq) as (λ b. nat_eq head.seq seq ≡ b → cond b (Some head) (find (is_call_of actor seq) lines) ≡ Some line) [
            | true ↦ λ e.
                let none : call_among actor seq lines ≡ None = call_before actor (first + 1) seq lines below (grind (arith, nat_tests, e, first_is)) in
                let wrong : Some line.call ≡ None = sym (ap (option_map call_of) behind) ∙ none in
                cc
            | false ↦ λ e. behind
          ] refl
      | false ↦ λ rises. call_behind_from actor first seq start lines line rises found
    ] rises

pub call_behind : (actor seq start : ℕ) (lines : List Line) (line : Line) → IsNumbered lines → find (is_call_of actor seq) (drop start lines) ≡ Some line → find (is_call_of actor seq) lines ≡ Some line
call_behind actor seq start lines line numbered found = call_behind_from actor 1 seq start lines line (numbered actor) found

-- the first such call from a place on is the one with its number
pub call_found : (actor seq start place : ℕ) (lines : List Line) → IsNumbered lines → place < length lines → slice_get lines place ≡ find (is_call_of actor seq) (drop start lines) →
    option_map call_of (slice_get lines place) ≡ call_at (calls_in lines) actor seq
call_found actor seq start place lines numbered within first =
    elim (slice_get_cases lines place).1 [
      | inl there ↦
          let among = call_behind actor seq start lines there.0 numbered (sym first ∙ there.2) in
          ap (option_map call_of) (there.2 ∙ sym among) ∙ call_among-is actor seq lines numbered
      | inr past ↦ absurd (omega (arith, within, past.0))
    ]

-- the line at a place is the first one from there on that passes a test, where it does
pub found_here : (test : Line → Bool) (lines : List Line) (place : ℕ) (line : Line) → place < length lines → line ≡ get_or lines place line → test line ≡ true → slice_get lines place ≡ find test (drop place lines)
found_here test lines place line within is passes =
    let rest : drop place lines ≡ line ∷ drop (suc place) lines = drop-cons lines place line within ∙ ap (λ first. first ∷ drop (suc place) lines) (sym is) in
    slice_get_read lines (length lines) place line refl within is
    ∙ sym (ap (λ b. cond b (Some line) (find test (drop (suc place) lines))) passes)
    ∙ ap (find test) (sym rest)
