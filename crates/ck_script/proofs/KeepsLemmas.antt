-- What every script that is read keeps to: its numbers, its limits, what is built, the names of checkpoints, places, and turns.
use Rattle.std.proofs.Common.{◌≡◌, ℕ, zero, suc, ◌+◌, ◌≤◌, Bool, true, false, cond, IsTrue, ◌&&◌, List, [], ◌∷◌, ◌++◌, length, Option, Some, None, Result, Ok, Err, All, nat_eq, nat_le, refl, sym, ap, subst, ◌∙◌, arith, length-append}
use Rattle.std.specs.List.{AllByRecursion, range_with_len, cons_option, sum_by}
use Rattle.std.specs.Option.{option_map_or, option_and_then}
use Rattle.std.specs.Str.Lines.{lines}
use Rattle.std.proofs.lemmas.Option.{option_and_then_some}
use Rattle.std.proofs.lemmas.List.{append-nil}
use Rattle.std.proofs.lemmas.List.Elements.{filter_map-append, All-nil, All-append, All-push}
use Rattle.std.proofs.lemmas.Bool.Decides.{nat_tests}
use Rattle.ck_model.specs.declared.call.Call.{Call}
use Rattle.ck_script.specs.declared.form.Form.{Form}
use Rattle.ck_script.specs.declared.form.Form.TheVariants.{Called, Turned}
use Rattle.ck_script.specs.declared.line.Line.{Line}
use Rattle.ck_text.specs.Words.{words_of}
use Rattle.ck_script.specs.Grammar.{form_of}
use Rattle.ck_script.specs.Built.{is_built}
use Rattle.ck_script.specs.Limits.{are_within_limits, asked_by, streams_by, call_limit, length_limit, stream_limit, IsWithinLimits, AreTurns}
use Rattle.ck_script.specs.Names.{HasValidName, HaveValidNames}
use Rattle.ck_script.specs.Places.{HasPlaces, HavePlaces}
use Rattle.ck_script.specs.Numbered.{IsNumbered, numbers_in}
use Rattle.ck_script.specs.Parsed.{Parsed, nothing_read, is_skipped, form_in, line_of, with_call, with_form, with_line, long_line, read_lines, read_script}
use Rattle.ck_script.specs.Steps.{HasActor}
use Rattle.ck_script.proofs.FormLemmas.{form_actor, built_found}
use Rattle.ck_script.proofs.CallLemmas.{IsKept, IsKeptForm, form_found-kept}

-- what each line keeps holds of all that is read
module _ (P : Parsed → Type 0) (keeps : (number : ℕ) (read more : Parsed) (line : List ℕ) → P read → with_line number read line ≡ Some more → P more) where
  long_or_none : (long : Option ℕ) (read result : Parsed) → P read → option_map_or (λ line. Err line) long (Ok read) ≡ Ok result → P result
  long_or_none None read result p e = let same : read ≡ result = cc in subst P same p
  long_or_none (Some line) read result p e = cc

  one_line : (b : Bool) (number : ℕ) (after : Option Parsed) (rest : Parsed → Result Parsed ℕ) (result : Parsed) → ((more : Parsed) → after ≡ Some more → rest more ≡ Ok result → P result) →
      cond b (Err number) (option_map_or rest after (Err number)) ≡ Ok result → P result
  one_line true number after rest result again e = cc
  one_line false number None rest result again e = cc
  one_line false number (Some more) rest result again e = again more refl e

  pub read_keeps : (long : Option ℕ) (number : ℕ) (read result : Parsed) (lines : List (List ℕ)) → P read → read_lines long number read lines ≡ Ok result → P result
  read_keeps long number read result [] p e = long_or_none long read result p e
  read_keeps long number read result (line ∷ lines) p e =
      one_line (option_map_or (nat_eq number) long false) number (with_line number read line) (λ more. read_lines long (number + 1) more lines) result
      (λ more after rest. read_keeps long (number + 1) more result lines (keeps number read more line p after) rest) e

range_with_len-suc : (from n : ℕ) → range_with_len from (suc n) ≡ range_with_len from n ++ (from + n) ∷ []
range_with_len-suc from zero = ap (λ k. k ∷ []) (omega arith)
range_with_len-suc from (suc n) = ap (λ rest. from ∷ rest) (range_with_len-suc (from + 1) n ∙ ap (λ k. range_with_len (from + 1) n ++ k ∷ []) (omega arith))

-- an actor's numbers with those of one line more
pub numbers_more : (lines : List Line) (line : Line) (actor : ℕ) → numbers_in (lines ++ line ∷ []) actor ≡ numbers_in lines actor ++ cond (nat_eq line.actor actor) (line.seq ∷ []) []
numbers_more lines line actor =
    filter_map-append (λ (line : Line). cond (nat_eq line.actor actor) (Some line.seq) None) lines (line ∷ [])
    ∙ ap (λ rest. numbers_in lines actor ++ rest) (step (nat_eq line.actor actor))
  where
    step : (b : Bool) → cons_option (cond b (Some line.seq) None) [] ≡ cond b (line.seq ∷ []) []
    step true = refl
    step false = refl

numbered_more : (lines : List Line) (number actor : ℕ) (call : Call) → IsNumbered lines → IsNumbered (lines ++ line_of lines number actor call ∷ [])
numbered_more lines number actor call numbered of =
    let line = line_of lines number actor call in
    let numbers = numbers_in lines of in
    elim (nat_eq actor of) as (λ b. nat_eq actor of ≡ b → numbers_in (lines ++ line ∷ []) of ≡ range_with_len 1 (length (numbers_in (lines ++ line ∷ []) of))) [
      | true ↦ λ e.
          let same : actor ≡ of = grind (arith, nat_tests, e) in
          let more : numbers_in (lines ++ line ∷ []) of ≡ numbers ++ line.seq ∷ [] = numbers_more lines line of ∙ ap (λ b. numbers ++ cond b (line.seq ∷ []) []) e in
          let next : line.seq ≡ 1 + length numbers = ap (λ a. length (numbers_in lines a) + 1) same ∙ plus (length numbers) in
          let len : length (numbers_in (lines ++ line ∷ []) of) ≡ suc (length numbers) = ap length more ∙ one_longer numbers line.seq in
          more ∙ (λ i. numbered of i ++ next i ∷ []) ∙ sym (range_with_len-suc 1 (length numbers)) ∙ ap (range_with_len 1) (sym len)
      | false ↦ λ e.
          let more : numbers_in (lines ++ line ∷ []) of ≡ numbers = numbers_more lines line of ∙ ap (λ b. numbers ++ cond b (line.seq ∷ []) []) e ∙ append-nil numbers in
          more ∙ numbered of ∙ ap (λ xs. range_with_len 1 (length xs)) (sym more)
    ] refl
  where
    plus : (n : ℕ) → n + 1 ≡ 1 + n
    plus n = omega arith

    one_longer : (xs : List ℕ) (x : ℕ) → length (xs ++ x ∷ []) ≡ suc (length xs)
    one_longer xs x = simp length-append (omega arith)

-- a script that is read
pub record IsRead (read : Parsed) : Type 0 where
  pub numbered : IsNumbered read.calls
  pub limits : IsTrue (are_within_limits read.calls)
  pub actors : All (λ line. (1 ≤ line.actor) × (line.actor ≤ 64)) read.calls
  pub built : AllByRecursion (λ line. IsTrue (is_built (Called line.actor line.call))) read.calls
  pub names : HaveValidNames read.calls
  pub places : HavePlaces read.calls
  pub turns : AreTurns read.turns

all_more : (P : Line → Type 0) (lines : List Line) (line : Line) → AllByRecursion P lines → P line → AllByRecursion P (lines ++ line ∷ [])
all_more P [] line all p = (p, tt)
all_more P (first ∷ lines) line all p = (all.0, all_more P lines line all.1 p)

call_keeps : (number : ℕ) (read more : Parsed) (actor : ℕ) (call : Call) → IsRead read → (1 ≤ actor) × (actor ≤ 64) → is_built (Called actor call) ≡ true → IsKept call →
    with_call read (line_of read.calls number actor call) ≡ Some more → IsRead more
call_keeps number read more actor call is within built kept e =
    let line = line_of read.calls number actor call in
    let all = read.calls ++ line ∷ [] in
    elim (are_within_limits all) as (λ b. are_within_limits all ≡ b → cond b (Some (record { calls = all; turns = read.turns })) None ≡ Some more → IsRead more) [
      | true ↦ λ limits e.
          let next : Parsed = record { calls = all; turns = read.turns } in
          let same : next ≡ more = cc in
          subst IsRead same (record {
            numbered = numbered_more read.calls number actor call is.numbered;
            limits = limits;
            actors = All-push (λ (line : Line). (1 ≤ line.actor) × (line.actor ≤ 64)) read.calls line is.actors within;
            built = all_more (λ line. IsTrue (is_built (Called line.actor line.call))) read.calls line is.built built;
            names = all_more (λ line. HasValidName line.call) read.calls line is.names kept.0;
            places = all_more (λ line. HasPlaces line.call) read.calls line is.places kept.1;
            turns = is.turns;
          })
      | false ↦ λ limits e. cc
    ] refl e

form_keeps : (number : ℕ) (read more : Parsed) (form : Form) → IsRead read → HasActor form → is_built form ≡ true → IsKeptForm form → with_form number read form ≡ Some more → IsRead more
form_keeps number read more (Called actor call) is has built kept e = call_keeps number read more actor call is has built kept e
form_keeps number read more (Turned turns) is has built kept e =
    let next : Parsed = record { calls = read.calls; turns = read.turns ++ turns } in
    let same : next ≡ more = cc in
    subst IsRead same (record { numbered = is.numbered; limits = is.limits; actors = is.actors; built = is.built; names = is.names; places = is.places; turns = All-append (λ turn. turn ≤ 64) read.turns turns is.turns kept })

line_keeps : (number : ℕ) (read more : Parsed) (line : List ℕ) → IsRead read → with_line number read line ≡ Some more → IsRead more
line_keeps number read more line is e =
    elim (is_skipped line) as (λ b. cond b (Some read) (option_and_then (with_form number read) (form_in line)) ≡ Some more → IsRead more) [
      | true ↦ λ e. let same : read ≡ more = cc in subst IsRead same is
      | false ↦ λ e. option_and_then_some (with_form number read) (form_in line) more e (λ form found rest.
          let built = built_found (form_of (words_of line)) form found in
          form_keeps number read more form is (form_actor (words_of line) form built.0) built.1 (form_found-kept (words_of line) form built.0) rest)
    ] e

nothing_is_read : IsRead nothing_read
nothing_is_read = record { numbered = λ actor. refl; limits = refl; actors = λ k d h. absurd (omega (arith, h)); built = tt; names = tt; places = tt; turns = All-nil (λ turn. turn ≤ 64) }

pub script_is_read : (bytes : List ℕ) (read : Parsed) → read_script bytes ≡ Ok read → IsRead read
script_is_read bytes read e = read_keeps IsRead line_keeps (long_line bytes) 1 nothing_read read _ nothing_is_read e

pub limits_are : (lines : List Line) → IsTrue (are_within_limits lines) → (length lines ≤ call_limit) × (sum_by (λ line. asked_by line.call) lines ≤ length_limit) × (sum_by (λ line. streams_by line.call) lines ≤ stream_limit)
limits_are lines h = step (length lines) (sum_by (λ line. asked_by line.call) lines) (sum_by (λ line. streams_by line.call) lines) h
  where
    step : (a b c : ℕ) → (nat_le a call_limit && nat_le b length_limit && nat_le c stream_limit) ≡ true → (a ≤ call_limit) × (b ≤ length_limit) × (c ≤ stream_limit)
    step a b c h = (grind (arith, nat_tests), grind (arith, nat_tests), grind (arith, nat_tests))

pub read_within : (read : Parsed) → IsRead read → IsWithinLimits read.calls
read_within read is = let limits = limits_are read.calls is.limits in record { calls = limits.0; lengths = limits.1; streams = limits.2; actors = is.actors }
