-- A script read line by line, and the bytes behind its limit.
use Rattle.std.proofs.Common.{◌≡◌, ℕ, ◌+◌, ◌<◌, ◌≤◌, Bool, true, false, cond, List, ◌∷◌, length, take, drop, count_by, nat_lt, nat_eq, Option, Some, None, Result, Ok, Err, refl, sym, ap, subst, ◌∙◌, arith, length-take-le}
use Rattle.std.specs.List.{position_or_len}
use Rattle.std.specs.Option.{option_map_or}
use Rattle.std.specs.Str.Lines.{lines}
use Rattle.std.proofs.lemmas.Bool.Decides.{nat_tests}
use Rattle.std.proofs.lemmas.List.{take-take, take_all, drop_all}
use Rattle.ck_model.specs.Limits.{script_limit}
use Rattle.ck_script.specs.declared.fault.ParseFault.{ParseFault}
use Rattle.ck_script.specs.declared.fault.ParseFault.TheVariants.{BadLine, NoMemory}
use Rattle.ck_script.specs.Parsed.{Parsed, nothing_read, read_lines, read_script, long_line, with_line}
use Rattle.ck_script.specs.Steps.{IsFaultOf, IsRefusal, line_at}
use Rattle.ck_script.proofs.LinesLemmas.{is_feed, next_line}

-- one line, with the reading of those behind it
abbrev step : Bool → Option Parsed → ℕ → (Parsed → Result Parsed ℕ) → Result Parsed ℕ
step long after number rest = cond long (Err number) (option_map_or rest after (Err number))

step_on : (long : Bool) (after : Option Parsed) (number : ℕ) (more : Parsed) (rest : Parsed → Result Parsed ℕ) → long ≡ false → after ≡ Some more → step long after number rest ≡ rest more
step_on long after number more rest short is = λ i. step (short i) (is i) number rest

step_refused : (long : Bool) (after : Option Parsed) (number : ℕ) (rest : Parsed → Result Parsed ℕ) → after ≡ None → step long after number rest ≡ Err number
step_refused true after number rest is = refl
step_refused false after number rest is = ap (λ after. option_map_or rest after (Err number)) is

-- the reading goes on behind a line that isn't refused
pub read_lines-step : (long : Option ℕ) (number : ℕ) (read more : Parsed) (line : List ℕ) (rest : List (List ℕ)) → option_map_or (nat_eq number) long false ≡ false → with_line number read line ≡ Some more →
    read_lines long number read (line ∷ rest) ≡ read_lines long (number + 1) more rest
read_lines-step long number read more line rest short after =
    step_on (option_map_or (nat_eq number) long false) (with_line number read line) number more (λ more. read_lines long (number + 1) more rest) short after

-- a line behind which there is nothing read is refused
pub line_refused : (long : Option ℕ) (number : ℕ) (read : Parsed) (line : List ℕ) (rest : List (List ℕ)) (fault : ParseFault) → IsRefusal number (with_line number read line) fault →
    IsFaultOf (read_lines long number read (line ∷ rest)) fault
line_refused long number read line rest NoMemory refused = tt
line_refused long number read line rest (BadLine n) refused =
    step_refused (option_map_or (nat_eq number) long false) (with_line number read line) number (λ more. read_lines long (number + 1) more rest) refused.1
    ∙ ap Err (sym refused.0)

-- the line that has the byte behind the limit is refused
pub long_refused : (long : Option ℕ) (number : ℕ) (read : Parsed) (line : List ℕ) (rest : List (List ℕ)) → option_map_or (nat_eq number) long false ≡ true → read_lines long number read (line ∷ rest) ≡ Err number
long_refused long number read line rest is_long =
    ap (λ b. step b (with_line number read line) number (λ more. read_lines long (number + 1) more rest)) is_long

pub next_read : (text : List ℕ) (long : Option ℕ) (at end number : ℕ) (read more : Parsed) (outcome : Result Parsed ℕ) →
    at < length text → end ≡ at + position_or_len is_feed (drop at text) → option_map_or (nat_eq number) long false ≡ false → with_line number read (line_at text at end) ≡ Some more →
    read_lines long number read (lines (drop at text)) ≡ outcome → read_lines long (number + 1) more (lines (drop (end + 1) text)) ≡ outcome
next_read text long at end number read more outcome within is short after so_far =
    sym (read_lines-step long number read more (line_at text at end) (lines (drop (end + 1) text)) short after) ∙ ap (read_lines long number read) (sym (next_line text at end within is)) ∙ so_far

pub next_refused : (text : List ℕ) (long : Option ℕ) (at end number : ℕ) (read : Parsed) (fault : ParseFault) (outcome : Result Parsed ℕ) →
    at < length text → end ≡ at + position_or_len is_feed (drop at text) → IsRefusal number (with_line number read (line_at text at end)) fault →
    read_lines long number read (lines (drop at text)) ≡ outcome → IsFaultOf outcome fault
next_refused text long at end number read fault outcome within is refused so_far =
    let same = ap (read_lines long number read) (sym (next_line text at end within is)) ∙ so_far in
    subst (λ outcome. IsFaultOf outcome fault) same (line_refused long number read (line_at text at end) (lines (drop (end + 1) text)) fault refused)

pub next_long : (text : List ℕ) (long : Option ℕ) (at number : ℕ) (read : Parsed) (outcome : Result Parsed ℕ) →
    at < length text → option_map_or (nat_eq number) long false ≡ true → read_lines long number read (lines (drop at text)) ≡ outcome → outcome ≡ Err number
next_long text long at number read outcome within is_long so_far =
    let end = at + position_or_len is_feed (drop at text) in
    sym so_far ∙ ap (read_lines long number read) (next_line text at end within refl) ∙ long_refused long number read (line_at text at end) (lines (drop (end + 1) text)) is_long

pub at_the_end : (text : List ℕ) (long : Option ℕ) (at number : ℕ) (read : Parsed) (outcome : Result Parsed ℕ) →
    length text ≤ at → read_lines long number read (lines (drop at text)) ≡ outcome → outcome ≡ option_map_or (λ line. Err line) long (Ok read)
at_the_end text long at number read outcome ended so_far =
    sym so_far ∙ ap (λ rest. read_lines long number read (lines rest)) (drop_all at text ended)

-- the number of the line that has the byte behind this limit
abbrev long_at : ℕ → List ℕ → Option ℕ
long_at limit text = cond (nat_lt limit (length text)) (Some (count_by (λ byte. nat_eq byte 10) (take limit text) + 1)) None

long_at-take : (limit : ℕ) (text : List ℕ) → long_at limit (take (limit + 1) text) ≡ long_at limit text
long_at-take limit text =
    elim (nat_lt limit (length text)) as (λ b. nat_lt limit (length text) ≡ b → long_at limit (take (limit + 1) text) ≡ long_at limit text) [
      | true ↦ λ e.
          let lt : limit + 1 ≤ length text = grind (arith, nat_tests, e) in
          let len : length (take (limit + 1) text) ≡ limit + 1 = length-take-le (limit + 1) text lt in
          let test : nat_lt limit (length (take (limit + 1) text)) ≡ nat_lt limit (length text) = grind (arith, nat_tests, len, lt) in
          λ i. cond (test i) (Some (count_by (λ byte. nat_eq byte 10) (take-take limit (limit + 1) text (omega arith) i) + 1)) None
      | false ↦ λ e.
          let ge : length text ≤ limit = grind (arith, nat_tests, e) in
          ap (long_at limit) (take_all (limit + 1) text (omega (arith, ge)))
    ] refl

pub read_at-take : (limit : ℕ) (text : List ℕ) → read_lines (long_at limit (take (limit + 1) text)) 1 nothing_read (lines (take limit (take (limit + 1) text))) ≡ read_lines (long_at limit text) 1 nothing_read (lines (take limit text))
read_at-take limit text = λ i. read_lines (long_at-take limit text i) 1 nothing_read (lines (take-take limit (limit + 1) text (omega arith) i))

-- a script, by its bytes up to the limit and the number of a line that is too long
pub read_script-is : (bytes text : List ℕ) (long : Option ℕ) → long ≡ long_line bytes → text ≡ take script_limit bytes → read_script bytes ≡ read_lines long 1 nothing_read (lines text)
read_script-is bytes text long long_is text_is = λ i. read_lines (sym long_is i) 1 nothing_read (lines (sym text_is i))
