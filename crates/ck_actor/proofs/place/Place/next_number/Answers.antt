use Rattle.std.proofs.Common.{◌≡◌, ◌<◌, ◌+◌, ℕ, List, true, nat_lt, length, take, Some, None, if◌then◌else◌, sym, ap, ◌∙◌, arith}
use Rattle.std.proofs.lemmas.Bool.Decides.{nat_tests}
use Rattle.ck_script.specs.declared.line.Line.{Line}
use Rattle.ck_script.specs.Numbered.{numbers_in}
use Rattle.ck_actor.specs.Place.{answered_count, call_count}
use Rattle.ck_actor.proofs.PlaceLemmas.{own_at, own_number, left_at}
use Rattle.ck_actor.proofs.place.Place.next_number.Goals as goal

pub returns-then-at-lines : goal.returns-then-at-lines
returns-then-at-lines c =
    let lines = c.args.lines.now in
    let place = c.args.self.now in
    let at = c.next_line-at.result in
    let line = c.index-lines-at.result in
    let within : at < length lines = omega arith in
    let own = own_at lines at line place.actor within c.index-lines-at.is c.next_line-at.ensures.own in
    let count : ℕ = answered_count lines place in
    let same : length (numbers_in (take at lines) place.actor) ≡ count = ap (λ (numbers : List ℕ). length numbers) c.next_line-at.ensures.between in
    let less = left_at lines at line place.actor within c.index-lines-at.is own in
    let number = own_number lines at line place.actor c.requires within c.index-lines-at.is own in
    let is : line.seq ≡ count + 1 = omega (arith, number, same) in
    let left : nat_lt count (call_count lines place.actor) ≡ true = grind (arith, nat_tests, less, same) in
    ap (λ (line : Line). Some line.seq) (sym c.index-lines-at.is) ∙ ap (λ n. Some n) is ∙ sym (ap (λ b. if b then Some (count + 1) else None) left)
