use Rattle.std.proofs.Common.{suc, ◌<◌, length, Some, drop, drop-cons, sym, ap, ◌∙◌, arith}
use Rattle.std.specs.List.{fold}
use Rattle.ck_text.specs.Decimal.{next_value}
use Rattle.ck_text.proofs.DecimalLemmas.{fold_none, either_none}
use Rattle.ck_text.proofs.numbers.decimal.Goals as goal

pub returns-in-None : goal.returns-in-None
returns-in-None c =
    let word = c.args.word.now in
    let at = c.loop-digit.digit-index in
    let within : at < length word = omega arith in
    sym (either_none _ _ (
    sym c.loop-digit.invariant
    ∙ ap (fold next_value (Some c.loop-digit.value)) (drop-cons word at 0 within)
    ∙ ap (λ value. fold next_value value (drop (suc at) word)) (sym c.in-None.ensures)
    ∙ fold_none (drop (suc at) word)))
