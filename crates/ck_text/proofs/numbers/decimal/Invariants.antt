use Rattle.std.proofs.Common.{◌≡◌, drop, Some}
use Rattle.std.specs.List.{fold}
use Rattle.ck_text.specs.Decimal.{next_value}
use Rattle.ck_text.proofs.numbers.decimal.Given as goal

abbrev pub invariant-loop-digit : goal.invariant-loop-digit
invariant-loop-digit l = fold next_value (Some l.value) (drop l.digit-index l.word) ≡ fold next_value (Some 0) l.word
