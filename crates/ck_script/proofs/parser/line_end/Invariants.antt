use Rattle.std.proofs.Common.{◌≡◌, ◌+◌, ◌==◌, drop}
use Rattle.std.specs.List.{position_or_len}
use Rattle.ck_script.proofs.parser.line_end.Given as goal

abbrev pub invariant-loop-at : goal.invariant-loop-at
invariant-loop-at l = l.start + position_or_len (λ byte. byte == 10) (drop l.start l.text) ≡ l.at + position_or_len (λ byte. byte == 10) (drop l.at l.text)
