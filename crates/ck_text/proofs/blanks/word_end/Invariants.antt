use Rattle.std.proofs.Common.{◌≡◌, ◌+◌, drop}
use Rattle.std.specs.List.{position_or_len}
use Rattle.ck_text.specs.Words.{is_blank}
use Rattle.ck_text.proofs.blanks.word_end.Given as goal

abbrev pub invariant-loop-at : goal.invariant-loop-at
invariant-loop-at l = l.start + position_or_len is_blank (drop l.start l.line) ≡ l.at + position_or_len is_blank (drop l.at l.line)
