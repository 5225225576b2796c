use Rattle.std.proofs.Common.{◌≡◌, ◌+◌, ◌-◌, ◌≤◌, length, drop}
use Rattle.std.specs.Str.Lines.{lines as lines_of}
use Rattle.ck_script.specs.Parsed.{nothing_read, read_lines}
use Rattle.ck_script.proofs.parser.read_text.Given as goal

abbrev pub invariant-loop-at : goal.invariant-loop-at
invariant-loop-at l = record {
  read : read_lines l.long l.number l.tally (lines_of (drop l.at l.text)) ≡ read_lines l.long 1 nothing_read (lines_of l.text);
  few : l.number ≤ l.at + 1;
}

abbrev pub decreases-loop-at : goal.decreases-loop-at
decreases-loop-at l = length l.initial.text - l.at
