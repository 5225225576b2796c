use Rattle.std.proofs.Common.{◌≡◌, ◌++◌, drop}
use Rattle.std.specs.List.{AllByRecursion, flat_map}
use Rattle.ck_report.specs.Words.{line_words}
use Rattle.ck_report.specs.Printed.{IsProperLine}
use Rattle.ck_report.proofs.replies.put_lines.Given as goal

abbrev pub invariant-loop-line : goal.invariant-loop-line
invariant-loop-line l = record {
  text : l.out.items ++ flat_map line_words (drop l.line-index l.lines) ≡ l.initial.out.items ++ flat_map line_words l.lines;
  each : AllByRecursion IsProperLine (drop l.line-index l.lines) → AllByRecursion IsProperLine l.lines;
}
