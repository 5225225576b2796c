use Rattle.std.proofs.Common.{drop}
use Rattle.ck_report.proofs.ListLemmas.{IsBegun}
use Rattle.ck_report.proofs.list.listing.Given as goal

abbrev pub invariant-loop-line : goal.invariant-loop-line
invariant-loop-line l = IsBegun l.lines l.text.items (drop l.line-index l.lines)
