use Rattle.std.proofs.Common.{◌≡◌, ◌++◌, drop}
use Rattle.ck_model.specs.Path.{joined}
use Rattle.ck_report.proofs.put.put_names.Given as goal

abbrev pub invariant-loop-name : goal.invariant-loop-name
invariant-loop-name l = l.out.items ++ joined (drop l.name-index l.names) ≡ l.initial.out.items ++ joined l.names
