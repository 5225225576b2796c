use Rattle.std.proofs.Common.{◌≡◌, ◌++◌}
use Rattle.ck_merge.specs.Merged.{records}
use Rattle.ck_merge.proofs.merged.put_all.Given as goal

abbrev pub invariant-loop-key : goal.invariant-loop-key
invariant-loop-key l = l.out.items ++ records l.key-iterator ≡ l.initial.out.items ++ records l.initial.key-iterator
