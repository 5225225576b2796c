use Rattle.std.proofs.Common.{◌≡◌, ◌++◌, drop}
use Rattle.std.specs.List.{AllByRecursion, flat_map}
use Rattle.ck_model.specs.Name.{IsName}
use Rattle.ck_report.specs.Words.{child_words}
use Rattle.ck_report.proofs.replies.put_children.Given as goal

abbrev pub invariant-loop-child : goal.invariant-loop-child
invariant-loop-child l = record {
  text : l.out.items ++ flat_map child_words (drop l.child-index l.children) ≡ l.initial.out.items ++ flat_map child_words l.children;
  each : AllByRecursion (λ child. IsName child.name) (drop l.child-index l.children) → AllByRecursion (λ child. IsName child.name) l.children;
}
