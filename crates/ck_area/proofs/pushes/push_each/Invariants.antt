use Rattle.std.proofs.Common.{◌≡◌, vec_capacity}
use Rattle.ck_area.specs.Pushed.{ArePushed}
use Rattle.ck_area.proofs.pushes.push_each.Given as goal

abbrev pub invariant-loop-number : goal.invariant-loop-number
invariant-loop-number g l = record {
  pushed : ArePushed (λ k value. g.F.Fn.post l.make (k, tt) value) l.initial.into.items l.number l.into.items;
  capacity : vec_capacity l.into ≡ vec_capacity l.initial.into;
}
