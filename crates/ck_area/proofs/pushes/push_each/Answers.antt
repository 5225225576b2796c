use Rattle.std.proofs.Common.{◌+◌, ℕ, arith, rules, sym, subst, ◌∙◌}
use Rattle.ck_area.specs.Pushed.{ArePushed}
use Rattle.ck_area.proofs.BlockLemmas.{pushed_none, pushed_more}
use Rattle.ck_area.proofs.pushes.push_each.Goals as goal

pub push_reserved-requires : goal.push_reserved-requires
push_reserved-requires g c = omega (arith, c.loop-number.invariant.pushed.len)

pub loop-number-init : goal.loop-number-init
loop-number-init g c = record { pushed = pushed_none _ _; capacity = search rules }

pub loop-number-preserved : goal.loop-number-preserved
loop-number-preserved g c = record {
  pushed = subst (ArePushed (λ (k : ℕ) (value : g.row.T.Denot). g.F.Fn.post c.args.make.now (k, tt) value) c.args.into.now.items (c.loop-number.number + 1)) (sym c.push_reserved.ensures.items)
      (pushed_more _ _ _ _ _ c.loop-number.invariant.pushed c.make.ensures);
  capacity = c.push_reserved.ensures.capacity ∙ c.loop-number.invariant.capacity;
}
