use Rattle.std.proofs.Common.{◌≡◌, true, IfSome}
use Rattle.ck_model.specs.Cells.{Cells}
use Rattle.ck_model.specs.Key.{is_name_in}
use Rattle.ck_model.specs.Table.{IsTable}
use Rattle.ck_chain.specs.Order.{keys_left}
use Rattle.ck_tree.specs.Map.{StandsFor}
use Rattle.ck_tree.proofs.ChildrenLemmas.{NoneBefore}
use Rattle.ck_tree.proofs.directory.has_names.Given as goal

abbrev pub invariant-loop-here : goal.invariant-loop-here
invariant-loop-here g l =
    let t = g.M.Meta.table l.meta in
    record {
      name : IfSome l.here (λ key. is_name_in l.node key ≡ true);
      none : (cells : Cells) → (lawful : IsTable t) → (stands : StandsFor t l.fs cells) → NoneBefore t l.fs cells lawful stands l.node l.here;
    }

abbrev pub decreases-loop-here : goal.decreases-loop-here
decreases-loop-here g l = keys_left (g.M.Meta.table l.meta) l.here
