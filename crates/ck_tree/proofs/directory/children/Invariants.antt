use Rattle.std.proofs.Common.{◌≡◌, ◌++◌, true, IfSome}
use Rattle.std.specs.List.{filter_map}
use Rattle.std.specs.FinMap as map
use Rattle.ck_model.specs.Cells.{Cells}
use Rattle.ck_model.specs.Key.{is_name_in}
use Rattle.ck_model.specs.Contents.{child_in, children}
use Rattle.ck_chain.specs.Order.{keys_left}
use Rattle.ck_tree.specs.Map.{StandsFor}
use Rattle.ck_tree.proofs.DirectoryLemmas.{left}
use Rattle.ck_tree.proofs.directory.children.Given as goal

abbrev pub invariant-loop-here : goal.invariant-loop-here
invariant-loop-here g l =
    let t = g.M.Meta.table l.meta in
    record {
      name : IfSome l.here (λ key. is_name_in l.node key ≡ true);
      found : (cells : Cells) → StandsFor t l.fs cells
          → l.found.items ++ filter_map (left (child_in cells l.node) l.here) (map.entries cells) ≡ children cells l.node;
    }

abbrev pub decreases-loop-here : goal.decreases-loop-here
decreases-loop-here g l = keys_left (g.M.Meta.table l.meta) l.here
