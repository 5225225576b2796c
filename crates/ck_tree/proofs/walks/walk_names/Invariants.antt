use Rattle.std.proofs.Common.{◌≡◌, drop}
use Rattle.ck_model.specs.Cells.{Cells}
use Rattle.ck_model.specs.Walk.{walk_from}
use Rattle.ck_tree.specs.Map.{StandsFor}
use Rattle.ck_tree.proofs.walks.walk_names.Given as goal

abbrev pub invariant-loop-name : goal.invariant-loop-name
invariant-loop-name g l =
    (cells : Cells) → StandsFor (g.M.Meta.table l.meta) l.fs cells → walk_from l.names cells 0 ≡ walk_from (drop l.name-index l.names) cells l.node
