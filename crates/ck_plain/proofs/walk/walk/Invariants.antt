use Rattle.std.proofs.Common.{◌≡◌, drop}
use Rattle.ck_model.specs.Walk.{walk_from}
use Rattle.ck_plain.proofs.walk.walk.Given as goal

abbrev pub invariant-loop-name : goal.invariant-loop-name
invariant-loop-name l = walk_from l.names l.cells 0 ≡ walk_from (drop l.name-index l.names) l.cells l.node
