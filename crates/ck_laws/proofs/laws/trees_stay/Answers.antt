use Rattle.ck_laws.proofs.TreeLaws.{trees_begin_lem, calls_keep_trees_lem, trees_stay_lem}
use Rattle.ck_laws.proofs.laws.trees_stay.Goals as goal

pub returns : goal.returns
returns c = record { begin = trees_begin_lem; calls = calls_keep_trees_lem; histories = trees_stay_lem }
