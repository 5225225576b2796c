use Rattle.std.proofs.Common.{◌≡◌, ◌++◌, true, IfSome}
use Rattle.ck_chain.specs.Order.{keys_left}
use Rattle.ck_tree.specs.Deletions.{blocks_from, deletions, is_block_from}
use Rattle.ck_tree.proofs.RemovalLemmas.{left_to_delete}
use Rattle.ck_tree.proofs.deletions.delete_blocks.Given as goal

abbrev pub invariant-loop-here : goal.invariant-loop-here
invariant-loop-here g l =
    let t = g.M.Meta.table l.meta in
    record {
      block : IfSome l.here (λ key. is_block_from l.node l.first key ≡ true);
      so_far : l.changes.items ++ left_to_delete t l.node l.first l.here ≡ l.initial.changes.items ++ deletions (blocks_from t l.node l.first);
    }

abbrev pub decreases-loop-here : goal.decreases-loop-here
decreases-loop-here g l = keys_left (g.M.Meta.table l.meta) l.here
