use Rattle.std.proofs.Common.{◌≡◌, ◌++◌, ◌&&◌, true, nat_eq, nat_le, IfSome, ap, subst, ◌∙◌, arith}
use Rattle.std.proofs.lemmas.Bool.Decides.{nat_tests}
use Rattle.ck_chain.proofs.KeysLeftLaws.{left_smaller}
use Rattle.ck_tree.specs.Deletions.{is_block_from, blocks_from, deletions}
use Rattle.ck_tree.proofs.RemovalLemmas.{left_to_delete, deletions_first_left, deletions_next, deletions_last}
use Rattle.ck_tree.proofs.deletions.delete_blocks.Goals as goal

pub loop-here-init : goal.loop-here-init
loop-here-init g c =
    let t = g.M.Meta.table c.args.meta.now in
    let self : nat_eq c.args.node c.args.node ≡ true = grind (arith, nat_tests) in
    let least : nat_le c.args.first c.args.first ≡ true = grind (arith, nat_tests) in
    record {
      block = (λ i. self i && least i);
      so_far = ap (λ xs. c.args.changes.now.items ++ xs) (deletions_first_left t c.args.node c.args.first);
    }

pub loop-here-smaller : goal.loop-here-smaller
loop-here-smaller g c =
    left_smaller (g.M.Meta.table c.args.meta.now) c.loop-here.here c.in-Some.block c.next_block-here.result c.in-Some.is c.next_block-here.ensures.next.behind c.next_block-here.ensures.next.held

pub loop-here-preserved : goal.loop-here-preserved
loop-here-preserved g c =
    let t = g.M.Meta.table c.args.meta.now in
    let node = c.args.node in
    let first = c.args.first in
    let old = c.args.changes.now.items in
    let block = subst (λ o. IfSome o (λ key. is_block_from node first key ≡ true)) c.in-Some.is c.loop-here.invariant.block in
    record {
      block = c.next_block-here.ensures.block;
      so_far = ap (λ xs. xs ++ left_to_delete t node first c.next_block-here.result) c.in_ok-delete.ensures
          ∙ deletions_next t node first c.in-Some.block c.next_block-here.result block c.next_block-here.ensures.next old c.loop-here.changes.items
          (subst (λ o. c.loop-here.changes.items ++ left_to_delete t node first o ≡ old ++ deletions (blocks_from t node first)) c.in-Some.is c.loop-here.invariant.so_far);
    }

pub returns : goal.returns
returns g c =
    let t = g.M.Meta.table c.args.meta.now in
    let old = c.args.changes.now.items in
    deletions_last t c.args.node c.args.first old c.loop-here.changes.items
    (subst (λ o. c.loop-here.changes.items ++ left_to_delete t c.args.node c.args.first o ≡ old ++ deletions (blocks_from t c.args.node c.args.first)) c.in_default.is c.loop-here.invariant.so_far)
