use Rattle.std.proofs.Common.{◌≡◌, ℕ, ◌-◌, ◌/◌, List, length, ap, ◌∙◌, arith}
use Rattle.std.specs.FinMap as map
use Rattle.ck_model.specs.declared.key.Key.{Key}
use Rattle.ck_model.specs.declared.key.Key.TheVariants.{Block}
use Rattle.ck_model.specs.declared.cell.Cell.{Cell}
use Rattle.ck_model.specs.declared.cell.Payload.TheVariants.{Bytes}
use Rattle.ck_model.specs.Cells.{Cells, with_cells}
use Rattle.ck_model.specs.Changes.{cell_of, block_after}
use Rattle.ck_plain.specs.Blocks.{blocks_after}
use Rattle.ck_plain.proofs.Put.{put_none, put_down, touched_some}
use Rattle.ck_plain.proofs.writes.put_blocks.Goals as goal

-- a block that the bytes touch, and its new cell
abbrev new_block : Cells → ℕ → ℕ → ℕ → List ℕ → ℕ → Key × Cell
new_block cells stamp node at bytes index = (Block node index, cell_of stamp (Bytes (block_after cells node at bytes index)))

pub loop-index-init : goal.loop-index-init
loop-index-init c = record {
  above = omega (arith, c.div_ceil-end.ensures);
  put = put_none (new_block c.args.old.now c.args.stamp c.args.node c.args.at c.args.bytes.now) c.args.next.now c.div_ceil-end.result;
}

pub loop-index-preserved : goal.loop-index-preserved
loop-index-preserved c =
    let block = new_block c.args.old.now c.args.stamp c.args.node c.args.at c.args.bytes.now in
    let cell = c.cell_of.ensures ∙ ap (λ b. cell_of c.args.stamp (Bytes b)) (c.of.ensures ∙ c.in_ok-block.ensures) in
    record {
      above = omega arith;
      put = put_down block _ _ _ c.loop-index.index c.div_ceil-end.result (omega arith) (omega arith) c.loop-index.invariant.put
          (c.in_ok-put.ensures.ok ∙ ap (map.insert c.loop-index.next (Block c.args.node (c.loop-index.index - 1))) cell);
    }

pub returns : goal.returns
returns c =
    let first : c.loop-index.index ≡ c.args.at / 4096 = omega (arith, c.loop-index.invariant.above) in
    c.loop-index.invariant.put
    ∙ ap (λ indexes. with_cells c.args.next.now (blocks_after c.args.old.now c.args.stamp c.args.node c.args.at c.args.bytes.now indexes))
    (touched_some c.args.at (length c.args.bytes.now) c.loop-index.index c.div_ceil-end.result c.requires.some first c.div_ceil-end.ensures)
