use Rattle.std.proofs.Common.{◌≡◌, ◌+◌, ◌*◌, ◌≤◌, drop}
use Rattle.ck_model.specs.Chain.{newest_live_of}
use Rattle.ck_push.specs.Growth.{gains, losses, write_count}
use Rattle.ck_push.proofs.room.cost.Given as goal

abbrev pub invariant-loop-item : goal.invariant-loop-item
invariant-loop-item g l =
    let t = g.M.Meta.table l.meta in
    record {
      newest : l.newest ≡ newest_live_of t;
      blocks : write_count l.changes ≡ l.blocks + write_count (drop l.item-index l.changes);
      few_blocks : l.blocks ≤ l.item-index;
      gains : gains t l.changes ≡ l.gains + gains t (drop l.item-index l.changes);
      few_gains : l.gains ≤ 2 * l.item-index;
      losses : losses t l.changes ≡ l.losses + losses t (drop l.item-index l.changes);
      few_losses : l.losses ≤ 2 * l.item-index;
    }
