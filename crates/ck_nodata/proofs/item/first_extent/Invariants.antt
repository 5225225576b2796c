use Rattle.std.proofs.Common.{◌≡◌, length}
use Rattle.ck_model.specs.Table.{keys_after}
use Rattle.ck_nodata.specs.StripItem.{first_extent}
use Rattle.ck_nodata.proofs.item.first_extent.Given as goal

abbrev pub invariant-loop-key : goal.invariant-loop-key
invariant-loop-key g l =
    let t = g.M.Meta.table l.meta in
    first_extent t l.fs l.fn.after ≡ first_extent t l.fs l.after

abbrev pub decreases-loop-key : goal.decreases-loop-key
decreases-loop-key g l = length (keys_after (g.M.Meta.table l.meta) l.fs l.after)
