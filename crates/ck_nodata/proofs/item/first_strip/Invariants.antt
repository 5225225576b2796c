use Rattle.std.proofs.Common.{◌≡◌, ◌-◌, ◌^◌}
use Rattle.ck_model.specs.Table.{newer}
use Rattle.ck_nodata.specs.StripItem.{first_strip}
use Rattle.ck_nodata.proofs.item.first_strip.Given as goal

abbrev pub invariant-loop-id : goal.invariant-loop-id
invariant-loop-id g l =
    let t = g.M.Meta.table l.meta in
    first_strip t (newer t l.fn.at) ≡ first_strip t (newer t l.at)

abbrev pub decreases-loop-id : goal.decreases-loop-id
decreases-loop-id g l = 2 ^ 32 - l.at
