use Rattle.std.proofs.Common.{◌≡◌, ◌-◌, ◌^◌, ◌++◌, filter}
use Rattle.ck_model.specs.Table.{newer}
use Rattle.ck_model.specs.Chain.{is_live, live_ids}
use Rattle.ck_table.proofs.lookup.live.Given as goal

abbrev pub invariant-loop-id : goal.invariant-loop-id
invariant-loop-id g l =
    let t = g.M.Meta.table l.meta in
    live_ids t ≡ l.ids.items ++ filter (is_live t) (newer t l.at)

abbrev pub decreases-loop-id : goal.decreases-loop-id
decreases-loop-id g l = 2 ^ 32 - l.at
