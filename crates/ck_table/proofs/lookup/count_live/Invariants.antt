use Rattle.std.proofs.Common.{◌≡◌, ◌≤◌, ◌+◌, ◌-◌, ◌^◌, length, filter}
use Rattle.ck_model.specs.Table.{newer}
use Rattle.ck_model.specs.Chain.{is_live, live_ids}
use Rattle.ck_table.proofs.lookup.count_live.Given as goal

abbrev pub invariant-loop-id : goal.invariant-loop-id
invariant-loop-id g l =
    let t = g.M.Meta.table l.meta in
    record {
      counted : length (live_ids t) ≡ l.count + length (filter (is_live t) (newer t l.at));
      few : l.count ≤ l.at;
    }

abbrev pub decreases-loop-id : goal.decreases-loop-id
decreases-loop-id g l = 2 ^ 32 - l.at
