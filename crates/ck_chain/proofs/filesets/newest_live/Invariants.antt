use Rattle.std.proofs.Common.{◌≡◌, ◌-◌, ◌^◌}
use Rattle.std.specs.Option.{option_or}
use Rattle.ck_model.specs.Table.{newer}
use Rattle.ck_model.specs.Chain.{newest_live_of, last_of, is_live}
use Rattle.ck_chain.proofs.filesets.newest_live.Given as goal

abbrev pub invariant-loop-id : goal.invariant-loop-id
invariant-loop-id g l =
    let t = g.M.Meta.table l.meta in
    newest_live_of t ≡ option_or (last_of (is_live t) (newer t l.at)) l.found

abbrev pub decreases-loop-id : goal.decreases-loop-id
decreases-loop-id g l = 2 ^ 32 - l.at
