use Rattle.std.proofs.Common.{◌≡◌, ◌-◌, ◌^◌, ◌&&◌, nat_le}
use Rattle.std.specs.List.{list_any}
use Rattle.ck_model.specs.Table.{newer}
use Rattle.ck_model.specs.Chain.{keeps_data, is_live_data}
use Rattle.ck_chain.proofs.filesets.keeps.Given as goal

abbrev pub invariant-loop-id : goal.invariant-loop-id
invariant-loop-id g l =
    let t = g.M.Meta.table l.meta in
    keeps_data t l.fs ≡ list_any (λ id. nat_le id l.fs && is_live_data t id) (newer t l.at)

abbrev pub decreases-loop-id : goal.decreases-loop-id
decreases-loop-id g l = 2 ^ 32 - l.at
