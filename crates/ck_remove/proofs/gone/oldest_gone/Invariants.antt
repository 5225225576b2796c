use Rattle.std.proofs.Common.{◌≡◌, ◌-◌, ◌^◌, find}
use Rattle.ck_model.specs.Table.{newer}
use Rattle.ck_model.specs.Chain.{is_gone}
use Rattle.ck_remove.specs.Gone.{oldest_gone}
use Rattle.ck_remove.proofs.gone.oldest_gone.Given as goal

abbrev pub invariant-loop-id : goal.invariant-loop-id
invariant-loop-id g l =
    let t = g.M.Meta.table l.meta in
    oldest_gone t ≡ find (is_gone t) (newer t l.at)

abbrev pub decreases-loop-id : goal.decreases-loop-id
decreases-loop-id g l = 2 ^ 32 - l.at
