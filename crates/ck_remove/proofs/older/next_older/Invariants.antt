use Rattle.std.proofs.Common.{◌≡◌, ◌-◌, ◌^◌}
use Rattle.std.specs.Option.{option_or}
use Rattle.ck_model.specs.Table.{newer}
use Rattle.ck_model.specs.Chain.{last_of}
use Rattle.ck_remove.specs.Removal.{is_older, next_older}
use Rattle.ck_remove.proofs.older.next_older.Given as goal

abbrev pub invariant-loop-id : goal.invariant-loop-id
invariant-loop-id g l =
    let t = g.M.Meta.table l.meta in
    next_older t l.fs ≡ option_or (last_of (is_older t l.fs) (newer t l.at)) l.found

abbrev pub decreases-loop-id : goal.decreases-loop-id
decreases-loop-id g l = 2 ^ 32 - l.at
