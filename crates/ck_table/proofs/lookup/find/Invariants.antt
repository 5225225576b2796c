use Rattle.std.proofs.Common.{◌≡◌, ◌-◌, ◌^◌, find}
use Rattle.ck_model.specs.Table.{newer}
use Rattle.ck_table.specs.Names.{is_named, id_named}
use Rattle.ck_table.proofs.lookup.find.Given as goal

abbrev pub invariant-loop-id : goal.invariant-loop-id
invariant-loop-id g l =
    let t = g.M.Meta.table l.meta in
    id_named t l.name ≡ find (is_named t l.name) (newer t l.at)

abbrev pub decreases-loop-id : goal.decreases-loop-id
decreases-loop-id g l = 2 ^ 32 - l.at
