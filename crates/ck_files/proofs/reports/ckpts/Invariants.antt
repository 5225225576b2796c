use Rattle.std.proofs.Common.{◌≡◌, ◌-◌, ◌^◌, ◌++◌, false}
use Rattle.ck_model.specs.Table.{newer}
use Rattle.ck_files.specs.Reports.{listed}
use Rattle.ck_files.proofs.reports.ckpts.Given as goal

abbrev pub invariant-loop-id : goal.invariant-loop-id
invariant-loop-id g l =
    let t = g.M.Meta.table l.meta in
    listed t false (newer t 0) ≡ l.lines.items ++ listed t l.older (newer t l.at)

abbrev pub decreases-loop-id : goal.decreases-loop-id
decreases-loop-id g l = 2 ^ 32 - l.at
