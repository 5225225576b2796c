use Rattle.std.proofs.Common.{◌<◌, false, length, ◌∙◌, ap, arith}
use Rattle.ck_disk.proofs.MomentLaws.{keeps_on}
use Rattle.ck_log.specs.Images.{names_second}
use Rattle.ck_log.proofs.AreaLaws.{outside_area, first_area-low}
use Rattle.ck_log.proofs.Commits.{told_on}
use Rattle.ck_log.proofs.Setups.{apart_others, gate_stays, write_run_on, write_run_others}
use Rattle.ck_log.proofs.setup.put_first_table.Goals as goal

pub returns-in_err-write_first_table-clause-any_moment : goal.returns-in_err-write_first_table-clause-any_moment
returns-in_err-write_first_table-clause-any_moment g c =
    write_run_on _ _ _ _ _ 1 (apart_others c.args.records) (outside_area c.args.records false _ _ c.area_at-first.ensures c.table_blocks-count.ensures)
    (g.met.D.Disk.lawful c.args.disk.now) (g.met.D.Disk.lawful c.write.new.self) c.write.ensures.step c.write.ensures.crash c.write_first_table.ensures.any_moment

pub returns-in_err-write_first_table-clause-others : goal.returns-in_err-write_first_table-clause-others
returns-in_err-write_first_table-clause-others g c = λ told.
    write_run_others _ _ _ _ _ 1 (apart_others c.args.records) (outside_area c.args.records false _ _ c.area_at-first.ensures c.table_blocks-count.ensures)
    (c.write.ensures.others told) (c.write_first_table.ensures.others (told_on _ _ c.write.ensures.step.tells told))

pub returns-in_err-sync-clause-any_moment : goal.returns-in_err-sync-clause-any_moment
returns-in_err-sync-clause-any_moment g c =
    let ran = write_run_on _ _ _ _ _ 1 (apart_others c.args.records) (outside_area c.args.records false _ _ c.area_at-first.ensures c.table_blocks-count.ensures)
    (g.met.D.Disk.lawful c.args.disk.now) (g.met.D.Disk.lawful c.write.new.self) c.write.ensures.step c.write.ensures.crash c.write_first_table.ensures.any_moment in
    keeps_on _ _ _ _ (g.met.D.Disk.lawful c.write_first_table.new.disk) ran c.sync.ensures.step c.sync.ensures.crash

pub returns-in_err-sync-clause-others : goal.returns-in_err-sync-clause-others
returns-in_err-sync-clause-others g c = λ told.
    let same = write_run_others _ _ _ _ _ 1 (apart_others c.args.records) (outside_area c.args.records false _ _ c.area_at-first.ensures c.table_blocks-count.ensures)
    (c.write.ensures.others told) (c.write_first_table.ensures.others (told_on _ _ c.write.ensures.step.tells told)) in
    rw c.sync.ensures.shows same

pub returns-clause-any_moment : goal.returns-clause-any_moment
returns-clause-any_moment g c =
    let ran = write_run_on _ _ _ _ _ 1 (apart_others c.args.records) (outside_area c.args.records false _ _ c.area_at-first.ensures c.table_blocks-count.ensures)
    (g.met.D.Disk.lawful c.args.disk.now) (g.met.D.Disk.lawful c.write.new.self) c.write.ensures.step c.write.ensures.crash c.write_first_table.ensures.any_moment in
    keeps_on _ _ _ _ (g.met.D.Disk.lawful c.write_first_table.new.disk) ran c.sync.ensures.step c.sync.ensures.crash

pub returns-clause-others : goal.returns-clause-others
returns-clause-others g c = λ told.
    let same = write_run_others _ _ _ _ _ 1 (apart_others c.args.records) (outside_area c.args.records false _ _ c.area_at-first.ensures c.table_blocks-count.ensures)
    (c.write.ensures.others told) (c.write_first_table.ensures.others (told_on _ _ c.write.ensures.step.tells told)) in
    rw c.sync.ensures.shows same

pub returns-clause-gate : goal.returns-clause-gate
returns-clause-gate g c = λ told.
    let old = g.D.Disk.means c.args.disk.now in
    let long : 1 < length old.shows = omega (arith, (g.met.D.Disk.lawful c.args.disk.now).whole told, first_area-low c.args.records, c.requires.size) in
    ap names_second c.sync.ensures.shows
    ∙ gate_stays old.shows _ _ c.gate_block.result c.args.records _ _ long c.gate_block.ensures (c.in_ok-write.ensures.bytes told) c.area_at-first.ensures
    (c.write_first_table.ensures.others (told_on _ _ c.write.ensures.step.tells told))
