use Rattle.std.proofs.Common.{◌<◌, IsTrue, not, length, refl, sym, arith}
use Rattle.ck_log.proofs.AreaLaws.{area_high, first_area-low}
use Rattle.ck_log.proofs.Phases.{committed}
use Rattle.ck_log.proofs.Commits.{told_on, settles, after_run, after_gate, in_area, others_after_run, others_after_gate}
use Rattle.ck_log.proofs.region.Region.put_table.Goals as goal

pub put_run-requires : goal.put_run-requires
put_run-requires g c =
    omega (arith, c.free_area.ensures, area_high c.args.self.now.records (not c.args.self.now.second), c.requires.whole, c.requires.size)

pub returns-in_err-put_run-clause-any_moment : goal.returns-in_err-put_run-clause-any_moment
returns-in_err-put_run-clause-any_moment g c =
    after_run c.args.self.now _ c.args.table.now _ c.requires.settled _ _ _ c.free_area.ensures c.requires.whole c.put_run.ensures.any_moment

pub returns-in_err-put_run-clause-others : goal.returns-in_err-put_run-clause-others
returns-in_err-put_run-clause-others g c = λ told.
    others_after_run c.args.self.now (not c.args.self.now.second) _ _ _ _ c.free_area.ensures c.requires.whole (c.put_run.ensures.others told)

pub returns-in_err-put_block-clause-any_moment : goal.returns-in_err-put_block-clause-any_moment
returns-in_err-put_block-clause-any_moment g c =
    after_gate c.args.self.now _ c.args.table.now _ c.requires.settled _ _ _ c.free_area.ensures c.requires.whole c.put_run.ensures.any_moment _
    (g.met.D.Disk.lawful c.put_run.new.disk) c.in_ok-put_run.ensures.written c.put_run.ensures.others c.in_ok-put_run.ensures.synced c.put_block.ensures.any_moment

pub returns-in_err-put_block-clause-others : goal.returns-in_err-put_block-clause-others
returns-in_err-put_block-clause-others g c = λ told.
    others_after_gate c.args.self.now _ _ _ (others_after_run c.args.self.now (not c.args.self.now.second) _ _ _ _ c.free_area.ensures c.requires.whole (c.put_run.ensures.others told))
    (c.put_block.ensures.others (told_on _ _ c.put_run.ensures.any_moment.tells told))

pub returns-clause-any_moment : goal.returns-clause-any_moment
returns-clause-any_moment g c =
    after_gate c.args.self.now _ c.args.table.now _ c.requires.settled _ _ _ c.free_area.ensures c.requires.whole c.put_run.ensures.any_moment _
    (g.met.D.Disk.lawful c.put_run.new.disk) c.in_ok-put_run.ensures.written c.put_run.ensures.others c.in_ok-put_run.ensures.synced c.put_block.ensures.any_moment

pub returns-clause-others : goal.returns-clause-others
returns-clause-others g c = λ told.
    others_after_gate c.args.self.now _ _ _ (others_after_run c.args.self.now (not c.args.self.now.second) _ _ _ _ c.free_area.ensures c.requires.whole (c.put_run.ensures.others told))
    (c.put_block.ensures.others (told_on _ _ c.put_run.ensures.any_moment.tells told))

pub returns-clause-table : goal.returns-clause-table
returns-clause-table g c = λ told.
    let layout = c.args.self.now in
    let run = g.D.Disk.means c.put_run.new.disk in
    let law = g.met.D.Disk.lawful c.put_run.new.disk in
    let told_run : IsTrue run.tells = told_on _ _ c.put_run.ensures.any_moment.tells told in
    let long : 1 < length run.shows = omega (arith, law.whole told_run, c.put_run.ensures.any_moment.size, first_area-low layout.records, c.requires.size) in
    (committed (record layout { second = not layout.second }) run.shows c.next_gate.result c.args.table.now _ long c.next_gate.ensures
    (in_area layout _ c.args.table.now _ c.requires.settled _ _ _ c.free_area.ensures c.requires.whole c.put_run.ensures.any_moment (c.in_ok-put_run.ensures.written told))
    (c.in_ok-put_block.ensures.written told_run)).table

pub returns-clause-settled : goal.returns-clause-settled
returns-clause-settled g c =
    let layout = c.args.self.now in
    let run = g.D.Disk.means c.put_run.new.disk in
    settles (record layout { second = not layout.second }) _ (g.met.D.Disk.lawful c.put_block.new.disk) c.in_ok-put_block.ensures.synced (λ told.
    let told_run : IsTrue run.tells = told_on _ _ (sym c.put_block.ensures.any_moment.tells) told in
    let long : 1 < length run.shows = omega (arith, (g.met.D.Disk.lawful c.put_run.new.disk).whole told_run, c.put_run.ensures.any_moment.size, first_area-low layout.records, c.requires.size) in
    (_, committed (record layout { second = not layout.second }) run.shows c.next_gate.result _ _ long c.next_gate.ensures refl (c.in_ok-put_block.ensures.written told_run)))
