use Rattle.std.proofs.Common.{◌<◌, IsTrue, length, set, ◌∙◌, ap, arith}
use Rattle.ck_log.proofs.Commits.{told_on}
use Rattle.ck_log.proofs.Setups.{apart_first, outside_rest, first_written, write_run_on}
use Rattle.ck_log.proofs.setup.write_first_table.Goals as goal

pub returns-in_err-write_zeros-clause-any_moment : goal.returns-in_err-write_zeros-clause-any_moment
returns-in_err-write_zeros-clause-any_moment g c =
    write_run_on _ _ _ _ _ c.args.at (apart_first c.args.at c.args.count c.requires.some) (outside_rest c.args.at c.args.count c.requires.some)
    (g.met.D.Disk.lawful c.args.disk.now) (g.met.D.Disk.lawful c.write.new.self) c.write.ensures.step c.write.ensures.crash c.write_zeros.ensures.any_moment

pub returns-clause-any_moment : goal.returns-clause-any_moment
returns-clause-any_moment g c =
    write_run_on _ _ _ _ _ c.args.at (apart_first c.args.at c.args.count c.requires.some) (outside_rest c.args.at c.args.count c.requires.some)
    (g.met.D.Disk.lawful c.args.disk.now) (g.met.D.Disk.lawful c.write.new.self) c.write.ensures.step c.write.ensures.crash c.write_zeros.ensures.any_moment

pub returns-clause-written : goal.returns-clause-written
returns-clause-written g c = λ told.
    let old = g.D.Disk.means c.args.disk.now in
    let told_mid : IsTrue (g.D.Disk.means c.write.new.self).tells = told_on _ _ c.write.ensures.step.tells told in
    let long : c.args.at < length old.shows = omega (arith, (g.met.D.Disk.lawful c.args.disk.now).whole told, c.requires.some, c.requires.within) in
    first_written old.shows _ _ c.args.at c.args.count c.requires.some long
    (c.in_ok-write.ensures.bytes told ∙ ap (λ b. set old.shows c.args.at b) c.first_block.ensures)
    (c.write_zeros.ensures.others told_mid) (c.in_ok-write_zeros.ensures.written told_mid)
