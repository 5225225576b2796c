use Rattle.std.proofs.Common.{IsTrue, sym, ◌∙◌, ap}
use Rattle.ck_log.specs.Images.{names_second}
use Rattle.ck_log.proofs.Commits.{told_on}
use Rattle.ck_log.proofs.RecoveryLaws.{recovered_read}
use Rattle.ck_log.proofs.region.Region.open_on.Goals as goal

pub returns-in-Ok-clause-opens : goal.returns-in-Ok-clause-opens
returns-in-Ok-clause-opens g c = λ told.
    let old = g.D.Disk.means c.args.disk.now in
    let synced = g.D.Disk.means c.sync.new.self in
    let told_synced : IsTrue synced.tells = told_on _ _ c.sync.ensures.step.tells told in
    let told_read : IsTrue (g.D.Disk.means c.read_sizes.new.disk).tells = told_on _ _ c.read_sizes.ensures.device.step.tells told_synced in
    recovered_read old.shows synced.shows c.in-Ok.second synced.size _ c.sync.ensures.shows
    (c.in-Ok.ensures.second told_read ∙ ap names_second (c.read_sizes.ensures.device.shows ∙ c.sync.ensures.shows))
    (c.sync.ensures.step.size ∙ sym ((g.met.D.Disk.lawful c.args.disk.now).whole told))
    (c.in_ok-sizes.ensures.opens told_synced c.in-Ok.second)
