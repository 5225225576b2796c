use Rattle.std.proofs.Common.{false, sym}
use Rattle.ck_log.proofs.Commits.{told_on, settles}
use Rattle.ck_log.proofs.region.Region.format.Goals as goal

pub returns-in-Ok-clause-settled : goal.returns-in-Ok-clause-settled
returns-in-Ok-clause-settled g c =
    settles (record { blocks = c.args.blocks; records = c.args.records; second = false }) _ (g.met.D.Disk.lawful c.make_volume.new.disk) c.in-Ok.ensures.synced
    (λ told. (_, c.in-Ok.ensures.table (told_on _ _ (sym c.make_volume.ensures.any_moment.tells) told)))
