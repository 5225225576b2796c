use Rattle.std.proofs.Common.{IsTrue, sym, ◌∙◌}
use Rattle.ck_log.proofs.RecoveryLaws.{sizes_read, refusal_read}
use Rattle.ck_log.proofs.header.read_sizes.Goals as goal

pub returns-in-Ok-clause-opens : goal.returns-in-Ok-clause-opens
returns-in-Ok-clause-opens g c =
    sizes_read (IsTrue (g.D.Disk.means c.args.disk.now).tells) c.read.new.into _ _ _ c.in-Ok.ensures.bytes c.blocks-size.ensures c.sizes_in.result c.sizes_in.ensures.opens

pub returns-in-Ok-clause-refused : goal.returns-in-Ok-clause-refused
returns-in-Ok-clause-refused g c =
    refusal_read (g.D.Disk.means c.args.disk.now) (g.D.Disk.means c.read.new.self) c.read.new.into _ c.in-Ok.ensures.bytes (λ told. (g.met.D.Disk.lawful c.args.disk.now).whole told ∙ sym c.blocks-size.ensures) c.sizes_in.result c.sizes_in.ensures.refused
