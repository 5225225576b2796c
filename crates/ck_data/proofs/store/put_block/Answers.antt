use Rattle.std.proofs.Common.{◌≡◌, IfSome, subst}
use Rattle.std.specs.FinSet as set
use Rattle.ck_alloc.specs.Blocks.{IsFree}
use Rattle.ck_data.proofs.PlaceLemmas.{busy_taken}
use Rattle.ck_data.proofs.StoredLaws.{write_stores}
use Rattle.ck_data.proofs.store.put_block.Goals as goal

pub returns-in-Ok-clause-busy : goal.returns-in-Ok-clause-busy
returns-in-Ok-clause-busy g c =
    busy_taken c.args.blocks.now c.take.new.self c.unwrap-block.result
    (subst (λ o. IfSome o (λ block. c.take.new.self ≡ record c.args.blocks.now { used = set.insert c.args.blocks.now.used block })) c.unwrap-block.ensures c.take.ensures.used)

pub returns-in-Ok-clause-device : goal.returns-in-Ok-clause-device
returns-in-Ok-clause-device g c =
    write_stores c.args.area.base c.args.blocks.now (g.D.Disk.means c.args.disk.now) (g.D.Disk.means c.write.new.self) c.unwrap-block.result
    (subst (λ o. IfSome o (IsFree c.args.blocks.now)) c.unwrap-block.ensures c.take.ensures.free)
    c.write.ensures.step c.write.ensures.crash c.write.ensures.others

pub returns-in-Err-clause-busy : goal.returns-in-Err-clause-busy
returns-in-Err-clause-busy g c =
    busy_taken c.args.blocks.now c.take.new.self c.unwrap-block.result
    (subst (λ o. IfSome o (λ block. c.take.new.self ≡ record c.args.blocks.now { used = set.insert c.args.blocks.now.used block })) c.unwrap-block.ensures c.take.ensures.used)

pub returns-in-Err-clause-device : goal.returns-in-Err-clause-device
returns-in-Err-clause-device g c =
    write_stores c.args.area.base c.args.blocks.now (g.D.Disk.means c.args.disk.now) (g.D.Disk.means c.write.new.self) c.unwrap-block.result
    (subst (λ o. IfSome o (IsFree c.args.blocks.now)) c.unwrap-block.ensures c.take.ensures.free)
    c.write.ensures.step c.write.ensures.crash c.write.ensures.others
