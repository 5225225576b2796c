use Rattle.ck_engine.specs.Engine.{disk_of}
use Rattle.ck_model.proofs.CaseLaws.{if_ok_map}
use Rattle.ck_engine.proofs.OpenLemmas.{opened_after, fault_after, if_err_map}
use Rattle.ck_engine.proofs.engine.Engine.open.Goals as goal

pub returns-clause-opened : goal.returns-clause-opened
returns-clause-opened g c =
    if_ok_map _ _ c.open_in.result
    (λ volume opened. opened_after (g.D.Disk.means c.args.disk) (g.D.Disk.means c.open_on.new.disk) (g.met.D.Disk.lawful c.open_on.new.disk) c.open_on.ensures.shows c.open_on.ensures.any_moment (g.D.Disk.means (disk_of volume)) volume opened)
    c.open_in.ensures.opened

pub returns-clause-fault : goal.returns-clause-fault
returns-clause-fault g c =
    if_err_map _ _ c.open_in.result
    (λ why is. fault_after (g.D.Disk.means c.args.disk) (g.D.Disk.means c.open_on.new.disk) (g.met.D.Disk.lawful c.open_on.new.disk) c.open_on.ensures.shows c.open_on.ensures.any_moment g.D.Disk.means why is)
    c.open_in.ensures.fault
