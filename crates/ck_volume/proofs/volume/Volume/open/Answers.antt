use Rattle.std.proofs.Common.{sym, subst}
use Rattle.ck_engine.specs.declared.engine.Engine.{Engine}
use Rattle.ck_engine.specs.Engine.{disk_of}
use Rattle.ck_engine.specs.Opened.{IsOpened}
use Rattle.ck_volume.proofs.BegunLaws.{opened-recovers, opened-keeps}
use Rattle.ck_volume.proofs.volume.Volume.open.Goals as goal

pub begun-requires-clause-begun : goal.begun-requires-clause-begun
begun-requires-clause-begun g c = c.in_ok-engine.ensures.opened.begun

pub begun-requires-clause-recovers : goal.begun-requires-clause-recovers
begun-requires-clause-recovers g c =
    let engine = c.in_ok-engine.engine in
    opened-recovers (g.D.Disk.means c.args.disk) (g.D.Disk.means (disk_of engine)) engine (g.met.D.Disk.lawful (disk_of engine)) c.in_ok-engine.ensures.opened

pub begun-requires-clause-kept : goal.begun-requires-clause-kept
begun-requires-clause-kept g c =
    let engine = c.in_ok-engine.engine in
    opened-keeps (g.D.Disk.means c.args.disk) (g.D.Disk.means (disk_of engine)) engine c.in_ok-engine.ensures.opened

pub returns-clause-opened : goal.returns-clause-opened
returns-clause-opened g c = record {
  begun = c.begun.ensures.begun;
  files_are = subst (λ (e : Engine g.row.D.Denot). IsOpened (g.D.Disk.means c.args.disk) (g.D.Disk.means (disk_of e)) e) (sym c.begun.ensures.engine) c.in_ok-engine.ensures.opened;
}
