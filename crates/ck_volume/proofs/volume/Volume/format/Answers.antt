use Rattle.std.proofs.Common.{sym, subst}
use Rattle.ck_engine.specs.declared.engine.Engine.{Engine}
use Rattle.ck_engine.specs.Engine.{disk_of}
use Rattle.ck_engine.specs.Formatted.{IsFormatted}
use Rattle.ck_volume.proofs.BegunLaws.{formatted-recovers, formatted-keeps}
use Rattle.ck_volume.proofs.volume.Volume.format.Goals as goal

pub begun-requires-clause-begun : goal.begun-requires-clause-begun
begun-requires-clause-begun g c = c.in_ok-engine.ensures.formatted.begun

pub begun-requires-clause-recovers : goal.begun-requires-clause-recovers
begun-requires-clause-recovers g c =
    let engine = c.in_ok-engine.engine in
    formatted-recovers (g.D.Disk.means c.args.disk) (g.D.Disk.means (disk_of engine)) engine c.args.blocks c.args.records c.in_ok-engine.ensures.formatted (g.met.D.Disk.lawful (disk_of engine))

pub begun-requires-clause-kept : goal.begun-requires-clause-kept
begun-requires-clause-kept g c =
    let engine = c.in_ok-engine.engine in
    formatted-keeps (g.D.Disk.means c.args.disk) (g.D.Disk.means (disk_of engine)) engine c.args.blocks c.args.records c.in_ok-engine.ensures.formatted

pub returns-clause-formatted : goal.returns-clause-formatted
returns-clause-formatted g c = record {
  begun = c.begun.ensures.begun;
  files_are = subst (λ (e : Engine g.row.D.Denot). IsFormatted c.args.blocks c.args.records (g.D.Disk.means c.args.disk) (g.D.Disk.means (disk_of e)) e) (sym c.begun.ensures.engine) c.in_ok-engine.ensures.formatted;
}
