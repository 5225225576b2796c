use Rattle.ck_log.specs.FirstTable.{new_layout, FormatLeaves}
use Rattle.ck_slots.specs.Slots.{table_in}
use Rattle.ck_files.specs.Files.{IsOurs}
use Rattle.ck_engine.proofs.FormatLemmas.{volume-formatted}
use Rattle.ck_disk.proofs.RunLaws.{runs_of}
use Rattle.ck_engine.proofs.engine.Engine.format.Goals as goal

pub blocks_in-requires : goal.blocks_in-requires
blocks_in-requires g c =
    let slots = c.in-Ok-format.slots in
    let e = c.in-Ok-format.ensures in
    record { lawful = slots.within_limits; sized = slots.fits; sound = e.sound }

pub returns-clause-formatted : goal.returns-clause-formatted
returns-clause-formatted g c =
    let slots = c.in-Ok-format.slots in
    let e = c.in-Ok-format.ensures in
    let r = c.in-Ok.ensures in
    let ours : IsOurs (table_in slots) = record { lawful = slots.within_limits; sized = slots.fits; sound = e.sound } in
    let old = g.D.Disk.means c.args.disk in
    let new = g.D.Disk.means c.format.new.disk in
    volume-formatted c.args.blocks c.args.records old new _ (g.met.D.Disk.lawful c.format.new.disk) (runs_of old new (FormatLeaves (new_layout c.args.blocks c.args.records) old) r.any_moment)
    r.region e.table ours c.in-Ok-blocks_in.ensures e.world e.written r.size r.volume r.table r.settled r.synced c.new.ensures c.before_all.ensures
