use Rattle.std.proofs.Common.{ℕ, sym, subst}
use Rattle.ck_files.specs.Files.{IsOurs}
use Rattle.ck_disk.specs.Runs.{OnlyReads}
use Rattle.ck_slots.specs.Slots.{table_in}
use Rattle.ck_engine.specs.Opened.{IsFound}
use Rattle.ck_engine.specs.Recovery.{Damaged}
use Rattle.ck_engine.proofs.OpenLemmas.{volume-opened, refused_slot}
use Rattle.ck_engine.proofs.engine.Engine.open_in.Goals as goal

pub blocks_in-requires : goal.blocks_in-requires
blocks_in-requires g c =
    let slots = c.in-Ok.slots in
    record { lawful = slots.within_limits; sized = slots.fits; sound = c.in-Ok.ensures.sound }

pub returns-clause-opened : goal.returns-clause-opened
returns-clause-opened g c =
    let slots = c.in-Ok.slots in
    let ours : IsOurs (table_in slots) = record { lawful = slots.within_limits; sized = slots.fits; sound = c.in-Ok.ensures.sound } in
    let d = c.open.ensures.device in
    let reads : OnlyReads (g.D.Disk.means c.args.disk) (g.D.Disk.means c.open.new.disk) = record { shows = d.shows; crash = d.crash; marks = d.marks; step = d.step } in
    volume-opened (g.D.Disk.means c.args.disk) (g.D.Disk.means c.open.new.disk) _ (g.met.D.Disk.lawful c.args.disk) (g.met.D.Disk.lawful c.open.new.disk) reads
    ours c.in-Ok-blocks_in.ensures c.in-Ok.ensures.sizes.0 c.in-Ok.ensures.sizes.1 c.requires.size c.requires.found c.requires.settled c.requires.synced c.in-Ok.ensures.table c.new.ensures c.before_all.ensures

pub returns-in-Err-Damaged-clause-fault : goal.returns-in-Err-Damaged-clause-fault
returns-in-Err-Damaged-clause-fault g c =
    let d = c.open.ensures.device in
    let reads : OnlyReads (g.D.Disk.means c.args.disk) (g.D.Disk.means c.open.new.disk) = record { shows = d.shows; crash = d.crash; marks = d.marks; step = d.step } in
    let arm = c.in-Err-Damaged in
    subst (λ (at : ℕ × ℕ). IsFound (g.D.Disk.means c.args.disk) (g.D.Disk.means c.open.new.disk) (Damaged at.0 at.1)) (λ i. (sym arm.block-is i, sym arm.slot-is i))
    (refused_slot c.args.region (g.D.Disk.means c.args.disk) (g.D.Disk.means c.open.new.disk) (g.met.D.Disk.lawful c.args.disk) reads c.requires.found c.requires.settled
    arm.field-0 arm.ensures.refused arm.block arm.slot arm.field-0-is)
