use Rattle.ck_data.specs.Device.{store_on}
use Rattle.ck_engine.specs.Engine.{data_of, mounts_of}
use Rattle.ck_engine.proofs.AttemptLemmas.{quiet-attempt, quiet-goes}
use Rattle.std.proofs.Common.{refl}
use Rattle.ck_engine.proofs.engine.Engine.drain.Goals as goal

pub returns-clause-attempt : goal.returns-clause-attempt
returns-clause-attempt g c = quiet-attempt 0 (g.D.Disk.means c.args.self.now.disk) c.args.self.now _ (g.met.D.Disk.lawful c.args.self.now.disk)

pub returns-clause-goes_on : goal.returns-clause-goes_on
returns-clause-goes_on g c =
    let before = c.args.self.now in
    let after = record before { slots = c.drain.new.meta; blocks = c.drain.new.blocks; stripped = c.drain.new.stripped } in
    let e = c.drain.ensures in
    quiet-goes 0 (g.D.Disk.means before.disk) before after c.requires.whole refl (record { ours = e.ours; allocated = e.allocated; limit = e.alike.blocks; records = e.alike.records }) e.busy e.stripped

pub returns-clause-world : goal.returns-clause-world
returns-clause-world g c =
    let before = c.args.self.now in
    c.drain.ensures.alike.worlds (store_on (g.D.Disk.means before.disk).shows (data_of before)) (mounts_of before)
