use Rattle.std.proofs.Common.{refl, subst}
use Rattle.ck_data.specs.Device.{store_on}
use Rattle.ck_files.specs.Planned.{IsPlanned}
use Rattle.ck_files.specs.declared.planned.Planned.TheVariants.{Answered}
use Rattle.ck_engine.specs.Engine.{data_of, mounts_of, table_of}
use Rattle.ck_engine.proofs.AttemptLemmas.{quiet-attempt, quiet-goes}
use Rattle.ck_engine.proofs.engine.Engine.make.Goals as goal

pub returns-in-Answered-clause-attempt : goal.returns-in-Answered-clause-attempt
returns-in-Answered-clause-attempt g c = quiet-attempt 0 (g.D.Disk.means c.args.self.now.disk) c.args.self.now c.args.self.now (g.met.D.Disk.lawful c.args.self.now.disk)

pub returns-in-Answered-clause-goes_on : goal.returns-in-Answered-clause-goes_on
returns-in-Answered-clause-goes_on g c =
    let before = c.args.self.now in
    let whole = c.requires.whole in
    quiet-goes 0 (g.D.Disk.means before.disk) before before whole refl whole.files (λ block busy. busy) whole.stripped

pub returns-in-Answered-clause-ok : goal.returns-in-Answered-clause-ok
returns-in-Answered-clause-ok g c = λ told.
    let before = c.args.self.now in
    let planned : IsPlanned (table_of before) c.args.call.now (Answered c.in-Answered.reply) = subst (IsPlanned (table_of before) c.args.call.now) c.in-Answered.is c.requires.planned in
    planned.1 (store_on (g.D.Disk.means before.disk).shows (data_of before)) (mounts_of before)
