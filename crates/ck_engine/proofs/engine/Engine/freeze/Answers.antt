use Rattle.std.proofs.Common.{refl, subst}
use Rattle.ck_model.specs.declared.checkpoint.Limits.{Limits}
use Rattle.ck_data.specs.Device.{store_on}
use Rattle.ck_files.specs.Files.{AreFiles}
use Rattle.ck_engine.specs.Engine.{blocks_of, data_of, mounts_of, table_of}
use Rattle.ck_engine.proofs.AttemptLemmas.{quiet-attempt, quiet-goes}
use Rattle.ck_engine.proofs.engine.Engine.freeze.Goals as goal

pub returns-clause-attempt : goal.returns-clause-attempt
returns-clause-attempt g c = quiet-attempt c.create-count.result.count (g.D.Disk.means c.args.self.now.disk) c.args.self.now _ (g.met.D.Disk.lawful c.args.self.now.disk)

pub returns-clause-goes_on : goal.returns-clause-goes_on
returns-clause-goes_on g c =
    let before = c.args.self.now in
    let after = record before { slots = c.create-count.new.meta; blocks = c.create-count.new.blocks; stripped = c.create-count.new.stripped } in
    let e = c.create-count.ensures in
    quiet-goes c.create-count.result.count (g.D.Disk.means before.disk) before after c.requires.whole refl (subst (λ (l : Limits). AreFiles l (table_of after) (blocks_of after)) c.limits-limits.ensures e.files) e.busy e.stripped

pub returns-clause-ok : goal.returns-clause-ok
returns-clause-ok g c =
    let before = c.args.self.now in
    c.create-count.ensures.reply (store_on (g.D.Disk.means before.disk).shows (data_of before)) (mounts_of before)
