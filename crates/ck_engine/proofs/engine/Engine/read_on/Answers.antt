use Rattle.std.proofs.Common.{ℕ, sym, ap, subst, refl, ◌∙◌}
use Rattle.ck_model.specs.declared.reply.Reply.TheVariants as reply
use Rattle.ck_model.specs.Step.{answered}
use Rattle.ck_files.specs.Room.{answered_with}
use Rattle.ck_data.specs.Device.{store_on}
use Rattle.ck_read.specs.Block.{map_on}
use Rattle.ck_read.specs.Progress.{ReadFits}
use Rattle.ck_read.specs.declared.progress.ReadProgress.{ReadProgress}
use Rattle.ck_read.proofs.MountedLaws.{replied_gone, replied_without_data, replied_bytes, later_now}
use Rattle.ck_read.proofs.ProgressLaws.{finished_through}
use Rattle.ck_engine.specs.Engine.{data_of, mounts_of, table_of, world_of}
use Rattle.ck_engine.proofs.engine.Engine.read_on.Goals as goal

pub returns-in-More-clause-fits : goal.returns-in-More-clause-fits
returns-in-More-clause-fits g c = λ told actor letter path at len is.
    let before = c.args.self.now in
    let store = store_on (g.D.Disk.means before.disk).shows (data_of before) in
    later_now store (mounts_of before) (table_of before) actor letter path at len c.args.read is c.turn.new.progress (c.in-More.ensures.stands refl) c.in-More.ensures.others
    (subst (λ (b : ℕ). let cells = map_on (store_on (g.D.Disk.means before.disk).shows b) (table_of before) c.args.read.ckpt in ReadFits cells c.args.read → ReadFits cells c.turn.new.progress) c.base-base.ensures.value (c.in-More.ensures.fits told))

pub returns-in-Finished-clause-replied : goal.returns-in-Finished-clause-replied
returns-in-Finished-clause-replied g c = λ told actor letter path at len is.
    let before = c.args.self.now in
    let w = world_of (g.D.Disk.means before.disk).shows before in
    let store = store_on (g.D.Disk.means before.disk).shows (data_of before) in
    ap (answered w) (replied_bytes store (mounts_of before) (table_of before) actor letter path at len c.args.read is c.turn.new.progress (c.in-Finished.ensures.stands refl) c.in-Finished.ensures.others
    (subst (λ (b : ℕ). let cells = map_on (store_on (g.D.Disk.means before.disk).shows b) (table_of before) c.args.read.ckpt in ReadFits cells c.args.read → ReadFits cells c.turn.new.progress) c.base-base.ensures.value (c.in-Finished.ensures.fits told))
    (finished_through c.turn.new.progress (c.in-Finished.ensures.end refl)))

pub returns-in-Gone-clause-replied : goal.returns-in-Gone-clause-replied
returns-in-Gone-clause-replied g c = λ told actor letter path at len is.
    let before = c.args.self.now in
    let w = world_of (g.D.Disk.means before.disk).shows before in
    let store = store_on (g.D.Disk.means before.disk).shows (data_of before) in
    ap (answered w) (replied_gone store (mounts_of before) (table_of before) actor letter path at len c.args.read is (c.in-Gone.ensures.gone.0 refl))
    ∙ ap (λ (p : ReadProgress). answered_with (reply.Gone p.ckpt) w) (sym (c.in-Gone.ensures.unchanged refl))

pub returns-in-NoData-clause-replied : goal.returns-in-NoData-clause-replied
returns-in-NoData-clause-replied g c = λ told actor letter path at len is.
    let before = c.args.self.now in
    let w = world_of (g.D.Disk.means before.disk).shows before in
    let store = store_on (g.D.Disk.means before.disk).shows (data_of before) in
    let without = c.in-NoData.ensures.no_data.0 refl in
    ap (answered w) (replied_without_data store (mounts_of before) (table_of before) actor letter path at len c.args.read is without.0 without.1)
    ∙ ap (λ (p : ReadProgress). answered_with (reply.NoData p.ckpt) w) (sym (c.in-NoData.ensures.unchanged refl))
