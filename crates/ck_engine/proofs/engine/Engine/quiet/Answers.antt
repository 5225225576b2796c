use Rattle.std.proofs.Common.{inr, sym, subst, ◌∙◌}
use Rattle.ck_log.specs.Layout.{base_of}
use Rattle.ck_model.specs.TableWorld.{world_on}
use Rattle.ck_data.specs.Device.{store_on}
use Rattle.ck_files.specs.Room.{answered_with}
use Rattle.ck_engine.specs.Engine.{IsAttempt, GoesOn, table_of, mounts_of, data_of}
use Rattle.ck_engine.proofs.AttemptLemmas.{quiet-attempt, quiet-goes}
use Rattle.ck_engine.proofs.engine.Engine.quiet.Goals as goal

pub returns-in-Ok-clause-attempt : goal.returns-in-Ok-clause-attempt
returns-in-Ok-clause-attempt g c =
    let before = c.args.self.now in
    let after = c.answer_quietly.new.self in
    let e = c.answer_quietly.ensures in
    subst (λ d. IsAttempt (g.D.Disk.means before.disk) (g.D.Disk.means d) before after) (sym e.disk) (quiet-attempt 0 (g.D.Disk.means before.disk) before after (g.met.D.Disk.lawful before.disk))

pub returns-in-Err-clause-attempt : goal.returns-in-Err-clause-attempt
returns-in-Err-clause-attempt g c =
    let before = c.args.self.now in
    let after = c.answer_quietly.new.self in
    let e = c.answer_quietly.ensures in
    subst (λ d. IsAttempt (g.D.Disk.means before.disk) (g.D.Disk.means d) before after) (sym e.disk) (quiet-attempt 0 (g.D.Disk.means before.disk) before after (g.met.D.Disk.lawful before.disk))

pub returns-in-Ok-clause-goes_on : goal.returns-in-Ok-clause-goes_on
returns-in-Ok-clause-goes_on g c =
    let before = c.args.self.now in
    let after = c.answer_quietly.new.self in
    let e = c.answer_quietly.ensures in
    subst (λ d. GoesOn (g.D.Disk.means before.disk) (g.D.Disk.means d) before after) (sym e.disk) (quiet-goes 0 (g.D.Disk.means before.disk) before after c.requires.whole e.region e.files e.busy e.stripped)

pub returns-in-Err-clause-goes_on : goal.returns-in-Err-clause-goes_on
returns-in-Err-clause-goes_on g c =
    let before = c.args.self.now in
    let after = c.answer_quietly.new.self in
    let e = c.answer_quietly.ensures in
    inr (subst (λ d. GoesOn (g.D.Disk.means before.disk) (g.D.Disk.means d) before after) (sym e.disk) (quiet-goes 0 (g.D.Disk.means before.disk) before after c.requires.whole e.region e.files e.busy e.stripped))

pub returns-in-Ok-clause-ok : goal.returns-in-Ok-clause-ok
returns-in-Ok-clause-ok g c = λ texts.
    let before = c.args.self.now in
    let after = c.answer_quietly.new.self in
    let e = c.answer_quietly.ensures in
    let store = store_on (g.D.Disk.means before.disk).shows (data_of before) in
    c.in-Ok.ensures.ok store texts
    ∙ (λ i. answered_with c.in-Ok.reply (world_on (store_on (g.D.Disk.means (sym e.disk i)).shows (base_of (sym e.region i).records)) (mounts_of after) (table_of after)))
