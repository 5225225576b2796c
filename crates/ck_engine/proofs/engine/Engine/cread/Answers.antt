use Rattle.std.proofs.Common.{IsTrue, IfSome, Option, Result, Ok, subst}
use Rattle.ck_model.specs.declared.reply.Reply.{Reply}
use Rattle.ck_model.specs.TableWorld.{world_on}
use Rattle.ck_model.specs.Values.{Store}
use Rattle.ck_data.specs.Device.{store_on}
use Rattle.ck_read.specs.declared.progress.ReadProgress.{ReadProgress}
use Rattle.ck_read.specs.Mounted.{IsReadIn, IsReadNow}
use Rattle.ck_read.proofs.MountedLaws.{read_in_now}
use Rattle.ck_engine.specs.Engine.{data_of, mounts_of, table_of, world_of}
use Rattle.ck_engine.specs.ReadAnswer.{IfBegun}
use Rattle.ck_engine.proofs.AttemptLemmas.{quiet-attempt, reads-attempt}
use Rattle.ck_engine.proofs.ReadLemmas.{device-goes, replied_of, fits_of}
use Rattle.ck_engine.proofs.engine.Engine.cread.Goals as goal

-- ---- it was begun before

pub returns-in-Some-clause-attempt : goal.returns-in-Some-clause-attempt
returns-in-Some-clause-attempt g c =
    let before = c.args.self.now in
    let after = c.read_on.new.self in
    reads-attempt (g.D.Disk.means before.disk) (g.D.Disk.means after.disk) before after (g.met.D.Disk.lawful before.disk) c.read_on.ensures.device

pub returns-in-Some-clause-goes_on : goal.returns-in-Some-clause-goes_on
returns-in-Some-clause-goes_on g c =
    let before = c.args.self.now in
    let after = c.read_on.new.self in
    device-goes (g.D.Disk.means before.disk) (g.D.Disk.means after.disk) before after c.read_on.ensures.device c.read_on.ensures.others c.requires.whole

pub returns-in-Some-clause-replied : goal.returns-in-Some-clause-replied
returns-in-Some-clause-replied g c =
    let before = c.args.self.now in
    let m = g.D.Disk.means before.disk in
    let w = world_of m.shows before in
    let Known = λ (o : Option ReadProgress). IfSome o (IsReadIn w c.args.actor c.args.letter c.args.path.now c.args.at c.args.len) in
    replied_of c.read_on.result c.in-Some.read w (IsTrue m.tells) (Known c.args.begun) c.args.actor c.args.letter c.args.path.now c.args.at c.args.len (subst Known c.in-Some.is) c.read_on.ensures.replied

pub returns-in-Some-clause-fits : goal.returns-in-Some-clause-fits
returns-in-Some-clause-fits g c =
    let before = c.args.self.now in
    let m = g.D.Disk.means before.disk in
    let w = world_of m.shows before in
    let Known = λ (o : Option ReadProgress). IfSome o (IsReadIn w c.args.actor c.args.letter c.args.path.now c.args.at c.args.len) in
    fits_of c.read_on.result c.in-Some.read w (IsTrue m.tells) (Known c.args.begun) c.args.actor c.args.letter c.args.path.now c.args.at c.args.len (subst Known c.in-Some.is) c.read_on.ensures.fits

-- ---- it begins

pub returns-in_err-read-in-None-clause-attempt : goal.returns-in_err-read-in-None-clause-attempt
returns-in_err-read-in-None-clause-attempt g c = quiet-attempt 0 (g.D.Disk.means c.args.self.now.disk) c.args.self.now c.args.self.now (g.met.D.Disk.lawful c.args.self.now.disk)

pub returns-in-Err-clause-attempt : goal.returns-in-Err-clause-attempt
returns-in-Err-clause-attempt g c = quiet-attempt 0 (g.D.Disk.means c.args.self.now.disk) c.args.self.now c.args.self.now (g.met.D.Disk.lawful c.args.self.now.disk)

pub returns-in-Ok-clause-attempt : goal.returns-in-Ok-clause-attempt
returns-in-Ok-clause-attempt g c =
    let before = c.args.self.now in
    let after = c.read_on-in-Ok.new.self in
    reads-attempt (g.D.Disk.means before.disk) (g.D.Disk.means after.disk) before after (g.met.D.Disk.lawful before.disk) c.read_on-in-Ok.ensures.device

pub returns-in-Ok-clause-goes_on : goal.returns-in-Ok-clause-goes_on
returns-in-Ok-clause-goes_on g c =
    let before = c.args.self.now in
    let after = c.read_on-in-Ok.new.self in
    device-goes (g.D.Disk.means before.disk) (g.D.Disk.means after.disk) before after c.read_on-in-Ok.ensures.device c.read_on-in-Ok.ensures.others c.requires.whole

pub returns-in-Ok-clause-replied : goal.returns-in-Ok-clause-replied
returns-in-Ok-clause-replied g c =
    let before = c.args.self.now in
    let m = g.D.Disk.means before.disk in
    let w = world_of m.shows before in
    let now = subst (λ (r : Result ReadProgress Reply). IfBegun (Ok r) (λ read. (store : Store) → IsReadNow (world_on store (mounts_of before) (table_of before)) c.args.actor c.args.letter c.args.path.now c.args.at c.args.len read)) c.in-Ok.is c.in_ok-read-in-None.ensures.fits (store_on m.shows (data_of before)) in
    replied_of c.read_on-in-Ok.result c.in-Ok.read w (IsTrue m.tells) (IfSome c.args.begun (IsReadIn w c.args.actor c.args.letter c.args.path.now c.args.at c.args.len)) c.args.actor c.args.letter c.args.path.now c.args.at c.args.len
    (λ _. read_in_now w c.args.actor c.args.letter c.args.path.now c.args.at c.args.len c.in-Ok.read now) c.read_on-in-Ok.ensures.replied

pub returns-in-Ok-clause-fits : goal.returns-in-Ok-clause-fits
returns-in-Ok-clause-fits g c =
    let before = c.args.self.now in
    let m = g.D.Disk.means before.disk in
    let w = world_of m.shows before in
    let now = subst (λ (r : Result ReadProgress Reply). IfBegun (Ok r) (λ read. (store : Store) → IsReadNow (world_on store (mounts_of before) (table_of before)) c.args.actor c.args.letter c.args.path.now c.args.at c.args.len read)) c.in-Ok.is c.in_ok-read-in-None.ensures.fits (store_on m.shows (data_of before)) in
    fits_of c.read_on-in-Ok.result c.in-Ok.read w (IsTrue m.tells) (IfSome c.args.begun (IsReadIn w c.args.actor c.args.letter c.args.path.now c.args.at c.args.len)) c.args.actor c.args.letter c.args.path.now c.args.at c.args.len
    (λ _. read_in_now w c.args.actor c.args.letter c.args.path.now c.args.at c.args.len c.in-Ok.read now) c.read_on-in-Ok.ensures.fits
