use Rattle.std.proofs.Common.{◌≡◌, ◌≤◌, ⊎_elim, ℕ, Result, Ok, Err, IfOk, OnOk, OnErr, MatchBool, sym, subst, rules}
use Rattle.ck_data.specs.declared.fault.Fault.{Fault}
use Rattle.ck_data.specs.declared.fault.Fault.TheVariants as fault
use Rattle.ck_disk.specs.Disk.{Meaning}
use Rattle.ck_model.specs.declared.reply.Reply.{Reply}
use Rattle.ck_model.specs.Space.{without_picks}
use Rattle.ck_model.specs.World.{World}
use Rattle.ck_model.specs.Step.{step}
use Rattle.ck_files.specs.Room.{answered_after}
use Rattle.ck_engine.specs.declared.engine.Engine.{Engine}
use Rattle.ck_engine.specs.Engine.{disk_of, world_of, GoesOnGiving, GoesOnGivingOrBreaks}
use Rattle.ck_volume.specs.Present.{present}
use Rattle.ck_volume.proofs.CutsAfter.{survives-giving, keeps-giving}
use Rattle.ck_volume.proofs.event.answer.Goals as goal

no_write : (f : Fault) → f ≡ fault.NoMemory → f ≡ fault.WriteFault → ⊥
no_write f is write = cc

no_lost_write : (f : Fault) → f ≡ fault.ReadFault → f ≡ fault.WriteFault → ⊥
no_lost_write f is write = cc

module _ {A E : Type 0} (r : Result A E) where
  ok_is : (P : A → Type 0) (x : A) → r ≡ Ok x → IfOk r P → P x
  ok_is P x is h = subst (λ r. IfOk r P) is h

  done_is : (X : Type 0) (x : A) → r ≡ Ok x → OnOk r X → X
  done_is X x is h = subst (λ r. OnOk r X) is h

  err_is : (X : Type 0) (e : E) → r ≡ Err e → OnErr r X → X
  err_is X e is h = subst (λ r. OnErr r X) is h

-- where no write failed the files go on
module _ {D : Type 0} (given : ℕ) (old new : Meaning) (before after : Engine D) (r : Result Reply Fault) (goes : GoesOnGivingOrBreaks given old new before after r) where
  goes_done : (reply : Reply) → r ≡ Ok reply → GoesOnGiving given old new before after
  goes_done reply is = subst (λ r. GoesOnGivingOrBreaks given old new before after r) is goes

  goes_failed : (f : Fault) → r ≡ Err f → (f ≡ fault.WriteFault → ⊥) → GoesOnGiving given old new before after
  goes_failed f is other =
      ⊎_elim (λ (lost : f ≡ fault.WriteFault). absurd (other lost)) (λ (on : GoesOnGiving given old new before after). on)
      (subst (λ r. GoesOnGivingOrBreaks given old new before after r) is goes)

pub returns-in-Ok-clause-answers : goal.returns-in-Ok-clause-answers
returns-in-Ok-clause-answers g c = λ told texts.
    let w : World = world_of (g.D.Disk.means (disk_of c.args.engine.now)).shows c.args.engine.now in
    let next : World = world_of (g.D.Disk.means (disk_of c.answer-count.new.self)).shows c.answer-count.new.self in
    let given = c.answer-count.result.count in
    let outcome = step texts w c.args.actor c.args.moment c.args.call.now in
    subst (λ b. MatchBool b ((next ≡ without_picks given w) × (given ≤ outcome.given)) (outcome ≡ answered_after given c.in-Ok.answer next))
    (sym (ok_is c.answer-count.result.answer _ c.in-Ok.answer c.in-Ok.is c.answer-count.ensures.ordinary))
    (ok_is c.answer-count.result.answer _ c.in-Ok.answer c.in-Ok.is c.answer-count.ensures.ok told texts)

pub returns-in-Ok-clause-synced : goal.returns-in-Ok-clause-synced
returns-in-Ok-clause-synced g c = λ is_sync ordinary told w keeps.
    done_is c.answer-count.result.answer _ c.in-Ok.answer c.in-Ok.is (c.answer-count.ensures.synced is_sync) told w keeps

pub returns-in-Ok-clause-survives : goal.returns-in-Ok-clause-survives
returns-in-Ok-clause-survives g c =
    survives-giving c.answer-count.result.count (g.D.Disk.means (disk_of c.args.engine.now)) (g.D.Disk.means (disk_of c.answer-count.new.self)) (present c.args.engine.now c.args.log.now) c.answer-count.ensures.attempt.survives

pub returns-in-Ok-clause-kept : goal.returns-in-Ok-clause-kept
returns-in-Ok-clause-kept g c = λ unbroken told w keeps.
    let given = c.answer-count.result.count in
    let before = c.args.engine.now in
    let after = c.answer-count.new.self in
    let old = g.D.Disk.means (disk_of before) in
    let new = g.D.Disk.means (disk_of after) in
    let goes = goes_done given old new before after c.answer-count.result.answer c.answer-count.ensures.goes_on c.in-Ok.answer c.in-Ok.is in
    keeps-giving given new (present after c.args.log.now) w (world_of old.shows before) (goes.kept told w keeps)

pub returns-in-Err-WriteFault-clause-answers : goal.returns-in-Err-WriteFault-clause-answers
returns-in-Err-WriteFault-clause-answers g c = λ told texts.
    let result = c.answer-count.result.answer in
    let arm = c.in-Err-WriteFault in
    (err_is result _ arm.field-0 arm.is c.answer-count.ensures.err told, err_is result _ arm.field-0 arm.is c.answer-count.ensures.few texts)

pub returns-in-Err-WriteFault-clause-survives : goal.returns-in-Err-WriteFault-clause-survives
returns-in-Err-WriteFault-clause-survives g c =
    survives-giving c.answer-count.result.count (g.D.Disk.means (disk_of c.args.engine.now)) (g.D.Disk.means (disk_of c.answer-count.new.self)) (present c.args.engine.now c.args.log.now) c.answer-count.ensures.attempt.survives

pub returns-in-Err-ReadFault-clause-answers : goal.returns-in-Err-ReadFault-clause-answers
returns-in-Err-ReadFault-clause-answers g c = λ told texts.
    let result = c.answer-count.result.answer in
    let arm = c.in-Err-ReadFault in
    (err_is result _ arm.field-0 arm.is c.answer-count.ensures.err told, err_is result _ arm.field-0 arm.is c.answer-count.ensures.few texts)

pub returns-in-Err-ReadFault-clause-survives : goal.returns-in-Err-ReadFault-clause-survives
returns-in-Err-ReadFault-clause-survives g c =
    survives-giving c.answer-count.result.count (g.D.Disk.means (disk_of c.args.engine.now)) (g.D.Disk.means (disk_of c.answer-count.new.self)) (present c.args.engine.now c.args.log.now) c.answer-count.ensures.attempt.survives

pub returns-in-Err-ReadFault-clause-kept : goal.returns-in-Err-ReadFault-clause-kept
returns-in-Err-ReadFault-clause-kept g c = λ unbroken told w keeps.
    let read : c.in-Err-ReadFault.field-0 ≡ fault.ReadFault = search rules in
    let given = c.answer-count.result.count in
    let before = c.args.engine.now in
    let after = c.answer-count.new.self in
    let old = g.D.Disk.means (disk_of before) in
    let new = g.D.Disk.means (disk_of after) in
    let goes = goes_failed given old new before after c.answer-count.result.answer c.answer-count.ensures.goes_on c.in-Err-ReadFault.field-0 c.in-Err-ReadFault.is (no_lost_write c.in-Err-ReadFault.field-0 read) in
    keeps-giving given new (present after c.args.log.now) w (world_of old.shows before) (goes.kept told w keeps)

pub returns-in-Err-NoMemory-clause-answers : goal.returns-in-Err-NoMemory-clause-answers
returns-in-Err-NoMemory-clause-answers g c = λ told texts.
    let result = c.answer-count.result.answer in
    let arm = c.in-Err-NoMemory in
    (err_is result _ arm.field-0 arm.is c.answer-count.ensures.err told, err_is result _ arm.field-0 arm.is c.answer-count.ensures.few texts)

pub returns-in-Err-NoMemory-clause-survives : goal.returns-in-Err-NoMemory-clause-survives
returns-in-Err-NoMemory-clause-survives g c =
    survives-giving c.answer-count.result.count (g.D.Disk.means (disk_of c.args.engine.now)) (g.D.Disk.means (disk_of c.answer-count.new.self)) (present c.args.engine.now c.args.log.now) c.answer-count.ensures.attempt.survives

pub returns-in-Err-NoMemory-clause-kept : goal.returns-in-Err-NoMemory-clause-kept
returns-in-Err-NoMemory-clause-kept g c = λ unbroken told w keeps.
    let none : c.in-Err-NoMemory.field-0 ≡ fault.NoMemory = search rules in
    let given = c.answer-count.result.count in
    let before = c.args.engine.now in
    let after = c.answer-count.new.self in
    let old = g.D.Disk.means (disk_of before) in
    let new = g.D.Disk.means (disk_of after) in
    let goes = goes_failed given old new before after c.answer-count.result.answer c.answer-count.ensures.goes_on c.in-Err-NoMemory.field-0 c.in-Err-NoMemory.is (no_write c.in-Err-NoMemory.field-0 none) in
    keeps-giving given new (present after c.args.log.now) w (world_of old.shows before) (goes.kept told w keeps)
