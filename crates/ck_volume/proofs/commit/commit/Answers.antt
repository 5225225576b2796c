use Rattle.std.proofs.Common.{◌≡◌, ⊎_elim, ap, rules}
use Rattle.ck_data.specs.declared.fault.Fault.{Fault}
use Rattle.ck_data.specs.declared.fault.Fault.TheVariants as fault
use Rattle.ck_engine.specs.Engine.{disk_of, GoesOn}
use Rattle.ck_volume.specs.Present.{present}
use Rattle.ck_volume.proofs.commit.commit.Goals as goal

no_write : (f : Fault) → f ≡ fault.NoMemory → f ≡ fault.WriteFault → ⊥
no_write f is write = cc

-- nothing was written, or it stays as it was
pub returns-in-Err-NoMemory-clause-kept : goal.returns-in-Err-NoMemory-clause-kept
returns-in-Err-NoMemory-clause-kept g c = λ unbroken told w keeps.
    let before = c.args.engine.now in
    let after = c.commit.new.self in
    let memory : c.in-Err-NoMemory.field-0 ≡ fault.NoMemory = search rules in
    ⊎_elim
    (λ (is : c.in-Err-NoMemory.field-0 ≡ fault.WriteFault). absurd (no_write c.in-Err-NoMemory.field-0 memory is))
    (λ (goes : GoesOn (g.D.Disk.means (disk_of before)) (g.D.Disk.means (disk_of after)) before after). goes.kept told w keeps)
    c.in-Err-NoMemory.ensures.goes_on

pub returns-in-Ok-clause-committed : goal.returns-in-Ok-clause-committed
returns-in-Ok-clause-committed g c = λ done told w keeps. c.in-Ok.ensures.committed told w keeps

pub returns-in-Ok-clause-exact : goal.returns-in-Ok-clause-exact
returns-in-Ok-clause-exact g c = λ none done told w keeps image left. c.in-Ok.ensures.exact none told w keeps image left

-- refused memory leaves the files as they were
pub returns-in-Err-NoMemory-clause-no_memory : goal.returns-in-Err-NoMemory-clause-no_memory
returns-in-Err-NoMemory-clause-no_memory g c = λ is.
    let memory : c.in-Err-NoMemory.field-0 ≡ fault.NoMemory = search rules in
    ap (λ engine. present engine c.args.log.now) (c.in-Err-NoMemory.ensures.no_memory memory)
