use Rattle.std.proofs.Common.{List, ap, sym, subst}
use Rattle.ck_model.specs.declared.entry.Entry.{Entry}
use Rattle.ck_engine.specs.Engine.{disk_of}
use Rattle.ck_volume.specs.Kept.{IsKept}
use Rattle.ck_volume.specs.Told.{told_of}
use Rattle.ck_volume.proofs.volume.Volume.reserve.Goals as goal

pub invariant_of-self : goal.invariant_of-self
invariant_of-self g c =
    let means = g.D.Disk.means in
    let volume = c.args.self.now in
    record {
      kept = subst (λ (es : List Entry). IsKept (means volume.origin.value) (means (disk_of volume.engine)) (told_of volume.told) volume.committed.value volume.spoilt.value (record { engine = volume.engine; history = es; broken = volume.log.broken }))
          (sym c.reserve.ensures.entries) volume.kept;
    }

pub returns-clause-rest : goal.returns-clause-rest
returns-clause-rest g c = ap (λ (es : List Entry). record { engine = c.args.self.now.engine; history = es; broken = c.args.self.now.log.broken }) c.reserve.ensures.entries
