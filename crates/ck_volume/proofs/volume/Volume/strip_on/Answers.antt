use Rattle.std.proofs.Common.{sym, subst}
use Rattle.ck_engine.specs.Engine.{disk_of}
use Rattle.ck_volume.specs.Kept.{IsKept}
use Rattle.ck_volume.specs.Present.{present}
use Rattle.ck_volume.specs.Told.{told_of}
use Rattle.ck_volume.proofs.QuietLemmas.{kept-quietly}
use Rattle.ck_volume.proofs.StoodLaws.{ready-known}
use Rattle.ck_volume.proofs.volume.Volume.strip_on.Goals as goal

pub strip-requires : goal.strip-requires
strip-requires g c =
    let volume = c.args.self.now in
    record { ready = ready-known (g.D.Disk.means (disk_of volume.engine)) (present volume.engine volume.log) volume.kept.ready }

pub invariant_of-self : goal.invariant_of-self
invariant_of-self g c =
    let means = g.D.Disk.means in
    let volume = c.args.self.now in
    let e = c.strip.ensures in
    record {
      kept = subst (λ d. IsKept (means volume.origin.value) (means d) (told_of volume.told) volume.committed.value volume.spoilt.value (present c.strip.new.engine volume.log)) (sym e.disk)
          (kept-quietly (means volume.origin.value) (means (disk_of volume.engine)) (g.met.D.Disk.lawful (disk_of volume.engine)) (told_of volume.told) volume.committed.value volume.spoilt.value volume.engine c.strip.new.engine volume.log
          volume.kept e.ready e.world e.survives e.kept);
    }
