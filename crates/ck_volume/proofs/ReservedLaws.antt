-- A volume whose room alone may differ.
use Rattle.std.proofs.Common.{sym, subst}
use Rattle.ck_disk.specs.Disk.{Meaning}
use Rattle.ck_disk.specs.declared.disk.Disk.{Ghosts}
use Rattle.ck_volume.specs.declared.volume.Volume.{Volume}
use Rattle.ck_volume.specs.Present.{Present}
use Rattle.ck_volume.specs.Present as now
use Rattle.ck_volume.specs.Volume.{disk_of, KeepsAllButRoom, IsBegun}

pub begun-reserved : {D : Type 0} {g : Ghosts D} (means : D → Meaning) (before after : Volume D g) → KeepsAllButRoom before after → IsBegun (means (disk_of before)) before → IsBegun (means (disk_of after)) after
begun-reserved {D} means before after keeps begun = subst (λ (v : Present D). now.IsBegun (means (now.disk_of v)) v) (sym keeps) begun
