use Rattle.std.proofs.Common.{refl}
use Rattle.ck_engine.specs.Recovery.{BadFormat, Damaged}
use Rattle.ck_admin.specs.Refusals.{bad_format_words, damaged_words}
use Rattle.ck_admin.proofs.VolumeLemmas.{refused_status}
use Rattle.ck_admin.proofs.volume.open.Goals as goal

pub returns-in-Err-BadFormat-clause-refused : goal.returns-in-Err-BadFormat-clause-refused
returns-in-Err-BadFormat-clause-refused g c =
    rw c.not_opened-in-Err-BadFormat.ensures
    (refused_status (g.D.Disk.means c.args.disk) (g.D.Disk.means c.in-Err-BadFormat.disk) (BadFormat c.in-Err-BadFormat.version) (bad_format_words c.in-Err-BadFormat.version) c.bad_format.result c.bad_format.ensures refl (rw c.in-Err-BadFormat.field-0-is at c.in-Err-BadFormat.ensures.fault))

pub returns-in-Err-Damaged-clause-refused : goal.returns-in-Err-Damaged-clause-refused
returns-in-Err-Damaged-clause-refused g c =
    rw c.not_opened-in-Err-Damaged.ensures
    (refused_status (g.D.Disk.means c.args.disk) (g.D.Disk.means c.in-Err-Damaged.disk) (Damaged c.in-Err-Damaged.block c.in-Err-Damaged.slot) (damaged_words c.in-Err-Damaged.block c.in-Err-Damaged.slot) c.damaged.result c.damaged.ensures refl (rw c.in-Err-Damaged.field-0-is at c.in-Err-Damaged.ensures.fault))
