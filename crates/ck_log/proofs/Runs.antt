-- One run of writes within another.
use Rattle.std.proofs.Common.{ℕ}
use Rattle.ck_disk.specs.Disk.{Image, Meaning, Lawful, LeavesOnly, Reaches}
use Rattle.ck_disk.proofs.MomentLaws.{leaves_start, leaves_more, leaves_both, leaves_now, agrees_same, agrees_less, agrees_on}

-- before the first write
pub reaches_start : (K : ℕ → Type 0) (m : Meaning) → Lawful m → LeavesOnly m m (Reaches K m.may_leave)
reaches_start K m law = leaves_start m (Reaches K m.may_leave) law (λ c left. (c, left, agrees_same K c))

-- images of images
pub reaches_on : (K L : ℕ → Type 0) (all mid : Image → Type 0) → ((k : ℕ) → K k → L k) → ((d : Image) → mid d → Reaches K all d) → (c : Image) → Reaches L mid c → Reaches K all c
reaches_on K L all mid less so_far c from =
    let was = so_far from.0 from.1 in
    (was.0, was.1, agrees_on K was.0 from.0 c was.2 (agrees_less L K from.0 c less from.2))

-- a run that leaves L as it is, after one that leaves K as it is, where K lies in L
pub runs_on : (K L : ℕ → Type 0) (old mid new : Meaning) → ((k : ℕ) → K k → L k) → Lawful mid → LeavesOnly old mid (Reaches K old.may_leave) → LeavesOnly mid new (Reaches L mid.may_leave)
    → LeavesOnly old new (Reaches K old.may_leave)
runs_on K L old mid new less law so_far more =
    leaves_both old mid new (Reaches K old.may_leave) so_far
    (leaves_more mid new (Reaches L mid.may_leave) (Reaches K old.may_leave) (reaches_on K L old.may_leave mid.may_leave less (leaves_now old mid (Reaches K old.may_leave) law so_far)) more)
