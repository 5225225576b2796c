-- A commit that did nothing, and one that wrote blocks.
use Rattle.std.proofs.Common.{◌≡◌, ◌<◌, [], ◌∷◌, length, inl, refl, ap, ◌∙◌, arith}
use Rattle.ck_disk.specs.Disk.{Image, Meaning, Lawful, LeavesOnly}
use Rattle.ck_disk.proofs.MomentLaws.{leaves_start, agrees_same}
use Rattle.ck_log.specs.Layout.{Layout, OutsideGateAndAreas}
use Rattle.ck_log.specs.Images.{Settled, CommitLeaves}
use Rattle.ck_log.specs.Group.{table_after}

-- before anything is written
pub nothing_left : (layout : Layout) (after : Image) (m : Meaning) → Lawful m → Settled layout m → LeavesOnly m m (CommitLeaves layout after m)
nothing_left layout after m law settled =
    leaves_start m (CommitLeaves layout after m) law (λ image left told. inl (record {
      table = (settled told image left).table;
      others = (image, left, agrees_same (OutsideGateAndAreas layout.records) image);
    }))

-- blocks that are there take the table's place
some_after : (before table : Image) → 0 < length table → table_after before table ≡ table
some_after before [] some = absurd (omega (arith, some))
some_after before (first ∷ rest) some = refl

pub same_after : (before table blocks : Image) → table ≡ blocks → 0 < length blocks → table_after before table ≡ blocks
same_after before table blocks is some = ap (table_after before) is ∙ some_after before blocks some
