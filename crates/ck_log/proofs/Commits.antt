-- A commit call by call.
use Rattle.std.proofs.Common.{◌≡◌, ◌≢◌, ◌⊎◌, inl, ⊎_elim, ◌==◌, ℕ, Bool, false, IsTrue, not, [], length, refl, sym, ◌∙◌, ap, subst}
use Rattle.std.proofs.lemmas.Bool.{false≢true}
use Rattle.ck_disk.specs.Disk.{Image, Meaning, Lawful, LeavesOnly, Reaches, Outside, Agrees, IsSynced}
use Rattle.ck_disk.proofs.MomentLaws.{leaves_more, leaves_both, leaves_now, synced_only, agrees_less, agrees_on}
use Rattle.ck_log.specs.Layout.{Layout, OutsideGateAndAreas, table_blocks, area_at}
use Rattle.ck_log.specs.Images.{part, table_on, HasTable, HasBefore, HasAfter, Settled}
use Rattle.ck_log.specs.Group.{IsWhole}
use Rattle.ck_log.proofs.AreaLaws.{outside_area, others_gate}
use Rattle.ck_log.proofs.Phases.{staged, opened}

pub told_on : (old new : Bool) → new ≡ old → IsTrue old → IsTrue new
told_on old new same told = subst (λ (b : Bool). IsTrue b) (sym same) told

-- what a test for none says
pub some_blocks : (n : ℕ) → false ≡ (n == 0) → n ≢ 0
some_blocks n test none = absurd (false≢true (test ∙ ap (λ (m : ℕ). m == 0) none))

-- blocks that are there are as many as the table's
pub whole_blocks : (layout : Layout) (table : Image) → IsWhole layout table → length table ≢ 0 → length table ≡ table_blocks layout.records
whole_blocks layout table whole some =
    ⊎_elim
    (λ (none : table ≡ []). absurd (some (ap length none)))
    (λ (all : length table ≡ table_blocks layout.records). all)
    whole

-- what reads give outside the gate and both areas
pub others_after_run : (layout : Layout) (second : Bool) (free n : ℕ) (d c : Image) → free ≡ area_at layout.records second → n ≡ table_blocks layout.records → Agrees (Outside free n) d c → Agrees (OutsideGateAndAreas layout.records) d c
others_after_run layout second free n d c is_free long same =
    agrees_less (Outside free n) (OutsideGateAndAreas layout.records) d c
    (outside_area layout.records second free n is_free long) same

pub others_after_gate : (layout : Layout) (d s c : Image) → Agrees (OutsideGateAndAreas layout.records) d s → Agrees (Outside 1 1) s c → Agrees (OutsideGateAndAreas layout.records) d c
others_after_gate layout d s c before same =
    agrees_on (OutsideGateAndAreas layout.records) d s c before (agrees_less (Outside 1 1) (OutsideGateAndAreas layout.records) s c (others_gate layout.records) same)

module _ (layout : Layout) (before table : Image) (old : Meaning) (settled : IsTrue old.tells → (c : Image) → old.may_leave c → HasTable layout before c) where
  abbrev pub Either : Image → Type 0
  Either c = IsTrue old.tells → HasBefore layout before old.may_leave c ⊎ HasAfter layout table old.shows c

  module _ (run : Meaning) (free n : ℕ) (is_free : free ≡ area_at layout.records (not layout.second)) (long : n ≡ table_blocks layout.records)
      (ran : LeavesOnly old run (Reaches (Outside free n) old.may_leave)) where
    unnamed : (c : Image) → Reaches (Outside free n) old.may_leave c → Reaches (Outside (area_at layout.records (not layout.second)) (table_blocks layout.records)) old.may_leave c
    unnamed c from =
        subst (λ (m : ℕ). Reaches (Outside (area_at layout.records (not layout.second)) m) old.may_leave c) long (subst (λ (p : ℕ). Reaches (Outside p n) old.may_leave c) is_free from)

    -- the other area is written
    pub after_run : LeavesOnly old run Either
    after_run = leaves_more old run (Reaches (Outside free n) old.may_leave) Either (λ c from told. inl (staged layout before table old.may_leave (settled told) c (unnamed c from))) ran

    -- the table stands there
    pub in_area : part free n run.shows ≡ table → part (area_at layout.records (not layout.second)) (table_blocks layout.records) run.shows ≡ table
    in_area written = subst (λ (m : ℕ). part (area_at layout.records (not layout.second)) m run.shows ≡ table) long (subst (λ (p : ℕ). part p n run.shows ≡ table) is_free written)

    -- the gate is written, to a disk whose one image has the table in that area
    pub after_gate : (gated : Meaning) → Lawful run → (IsTrue old.tells → part free n run.shows ≡ table) → (IsTrue old.tells → Agrees (Outside free n) old.shows run.shows) → IsSynced run
        → LeavesOnly run gated (Reaches (Outside 1 1) run.may_leave) → LeavesOnly old gated Either
    after_gate gated law written stands synced more = leaves_both old run gated Either after_run (leaves_more run gated (Reaches (Outside 1 1) run.may_leave) Either (λ c from told.
        let told_run = told_on _ _ ran.tells told in
        opened layout before table old.may_leave (settled told) old.shows run.shows c
        (unnamed run.shows (leaves_now old run (Reaches (Outside free n) old.may_leave) law ran run.shows (law.shown told_run)))
        (others_after_run layout (not layout.second) free n old.shows run.shows is_free long (stands told))
        (in_area (written told))
        (subst (λ (d : Image). Agrees (Outside 1 1) d c) (synced_only run law told_run synced from.0 from.1) from.2)) more)

-- a synced disk whose one image has a table is settled
pub settles : (layout : Layout) (m : Meaning) → Lawful m → IsSynced m → (IsTrue m.tells → (blocks : Image) × HasTable layout blocks m.shows) → Settled layout m
settles layout m law synced has told c left =
    let there = (has told).1 in
    subst (λ (d : Image). HasTable layout (table_on layout m.shows) d) (sym (synced_only m law told synced c left)) (record { gate = there.gate; table = refl })
