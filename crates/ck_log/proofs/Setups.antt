-- What makes a new volume, call by call.
use Rattle.std.proofs.Common.{◌≡◌, ◌≢◌, inl, inr, ⊎_elim, ◌≤◌, ◌<◌, ◌+◌, ◌-◌, ◌==◌, ℕ, false, IsTrue, List, [], length, get_or, set, replicate, refl, sym, ◌∙◌, ap, subst, arith, get_or-set_same}
use Rattle.std.proofs.lemmas.List.{length-set}
use Rattle.ck_disk.specs.Disk.{Image, Meaning, Lawful, Step, LeavesOnly, Reaches, Outside, Agrees, IsSynced, TearsAt}
use Rattle.ck_disk.proofs.MomentLaws.{writes_on, leaves_more, leaves_both, leaves_now, synced_only, agrees_set, agrees_on, agrees_less}
use Rattle.ck_log.specs.Layout.{Layout, IsSized, OutsideGateAndAreas, table_blocks, area_at, base_of, size_of}
use Rattle.ck_log.specs.Header.{Opens, header_of, recovered_by}
use Rattle.ck_log.specs.Images.{part, names_second, recovered_region, HasTable}
use Rattle.ck_log.specs.FirstTable.{blank_block, first_block, first_table, WholeOrBefore}
use Rattle.ck_log.proofs.Parts.{part_first}
use Rattle.ck_log.proofs.AreaLaws.{first_area-low, area_low, others_gate, outside_both, table_at}
use Rattle.ck_log.proofs.Commits.{told_on}
use Rattle.ck_log.proofs.Phases.{apart_gate, same_gate, put_gate}
use Rattle.ck_log.proofs.RecoveryLaws.{recovered_read, recovered_by-header_of, has_table-agrees}
use Rattle.ck_log.proofs.Runs.{reaches_start, runs_on}

-- places outside a run lie outside its first block, and outside the rest
pub apart_first : (at n : ℕ) → 1 ≤ n → (k : ℕ) → Outside at n k → k ≢ at
apart_first at n some k outside same = ⊎_elim (λ (h : k < at). omega arith) (λ (h : at + n ≤ k). omega arith) outside

pub outside_rest : (at n : ℕ) → 1 ≤ n → (k : ℕ) → Outside at n k → Outside (at + 1) (n - 1) k
outside_rest at n some k outside = ⊎_elim (λ (h : k < at). inl (omega arith)) (λ (h : at + n ≤ k). inr (omega arith)) outside

-- the first table, its first block written and then the others
pub first_written : (s mid new : Image) (at n : ℕ) → 1 ≤ n → at < length s → mid ≡ set s at first_block → Agrees (Outside (at + 1) (n - 1)) mid new
    → part (at + 1) (n - 1) new ≡ replicate (n - 1) blank_block → part at n new ≡ first_table n
first_written s mid new at n some lt put others behind =
    let long : at < length new = omega (arith, others.size, ap length put, length-set s at first_block) in
    part_first new at n first_block (replicate (n - 1) blank_block) some long
    (others.at at (inl (omega arith)) ∙ ap (λ (l : Image). get_or l at []) put ∙ get_or-set_same s at first_block [] lt) behind

-- a first write, and then a run
pub write_run_on : (K L : ℕ → Type 0) (old mid new : Meaning) (at : ℕ) → ((k : ℕ) → K k → k ≢ at) → ((k : ℕ) → K k → L k) → Lawful old → Lawful mid → Step old mid → TearsAt at old.may_leave mid.may_leave
    → LeavesOnly mid new (Reaches L mid.may_leave) → LeavesOnly old new (Reaches K old.may_leave)
write_run_on K L old mid new at apart less law law_mid step torn more =
    runs_on K L old mid new less law_mid (writes_on K old old mid at apart law (reaches_start K old law) step torn) more

pub write_run_others : (K L : ℕ → Type 0) (s mid new : Image) (at : ℕ) → ((k : ℕ) → K k → k ≢ at) → ((k : ℕ) → K k → L k) → (b : List ℕ) × (mid ≡ set s at b) → Agrees L mid new → Agrees K s new
write_run_others K L s mid new at apart less put same =
    agrees_on K s mid new (subst (λ (l : Image). Agrees K s l) (sym put.1) (agrees_set K s at put.0 apart)) (agrees_less L K mid new less same)

-- the gate apart from all that lies outside it and both areas
pub apart_others : (records : ℕ) (k : ℕ) → OutsideGateAndAreas records k → k ≢ 1
apart_others records k outside = apart_gate k (others_gate records k outside)

-- a gate that is written before the first table
pub gate_stays : (s mid new : Image) (gate : List ℕ) (records free n : ℕ) → 1 < length s → (get_or gate 0 0 == 71) ≡ false → mid ≡ set s 1 gate → free ≡ area_at records false → Agrees (Outside free n) mid new → names_second new ≡ false
gate_stays s mid new gate records free n long byte put is_free same =
    same_gate (Outside free n) mid new (inl (omega (arith, is_free, area_low records false))) same ∙ ap names_second put ∙ put_gate s gate false long byte

-- what lies behind both areas
above : (records k : ℕ) → Outside 0 (base_of records) k → OutsideGateAndAreas records k
above records k outside = outside_both records k (⊎_elim (λ (h : k < 0). inl (omega arith)) (λ (h : 0 + base_of records ≤ k). inr (omega (arith, first_area-low records))) outside)

behind_header : (records k : ℕ) → Outside 0 (base_of records) k → Outside 0 1 k
behind_header records k outside = ⊎_elim (λ (h : k < 0). inl h) (λ (h : 0 + base_of records ≤ k). inr (omega (arith, first_area-low records))) outside

-- while the table is written, the header is as before
pub while_table : (layout : Layout) (all : Image → Type 0) (c : Image) → Reaches (OutsideGateAndAreas layout.records) all c → WholeOrBefore layout all c
while_table layout all c from = record {
  header = inl from;
  others = (from.0, from.1, agrees_less (OutsideGateAndAreas layout.records) (Outside 0 (base_of layout.records)) from.0 c (above layout.records) from.2);
}

-- while the header is written, the table is whole
pub while_header : (layout : Layout) (all : Image → Type 0) (s c : Image) → HasTable layout (first_table (table_blocks layout.records)) s
    → Reaches (OutsideGateAndAreas layout.records) all s → Agrees (Outside 0 1) s c → WholeOrBefore layout all c
while_header layout all s c has from same = record {
  header = inr (has_table-agrees layout (first_table (table_blocks layout.records)) (Outside 0 1) s c (λ k low lt. inr low) same has);
  others = (
    from.0,
    from.1,
    agrees_on (Outside 0 (base_of layout.records)) from.0 s c
        (agrees_less (OutsideGateAndAreas layout.records) (Outside 0 (base_of layout.records)) from.0 s (above layout.records) from.2)
        (agrees_less (Outside 0 1) (Outside 0 (base_of layout.records)) s c (behind_header layout.records) same),
  );
}

-- a gate that names the first area, with the table there
pub first_has : (blocks records : ℕ) (c : Image) → names_second c ≡ false → part (area_at records false) (table_blocks records) c ≡ first_table (table_blocks records)
    → HasTable (record { blocks = blocks; records = records; second = false }) (first_table (table_blocks records)) c
first_has blocks records c gate is = record { gate = gate; table = table_at (record { blocks = blocks; records = records; second = false }) c false gate ∙ is }

-- the header stands there
pub header_put : (blocks records : ℕ) (mid new : Image) (header : List ℕ) → 0 < length mid → header ≡ header_of blocks records → new ≡ set mid 0 header → get_or new 0 [] ≡ header_of blocks records
header_put blocks records mid new header some is put = ap (λ (s : Image). get_or s 0 []) put ∙ get_or-set_same mid 0 header [] some ∙ is

-- with its header there is a volume
pub new_volume : (blocks records : ℕ) (mid new : Image) (header : List ℕ) → IsSized blocks records → size_of blocks records ≤ length mid → 0 < length mid
    → names_second mid ≡ false → header ≡ header_of blocks records → new ≡ set mid 0 header → Agrees (Outside 0 1) mid new
    → recovered_region new ≡ Opens (record { blocks = blocks; records = records; second = false })
new_volume blocks records mid new header sized long some gate is put same =
    recovered_read new new false (length mid) (Opens (record { blocks = blocks; records = records; second = false })) refl
    (sym (same_gate (Outside 0 1) mid new (inr (omega arith)) same ∙ gate)) (sym same.size)
    (ap (λ (b : List ℕ). recovered_by b false (length mid)) (header_put blocks records mid new header some is put)
    ∙ recovered_by-header_of blocks records false (length mid) sized long)

module _ (blocks records : ℕ) (old mid : Meaning) where
  abbrev made : Layout
  made = record { blocks = blocks; records = records; second = false }

  abbrev Made : Image → Type 0
  Made c = IsTrue old.tells → WholeOrBefore made old.may_leave c

  module _ (ran : LeavesOnly old mid (Reaches (OutsideGateAndAreas records) old.may_leave)) where
    -- the table first
    pub table_first : LeavesOnly old mid Made
    table_first = leaves_more old mid (Reaches (OutsideGateAndAreas records) old.may_leave) Made (λ c from told. while_table made old.may_leave c from) ran

  -- and then the header
  pub header_last : (new : Meaning) → Lawful mid → (ran : LeavesOnly old mid (Reaches (OutsideGateAndAreas records) old.may_leave))
      → (IsTrue old.tells → names_second mid.shows ≡ false) → (IsTrue old.tells → part (area_at records false) (table_blocks records) mid.shows ≡ first_table (table_blocks records))
      → IsSynced mid → LeavesOnly mid new (Reaches (Outside 0 1) mid.may_leave) → LeavesOnly old new Made
  header_last new law ran gate table synced more = leaves_both old mid new Made (table_first ran) (leaves_more mid new (Reaches (Outside 0 1) mid.may_leave) Made (λ c from told.
      let told_mid = told_on _ _ ran.tells told in
      while_header made old.may_leave mid.shows c (first_has blocks records mid.shows (gate told) (table told))
      (leaves_now old mid (Reaches (OutsideGateAndAreas records) old.may_leave) law ran mid.shows (law.shown told_mid))
      (subst (λ (d : Image). Agrees (Outside 0 1) d c) (synced_only mid law told_mid synced from.0 from.1) from.2)) more)
