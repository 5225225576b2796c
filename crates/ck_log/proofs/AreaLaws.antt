-- Where the two areas lie.
use Rattle.std.proofs.Common.{◌≡◌, inl, inr, ⊎_elim, ◌≤◌, ◌<◌, ◌+◌, ◌*◌, ◌-◌, ℕ, Bool, true, false, not, sym, ap, subst, arith}
use Rattle.std.proofs.lemmas.Bool.{cases_lt}
use Rattle.ck_disk.specs.Disk.{Image, Outside}
use Rattle.ck_log.specs.Layout.{Layout, OutsideGateAndAreas, table_blocks, first_area, area_at, base_of}
use Rattle.ck_log.specs.Images.{part, names_second, table_on}

-- both areas lie behind the header and the gate
pub first_area-low : (records : ℕ) → 2 ≤ first_area records
unfolding first_area
first_area-low records = omega arith

-- the unused blocks in front of them hold a count and as many numbers as the table has blocks, 1,024 in each
pub first_area-holds : (records : ℕ) → table_blocks records + 1 ≤ 1024 * (first_area records - 2)
unfolding first_area
first_area-holds records = omega arith

-- and no fewer do
pub first_area-least : (records count : ℕ) → table_blocks records + 1 ≤ 1024 * count → first_area records ≤ 2 + count
unfolding first_area
first_area-least records count holds = omega arith

pub area_low : (records : ℕ) (second : Bool) → 2 ≤ area_at records second
area_low records true = omega (arith, first_area-low records)
area_low records false = first_area-low records

-- and below the data blocks
pub area_high : (records : ℕ) (second : Bool) → area_at records second + table_blocks records ≤ base_of records
area_high records true = omega arith
area_high records false = omega arith

-- an area lies outside the other
pub other_area : (records : ℕ) (second : Bool) (i : ℕ) → i < table_blocks records → Outside (area_at records (not second)) (table_blocks records) (area_at records second + i)
other_area records true i lt = inr (omega arith)
other_area records false i lt = inl (omega arith)

-- what lies outside the gate and both areas lies outside each of them
pub others_area : (records : ℕ) (second : Bool) (k : ℕ) → OutsideGateAndAreas records k → Outside (area_at records second) (table_blocks records) k
others_area records true k outside = ⊎_elim (λ (h : k < first_area records). inl (omega arith)) (λ (h : first_area records + 2 * table_blocks records ≤ k). inr (omega arith)) outside.areas
others_area records false k outside = ⊎_elim (λ (h : k < first_area records). inl h) (λ (h : first_area records + 2 * table_blocks records ≤ k). inr (omega arith)) outside.areas

-- the same of an area that is given by its numbers
pub outside_area : (records : ℕ) (second : Bool) (free n : ℕ) → free ≡ area_at records second → n ≡ table_blocks records → (k : ℕ) → OutsideGateAndAreas records k → Outside free n k
outside_area records second free n is_free long k outside =
    subst (λ (m : ℕ). Outside free m k) (sym long) (subst (λ (p : ℕ). Outside p (table_blocks records) k) (sym is_free) (others_area records second k outside))

pub others_gate : (records : ℕ) (k : ℕ) → OutsideGateAndAreas records k → Outside 1 1 k
others_gate records k outside = ⊎_elim (λ (h : k < 1). inl h) (λ (h : 1 ≤ k). let apart = outside.gate in inr (omega (arith, apart))) (cases_lt k 1)

-- the header, and what lies behind both areas
pub outside_both : (records k : ℕ) → Outside 1 (base_of records - 1) k → OutsideGateAndAreas records k
outside_both records k outside = ⊎_elim
    (λ (h : k < 1). let low = first_area-low records in record { gate = λ (is : k ≡ 1). omega arith; areas = inl (omega arith) })
    (λ (h : 1 + (base_of records - 1) ≤ k). let low = first_area-low records in record { gate = λ (is : k ≡ 1). omega arith; areas = inr (omega arith) })
    outside

-- the table in the area that the gate names
pub table_at : (layout : Layout) (c : Image) (second : Bool) → names_second c ≡ second → table_on layout c ≡ part (area_at layout.records second) (table_blocks layout.records) c
table_at layout c second is = ap (λ (b : Bool). part (area_at layout.records b) (table_blocks layout.records) c) is
