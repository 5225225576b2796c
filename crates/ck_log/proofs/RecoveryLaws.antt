-- What an image says of its volume, and which changes to the image leave that as it was.
use Rattle.std.proofs.Common.{◌≡◌, ◌≢◌, ◌≤◌, ◌<◌, ◌+◌, ◌&&◌, ◌==◌, nat_le, ℕ, Bool, true, false, not, IsTrue, bytes_eq, if◌then◌else◌, List, [], length, take, get_or, set, refl, sym, ◌∙◌, ap, subst, arith, get_or-set_other}
use Rattle.std.specs.Prelude.{Result, Ok, Err, IfOk, IfErr}
use Rattle.std.proofs.lemmas.Nat.{from_be_bytes-to_be_bytes_4}
use Rattle.std.proofs.lemmas.List.{length-set}
use Rattle.std.proofs.lemmas.Bool.Decides.{nat_tests}
use Rattle.ck_disk.specs.Disk.{Image, Meaning, Lawful, Agrees, Within}
use Rattle.ck_log.specs.declared.faults.OpenLog.{OpenLog}
use Rattle.ck_log.specs.declared.faults.OpenLog.TheVariants as open_log
use Rattle.ck_log.specs.declared.header.Sizes.{Sizes}
use Rattle.ck_log.specs.Layout.{Layout, IsSized, is_sized, table_blocks, area_at, base_of, size_of}
use Rattle.ck_log.specs.Header.{Recovered, NotVolume, BadFormat, Opens, magic, header_of, number_at, sized_volume, recovered_by}
use Rattle.ck_log.specs.Images.{names_second, recovered_region, table_on, area_of, HasTable, Settled}
use Rattle.ck_log.specs.Faults.{IsRefusal, IsOpenFault}
use Rattle.ck_log.proofs.Parts.{part_agrees}
use Rattle.ck_log.proofs.AreaLaws.{area_low, area_high, table_at}
use Rattle.ck_log.proofs.Phases.{same_gate}

-- ---- the header that is written opens

is_sized-true : (blocks records : ℕ) → IsSized blocks records → is_sized blocks records ≡ true
is_sized-true blocks records sized = grind (arith, nat_tests, sized.some_blocks, sized.few_blocks, sized.some_records, sized.few_records)

nat_le-true : (m n : ℕ) → m ≤ n → nat_le m n ≡ true
nat_le-true m n le = grind (arith, nat_tests)

sized_volume-opens : (blocks records : ℕ) (second : Bool) (size : ℕ) → IsSized blocks records → size_of blocks records ≤ size
    → sized_volume blocks records second size ≡ Opens (record { blocks = blocks; records = records; second = second })
sized_volume-opens blocks records second size sized long =
    ap (λ (b : Bool). if b && nat_le (size_of blocks records) size then Opens (record { blocks = blocks; records = records; second = second }) else NotVolume) (is_sized-true blocks records sized)
    ∙ ap (λ (b : Bool). if b then Opens (record { blocks = blocks; records = records; second = second }) else NotVolume) (nat_le-true (size_of blocks records) size long)

pub recovered_by-header_of : (blocks records : ℕ) (second : Bool) (size : ℕ) → IsSized blocks records → size_of blocks records ≤ size
    → recovered_by (header_of blocks records) second size ≡ Opens (record { blocks = blocks; records = records; second = second })
unfolding header_of
recovered_by-header_of blocks records second size sized long =
    let header = header_of blocks records in
    let blocks_read : number_at header 12 ≡ blocks = from_be_bytes-to_be_bytes_4 blocks (omega (arith, sized.few_blocks)) in
    let records_read : number_at header 16 ≡ records = from_be_bytes-to_be_bytes_4 records (omega (arith, sized.few_records)) in
    ap (λ (n : ℕ). sized_volume n (number_at header 16) second size) blocks_read
    ∙ ap (λ (n : ℕ). sized_volume blocks n second size) records_read
    ∙ sized_volume-opens blocks records second size sized long

-- ---- what reads of the header and the gate say of an image

pub recovered_read : (image mid : Image) (second : Bool) (size : ℕ) (found : Recovered) → mid ≡ image → second ≡ names_second image → size ≡ length image
    → recovered_by (get_or mid 0 []) second size ≡ found → recovered_region image ≡ found
recovered_read image mid second size found same gate long is =
    sym (ap (λ (s : Image). recovered_by (get_or s 0 []) second size) same
    ∙ ap (λ (b : Bool). recovered_by (get_or image 0 []) b size) gate
    ∙ ap (λ (n : ℕ). recovered_by (get_or image 0 []) (names_second image) n) long) ∙ is

pub sizes_read : (told : Type 0) (header block : List ℕ) (size long : ℕ) → (told → header ≡ block) → size ≡ long → (r : Result Sizes OpenLog)
    → IfOk r (λ sizes. (second : Bool) → recovered_by header second size ≡ Opens (record { blocks = sizes.blocks; records = sizes.records; second = second }))
    → IfOk r (λ sizes. told → (second : Bool) → recovered_by block second long ≡ Opens (record { blocks = sizes.blocks; records = sizes.records; second = second }))
sizes_read told header block size long is same (Ok sizes) opens = λ t second.
    sym (ap (λ (b : List ℕ). recovered_by b second size) (is t) ∙ ap (λ (n : ℕ). recovered_by block second n) same) ∙ opens second
sizes_read told header block size long is same (Err fault) opens = opens

refused_by : (old new : Meaning) (found : Recovered) → (IsTrue old.tells → recovered_region old.shows ≡ found) → (fault : OpenLog) → IsRefusal found fault → IsOpenFault old new fault
refused_by old new found is open_log.NotVolume refusal = λ told. is told ∙ refusal
refused_by old new found is (open_log.BadFormat version) refusal = λ told. is told ∙ refusal
refused_by old new found is (open_log.Damaged block slot) refusal = refusal
refused_by old new found is open_log.ReadFault refusal = absurd refusal
refused_by old new found is open_log.WriteFault refusal = absurd refusal
refused_by old new found is open_log.NoMemory refusal = refusal

pub refusal_read : (old new : Meaning) (header : List ℕ) (size : ℕ) → (IsTrue old.tells → header ≡ get_or old.shows 0 []) → (IsTrue old.tells → length old.shows ≡ size) → (r : Result Sizes OpenLog)
    → IfErr r (λ fault. (second : Bool) → IsRefusal (recovered_by header second size) fault) → IfErr r (IsOpenFault old new)
refusal_read old new header size is long (Ok sizes) refused = refused
refusal_read old new header size is long (Err fault) refused =
    refused_by old new (recovered_by header (names_second old.shows) size)
    (λ told. ap (λ (b : List ℕ). recovered_by b (names_second old.shows) (length old.shows)) (sym (is told)) ∙ ap (λ (n : ℕ). recovered_by header (names_second old.shows) n) (long told))
    fault (refused (names_second old.shows))

-- ---- changes elsewhere

-- where header and gate stay, so does the region
pub recovered_region-agrees : (K : ℕ → Type 0) (d c : Image) → K 0 → K 1 → Agrees K d c → recovered_region c ≡ recovered_region d
recovered_region-agrees K d c header gate same =
    recovered_read c c (names_second c) (length c) (recovered_region d) refl refl refl
    (ap (λ (b : List ℕ). recovered_by b (names_second c) (length c)) (same.at 0 header)
    ∙ ap (λ (b : Bool). recovered_by (get_or d 0 []) b (length c)) (same_gate K d c gate same)
    ∙ ap (λ (n : ℕ). recovered_by (get_or d 0 []) (names_second d) n) same.size)

-- what is found, with another area
with_second : Bool → Recovered → Recovered
with_second second NotVolume = NotVolume
with_second second (BadFormat version) = BadFormat version
with_second second (Opens layout) = Opens (record layout { second = second })

found_by : Bool → Bool → Bool → ℕ → ℕ → ℕ → Bool → Recovered
found_by has_magic has_format fits version blocks records second =
    if not has_magic then NotVolume
    else (if not has_format then BadFormat version
    else (if fits then Opens (record { blocks = blocks; records = records; second = second }) else NotVolume))

with_second-found_by : (has_magic has_format fits : Bool) (version blocks records : ℕ) (second other : Bool)
    → with_second other (found_by has_magic has_format fits version blocks records second) ≡ found_by has_magic has_format fits version blocks records other
unfolding with_second found_by
with_second-found_by false has_format fits version blocks records second other = refl
with_second-found_by true false fits version blocks records second other = refl
with_second-found_by true true true version blocks records second other = refl
with_second-found_by true true false version blocks records second other = refl

-- the gate's area goes into the answer as it is
regated : (header : List ℕ) (second other : Bool) (size : ℕ) (layout : Layout) → recovered_by header second size ≡ Opens layout → recovered_by header other size ≡ Opens (record layout { second = other })
unfolding with_second found_by
regated header second other size layout is =
    sym (with_second-found_by (bytes_eq (take 8 header) magic) (number_at header 8 == 0) (is_sized (number_at header 12) (number_at header 16) && nat_le (size_of (number_at header 12) (number_at header 16)) size)
    (number_at header 8) (number_at header 12) (number_at header 16) second other)
    ∙ ap (with_second other) is

-- where only the gate and both areas change, it has the area that its own gate names
pub recovered_region-gate : (layout : Layout) (K : ℕ → Type 0) (d c : Image) → K 0 → Agrees K d c → recovered_region d ≡ Opens layout → recovered_region c ≡ Opens (record layout { second = names_second c })
recovered_region-gate layout K d c header same is =
    ap (λ (b : List ℕ). recovered_by b (names_second c) (length c)) (same.at 0 header)
    ∙ ap (λ (n : ℕ). recovered_by (get_or d 0 []) (names_second c) n) same.size
    ∙ regated (get_or d 0 []) (names_second d) (names_second c) (length d) layout is

-- where the gate and the areas stay, so does the table
pub table_on-agrees : (layout : Layout) (K : ℕ → Type 0) (d c : Image) → ((k : ℕ) → 1 ≤ k → k < base_of layout.records → K k) → Agrees K d c → table_on layout c ≡ table_on layout d
table_on-agrees layout K d c kept same =
    let gate : K 1 = kept 1 (omega arith) (omega (arith, area_low layout.records false, area_high layout.records false)) in
    table_at layout c (names_second d) (same_gate K d c gate same)
    ∙ part_agrees K d c (area_at layout.records (names_second d)) (table_blocks layout.records) same
    (λ i lt. kept (area_at layout.records (names_second d) + i) (omega (arith, area_low layout.records (names_second d))) (omega (arith, area_high layout.records (names_second d))))

pub has_table-agrees : (layout : Layout) (blocks : Image) (K : ℕ → Type 0) (d c : Image) → ((k : ℕ) → 1 ≤ k → k < base_of layout.records → K k) → Agrees K d c → HasTable layout blocks d → HasTable layout blocks c
has_table-agrees layout blocks K d c kept same has = record {
  gate = same_gate K d c (kept 1 (omega arith) (omega (arith, area_low layout.records false, area_high layout.records false))) same ∙ has.gate;
  table = table_on-agrees layout K d c kept same ∙ has.table;
}

-- the area that a layout names has the table
pub area_of-has : (layout : Layout) (blocks c : Image) → HasTable layout blocks c → area_of layout c ≡ blocks
area_of-has layout blocks c has = sym (table_at layout c layout.second has.gate) ∙ has.table

pub area_of-settled : (layout : Layout) (m : Meaning) → Lawful m → IsTrue m.tells → Settled layout m → area_of layout m.shows ≡ table_on layout m.shows
area_of-settled layout m law told settled = area_of-has layout (table_on layout m.shows) m.shows (settled told m.shows (law.shown told))

-- once a commit is done, the image opens with the area that its gate names
pub recovered_region-settled : (layout : Layout) (second : Bool) (blocks c : Image) → recovered_region c ≡ Opens (record layout { second = names_second c }) → HasTable (record layout { second = second }) blocks c
    → recovered_region c ≡ Opens (record layout { second = second })
recovered_region-settled layout second blocks c is has = is ∙ ap (λ (b : Bool). Opens (record layout { second = b })) has.gate

-- ---- a write of a data block

-- it leaves the region and the table of an image as they were
pub recovered_region-set : (image : Image) (at : ℕ) (b : List ℕ) → 2 ≤ at → recovered_region (set image at b) ≡ recovered_region image
recovered_region-set image at b high =
    recovered_region-agrees (λ k. k < at) image (set image at b) (omega arith) (omega arith) (record { size = length-set image at b; at = λ k lt. get_or-set_other image at k b [] (below k lt) })
  where
    below : (k : ℕ) → k < at → k ≢ at
    below k lt e = omega arith

pub table_on-set : (layout : Layout) (image : Image) (at : ℕ) (b : List ℕ) → base_of layout.records ≤ at → table_on layout (set image at b) ≡ table_on layout image
table_on-set layout image at b high =
    table_on-agrees layout (λ k. k < at) image (set image at b) (λ k low lt. omega arith) (record { size = length-set image at b; at = λ k lt. get_or-set_other image at k b [] (below k lt) })
  where
    below : (k : ℕ) → k < at → k ≢ at
    below k lt e = omega arith

-- a read or a sync leaves the table settled
pub settled-keeps : (layout : Layout) (old new : Meaning) → new.tells ≡ old.tells → new.shows ≡ old.shows → Within new.may_leave old.may_leave → Settled layout old → Settled layout new
settled-keeps layout old new tells shows within settled told c left =
    let was = settled (subst (λ (b : Bool). IsTrue b) tells told) c (within c left) in
    record { gate = was.gate; table = was.table ∙ ap (table_on layout) (sym shows) }
