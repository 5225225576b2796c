-- The world that an image of blocks opens to.
use Rattle.std.proofs.Common.{◌≡◌, ◌≤◌, ◌<◌, ◌+◌, ℕ, Bool, true, false, not, ◌&&◌, ◌==◌, nat_le, if◌then◌else◌, [], length, get_or, refl, sym, subst, arith}
use Rattle.std.specs.Prelude.{bytes_eq, take}
use Rattle.std.specs.FinMap as map
use Rattle.std.proofs.lemmas.Bool.Decides.{nat_tests}
use Rattle.std.proofs.lemmas.List.Elements.{All-get_or}
use Rattle.ck_disk.specs.Disk.{Image, Meaning, IsBlock, AreBlocks, Lawful}
use Rattle.ck_log.specs.Layout.{Layout, is_sized, base_of, size_of}
use Rattle.ck_log.specs.Header.{Recovered, NotVolume as NoVolume, BadFormat as BadHeader, Opens as OpensAt, magic, number_at}
use Rattle.ck_log.specs.Images.{names_second, recovered_region}
use Rattle.ck_data.specs.Device.{store_on}
use Rattle.ck_model.specs.World.{World}
use Rattle.ck_laws.specs.Laws.{IsWorld, StoresBlocks, TablesStand}
use Rattle.ck_engine.proofs.RecoveryLaws.{recovered_table}
use Rattle.ck_recovered.specs.Laws.{VolumesOpen, CrashesOpen, ReadsOpen}

-- ---- a volume lies within its device

at_most : (sized : Bool) (m n : ℕ) → (sized && nat_le m n) ≡ true → m ≤ n
at_most sized m n h = grind (arith, nat_tests)

-- what the header's tests say
said_by : Bool → Bool → Bool → ℕ → ℕ → ℕ → Bool → Recovered
said_by has_magic has_format fits version blocks records second =
    if not has_magic then NoVolume
    else (if not has_format then BadHeader version
    else (if fits then OpensAt (record { blocks = blocks; records = records; second = second }) else NoVolume))

module _ (size version blocks records : ℕ) (second : Bool) (layout : Layout) where
  fits_by : (has_magic has_format fits : Bool) → (fits ≡ true → size_of blocks records ≤ size) → said_by has_magic has_format fits version blocks records second ≡ OpensAt layout
      → size_of layout.blocks layout.records ≤ size
  unfolding said_by
  fits_by false has_format fits within is = cc
  fits_by true false fits within is = cc
  fits_by true true false within is = cc
  fits_by true true true within is =
      let same : ◌≡◌ {A = Layout} (record { blocks = blocks; records = records; second = second }) layout = cc in
      subst (λ (l : Layout). size_of l.blocks l.records ≤ size) same (within refl)

recovered-fits : (image : Image) (layout : Layout) → recovered_region image ≡ OpensAt layout → size_of layout.blocks layout.records ≤ length image
unfolding said_by
recovered-fits image layout is =
    let header = get_or image 0 [] in
    fits_by (length image) (number_at header 8) (number_at header 12) (number_at header 16) (names_second image) layout
    (bytes_eq (take 8 header) magic) (number_at header 8 == 0) (is_sized (number_at header 12) (number_at header 16) && nat_le (size_of (number_at header 12) (number_at header 16)) (length image))
    (at_most (is_sized (number_at header 12) (number_at header 16)) (size_of (number_at header 12) (number_at header 16)) (length image))
    is

-- its data blocks have so many bytes as blocks have
stores-blocks : (image : Image) (layout : Layout) → AreBlocks image → size_of layout.blocks layout.records ≤ length image → StoresBlocks layout.blocks (store_on image (base_of layout.records))
stores-blocks image layout blocks fits block low =
    let within : base_of layout.records + block < length image = omega (arith, fits, low) in
    All-get_or IsBlock image (base_of layout.records + block) [] within blocks

-- ---- the world

pub volumes_open_lem : TablesStand → VolumesOpen
volumes_open_lem stand image w opened =
    let has = recovered_table image w opened.opens in
    let base = base_of has.layout.records in
    let stores = stores-blocks image has.layout opened.blocks (recovered-fits image has.layout has.region) in
    subst IsWorld has.world
    (stand (store_on image base) map.empty has.table has.is_table has.orderly
    (subst (λ n. StoresBlocks n (store_on image base)) (sym has.blocks) stores))

pub crashes_open_lem : (m : Meaning) → Lawful m → CrashesOpen m
crashes_open_lem m law t image w left opens = record { blocks = law.blocks t image left; opens = opens }

pub reads_open_lem : (m : Meaning) → Lawful m → ReadsOpen m
reads_open_lem m law tells w opens =
    crashes_open_lem m law m.moment m.shows w (law.counts_now m.moment m.shows (omega arith) (law.shown tells)) opens
