-- What a volume keeps, it keeps in a step that nobody sees, and where its device is read.
use Rattle.std.proofs.Common.{◌≡◌, ◌⊎◌, ℕ, Option, Some, None, List, IsTrue, refl, arith}
use mathlib.Core.Logic.{∥∥₁_map}
use Rattle.ck_disk.specs.Disk.{Meaning, Lawful}
use Rattle.ck_disk.specs.Runs.{Runs}
use Rattle.ck_model.specs.declared.call.Call.{Call}
use Rattle.ck_model.specs.World.{World, unmounted}
use Rattle.ck_engine.specs.declared.engine.Engine.{Engine}
use Rattle.ck_volume.specs.declared.log.Log.{Log}
use Rattle.ck_disk.proofs.RunLaws.{runs-more}
use Rattle.ck_volume.specs.Kept.{IsKept}
use Rattle.ck_volume.specs.Present.{Present, present, history_of, world_of, IsReady, KeepsWorld, Survives}
use Rattle.ck_volume.specs.Turn.{IsReading}
use Rattle.ck_volume.proofs.CausesLemmas.{causes-still}
use Rattle.ck_volume.proofs.CutsLaws.{cuts-uncommitted}
use Rattle.ck_volume.proofs.StandsLaws.{stands-still}
use Rattle.ck_volume.proofs.StoodLaws.{stood}

runs-still : (m : Meaning) → Runs m m
runs-still m = record { size = refl; tells = refl; reads = omega arith; writes = omega arith; later = omega arith }

module _ {D : Type 0} (origin m : Meaning) (law : Lawful m) (told : List Call) (committed : ℕ) (spoilt : Option ℕ) (engine later : Engine D) (log : Log) where
  abbrev before : Present D
  before = present engine log

  abbrev after : Present D
  after = present later log

  pub kept-quietly : IsKept origin m told committed spoilt before → IsReady m after → world_of m.shows after ≡ world_of m.shows before → (log.broken ≡ None → Survives m m before)
      → (log.broken ≡ None → IsTrue m.tells → (w : World) → KeepsWorld m before w → KeepsWorld m after w ⊎ KeepsWorld m after (unmounted (world_of m.shows before)))
      → IsKept origin m told committed spoilt after
  kept-quietly kept ready world survives goes = record {
    ready = ∣ ready ∣₁;
    runs = kept.runs;
    causes = kept.causes;
    breaks = kept.breaks;
    replies = kept.replies;
    begins = kept.begins;
    stands = ∥∥₁_map kept.stands (λ stands. stands-still origin m m told before after stands kept.runs.tells refl (λ told. world));
    within = kept.within;
    cuts = ∥∥₁_map kept.cuts (λ cuts.
        cuts-uncommitted origin m m law told committed before after cuts (stood origin m told before kept.stands) kept.within refl (runs-still m) (λ told. world) survives (λ unbroken. goes) (λ number is. is) (λ number is. refl));
  }

no_one : (o : Option ℕ) (n : ℕ) → o ≡ None → o ≡ Some n → ⊥
no_one o n none some = cc

pub kept-read : {D : Type 0} (origin mid new : Meaning) → Lawful new → (told : List Call) (committed : ℕ) (spoilt : Option ℕ) (engine later : Engine D) (log : Log) → log.broken ≡ None
    → IsKept origin mid told committed spoilt (present engine log) → IsReady new (present later log) → Runs mid new → IsReading mid new (present engine log) (present later log)
    → IsKept origin new told committed spoilt (present later log)
kept-read {D} origin mid new law told committed spoilt engine later log unbroken kept ready runs reading =
    let old : Present D = present engine log in
    let next : Present D = present later log in
    record {
      ready = ∣ ready ∣₁;
      runs = runs-more origin mid new kept.runs runs;
      causes = causes-still origin mid new (history_of old) kept.causes runs;
      breaks = kept.breaks;
      replies = kept.replies;
      begins = kept.begins;
      stands = ∥∥₁_map kept.stands (λ stands. stands-still origin mid new told old next stands kept.runs.tells refl reading.world);
      within = kept.within;
      cuts = ∥∥₁_map kept.cuts (λ cuts.
          cuts-uncommitted origin mid new law told committed old next cuts (stood origin mid told old kept.stands) kept.within refl runs reading.world (λ _. reading.survives) (λ _ _. reading.kept) (λ number is. is)
          (λ number is. absurd (no_one log.broken number unbroken is)));
    }
