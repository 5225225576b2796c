-- A new checkpoint, while others are given up for its record: what it comes to stays what the model says.
use Rattle.std.proofs.Common.{◌≡◌, ℕ, ◌+◌, Bool, List, Ok, sym, ap, ◌∙◌}
use Rattle.ck_model.specs.CheckpointCalls.{new_id}
use Rattle.ck_model.specs.Step.{created}
use Rattle.ck_model.specs.Table.{Table, spare_count}
use Rattle.ck_model.specs.TableWorld.{world_on}
use Rattle.ck_model.specs.Values.{Store}
use Rattle.ck_model.specs.World.{Mounts}
use Rattle.ck_reclaim.proofs.GivenLaws.{picked_live}
use Rattle.ck_files.specs.Drained.{IsDrained}
use Rattle.ck_files.specs.Files.{IsOurs}
use Rattle.ck_files.specs.Picks.{IsGivenUp}
use Rattle.ck_files.specs.Room.{given_before}
use Rattle.ck_files.specs.Worlds.{StandAlike}
use Rattle.ck_files.proofs.CreateLemmas.{created-given, gone_stays}
use Rattle.ck_files.proofs.GivenLemmas.{none_before, one_after}

-- a name that isn't refused isn't refused later, and what its checkpoint comes to is what it comes to in the table that is left, with so
-- many given up before
pub record CreatesAs (given : ℕ) (old new : Table) (store : Store) (mounts : Mounts) (name : List ℕ) (nodata removable : Bool) (at id : ℕ) : Type 0 where
  pub still : new_id (world_on store mounts new) name ≡ Ok id
  pub comes : created (world_on store mounts old) name nodata removable at ≡ given_before given (created (world_on store mounts new) name nodata removable at)

abbrev pub Creates : ℕ → Table → Table → Type 0
Creates given old new = (store : Store) (mounts : Mounts) (name : List ℕ) (nodata removable : Bool) (at id : ℕ) → new_id (world_on store mounts old) name ≡ Ok id
    → CreatesAs given old new store mounts name nodata removable at id

pub creates_alike : (old new : Table) → StandAlike old new → Creates 0 old new
creates_alike old new alike store mounts name nodata removable at id ok =
    let same = alike.worlds store mounts in
    record {
      still = ap (λ w. new_id w name) same ∙ ok;
      comes = ap (λ w. created w name nodata removable at) (sym same) ∙ sym (none_before (created (world_on store mounts new) name nodata removable at));
    }

-- where no record is free, the pick is given up
pub creates_further : (given : ℕ) (old t u v : Table) → Creates given old t → IsOurs t → IsDrained t → spare_count t ≡ 0 → IsGivenUp t u → StandAlike u v → Creates (given + 1) old v
creates_further given old t u v creates ours drained none up alike store mounts name nodata removable at id ok =
    let was = creates store mounts name nodata removable at id ok in
    let same = alike.worlds store mounts ∙ ap (world_on store mounts) up.table in
    record {
      still = ap (λ w. new_id w name) same ∙ gone_stays store mounts t name id up.id (picked_live t up.id up.picked) was.still;
      comes =
          was.comes
          ∙ ap (given_before given) (created-given store mounts t ours name nodata removable at drained id up.id was.still up.picked none
          ∙ ap (λ w. given_before 1 (created w name nodata removable at)) (sym same))
          ∙ one_after given (created (world_on store mounts v) name nodata removable at);
    }
