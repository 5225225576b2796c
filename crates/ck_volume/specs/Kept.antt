-- What a volume keeps.
use Rattle.std.specs.Prelude.{◌≡◌, ◌≤◌, ⊤, ℕ, ◌+◌, false, MatchOption, List, [], ◌∷◌, Option, Some, None, IsTrue, length, if◌then◌else◌}
use Rattle.std.specs.List.{AllByRecursion}
use Rattle.std.specs.Option.{option_or}
use Rattle.ck_disk.specs.Disk.{Meaning}
use Rattle.ck_model.specs.declared.call.Call.{Call}
use Rattle.ck_model.specs.declared.entry.Entry.{Entry}
use Rattle.ck_model.specs.declared.reply.Reply.TheVariants.{Broken}
use Rattle.ck_model.specs.Streams.{Texts}
use Rattle.ck_model.specs.World.{World}
use Rattle.ck_model.specs.History.{CallsBy, IsLegal, begun, past_of, numbers_of, is_write_fault, is_broken}
use Rattle.ck_volume.specs.Present.{Present, history_of, length_of, broken_of, world_of, IsReady}
use Rattle.ck_engine.specs.Recovery.{Recovers}
use Rattle.ck_disk.specs.Runs.{Runs}
use Rattle.ck_volume.specs.Causes.{HasCauses}
use Rattle.ck_volume.specs.Cuts.{LeavesCuts}
use Rattle.ck_volume.specs.Told.{AreAnswered}

-- the number of the entry that broke the volume, where one did, once these entries follow with numbers from this one on
abbrev pub broken_by : ℕ → Option ℕ → List Entry → Option ℕ
broken_by number broken [] = broken
broken_by number broken (entry ∷ entries) = broken_by (number + 1) (option_or broken (if is_write_fault entry.reply then Some number else None)) entries

-- after an entry WriteFault each one is Broken with its number, and no other is
abbrev pub BreaksFrom : ℕ → Option ℕ → List Entry → Type 0
BreaksFrom number broken [] = ⊤
BreaksFrom number broken (entry ∷ entries) =
    MatchOption broken (is_broken entry.reply ≡ false) (λ by. entry.reply ≡ Broken by)
    × BreaksFrom (number + 1) (option_or broken (if is_write_fault entry.reply then Some number else None)) entries

-- Where the device tells what it holds, the history is legal from the world that the origin recovers to, and leads to the
-- present one, whatever the texts of streams are.
abbrev pub Stands : {D : Type 0} → Meaning → Meaning → List Call → Present D → Type 0
Stands origin now told volume =
    IsTrue origin.tells → (w : World) → Recovers origin.shows w → (texts : Texts) (calls : CallsBy) → AreAnswered calls told (history_of volume)
    → IsLegal texts calls w (history_of volume)
    × (past_of texts calls (begun w) (history_of volume) ≡ record { world = world_of now.shows volume; length = length_of volume; broken = broken_by 0 None (history_of volume) })

-- Where it tells what it holds, the origin recovers to a world; and there are calls that the entries answer, each of which has a
-- number that is at most the count of its actor's entries.
pub record HasCalls (origin : Meaning) (told : List Call) (history : List Entry) : Type 0 where
  pub first : IsTrue origin.tells → (w : World) × Recovers origin.shows w
  pub calls : CallsBy
  pub answered : AreAnswered calls told history
  pub counted : AllByRecursion (λ entry. entry.seq ≤ length (numbers_of history entry.actor)) history

-- What every volume keeps. Since its beginning its device ran, and failed at least as often as its entries tell; an
-- entry broke it, or a commit did; what was committed is no more than what was answered; and its history stands, also
-- after a crash.
pub record IsKept {D : Type 0} (origin now : Meaning) (told : List Call) (committed : ℕ) (spoilt : Option ℕ) (volume : Present D) : Type 0 where
  pub ready : ∥ IsReady now volume ∥₁
  pub runs : Runs origin now
  pub causes : HasCauses origin now (history_of volume)
  pub breaks : broken_of volume ≡ option_or (broken_by 0 None (history_of volume)) spoilt
  pub replies : ∥ BreaksFrom 0 None (history_of volume) ∥₁
  pub begins : ∥ HasCalls origin told (history_of volume) ∥₁
  pub stands : ∥ Stands origin now told volume ∥₁
  pub within : committed ≤ length_of volume
  pub cuts : ∥ LeavesCuts origin now told committed volume ∥₁
