-- What an event answers, and the entry that it puts.
use Rattle.std.specs.Prelude.{◌≡◌, ◌≤◌, ℕ, Bool, true, List, [], ◌∷◌, MatchBool, nat_eq}
use Rattle.ck_disk.specs.Disk.{Meaning, Rose}
use Rattle.ck_model.specs.declared.call.Call.{Call}
use Rattle.ck_model.specs.declared.entry.Entry.{Entry}
use Rattle.ck_model.specs.declared.reply.Reply.{Reply}
use Rattle.ck_model.specs.declared.reply.Reply.TheVariants as reply
use Rattle.ck_model.specs.Space.{without_picks}
use Rattle.ck_model.specs.Step.{step}
use Rattle.ck_model.specs.World.{World}
use Rattle.ck_model.specs.Streams.{Texts}
use Rattle.ck_model.specs.History.{Past, CallsBy, IsLegalNext, past_after, reply_number, is_fault, is_write_fault}
use Rattle.ck_files.specs.Room.{answered_after}

-- the entry is legal at this point of a history, and leads to that one
pub record Follows (texts : Texts) (calls : CallsBy) (past : Past) (entry : Entry) (next : Past) : Type 0 where
  pub legal : IsLegalNext texts calls past entry
  pub leads : past_after texts calls past entry ≡ next

abbrev pub is_read_fault : Reply → Bool
is_read_fault reply = nat_eq (reply_number reply) 18

-- a fault is answered only where the count of such faults rose
pub record HasCause (old new : Meaning) (reply : Reply) : Type 0 where
  pub read : is_read_fault reply ≡ true → Rose old.read_faults new.read_faults
  pub write : is_write_fault reply ≡ true → Rose old.write_faults new.write_faults

-- the entry answers the call with this number of the actor, which began at this moment
pub record IsEntryOf (actor seq at : ℕ) (entry : Entry) : Type 0 where
  pub actor_is : entry.actor ≡ actor
  pub seq_is : entry.seq ≡ seq
  pub at_is : entry.at ≡ at

-- the last entry of a history, or the one before it
abbrev pub newest_from : Entry → List Entry → Entry
newest_from before [] = before
newest_from before (entry ∷ entries) = newest_from entry entries

-- the entry that was put last; of a history without entries it is one that says nothing
abbrev pub newest : List Entry → Entry
newest history = newest_from (record { actor = 0; seq = 0; at = 0; given = 0; reply = reply.Done }) history

-- A call at this world, for which so many checkpoints were given up, is answered so and leads to that one: it's the step's, or it failed,
-- and the world is the one without what was given up, which is no more than the step would.
abbrev pub Answers : Texts → World → ℕ → ℕ → Call → ℕ → Reply → World → Type 0
Answers texts w actor at call given reply next =
    MatchBool (is_fault reply)
    ((next ≡ without_picks given w) × (given ≤ (step texts w actor at call).given))
    (step texts w actor at call ≡ answered_after given reply next)
