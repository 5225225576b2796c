-- Whether a table has room for what a call puts, and the reply where it hasn't.
use Rattle.std.specs.Prelude.{◌≡◌, ◌≤◌, ◌⊎◌, ℕ, ◌+◌, ◌-◌, ◌&&◌, Bool, true, false, List, if◌then◌else◌, nat_le}
use Rattle.ck_model.specs.declared.change.Change.{Change}
use Rattle.ck_model.specs.declared.reply.Reply.{Reply}
use Rattle.ck_model.specs.declared.reply.Reply.TheVariants.{NoSpace}
use Rattle.ck_model.specs.declared.reply.SpaceOf.TheVariants.{Blocks, Records}
use Rattle.ck_model.specs.World.{World}
use Rattle.ck_model.specs.Step.{Outcome}
use Rattle.ck_model.specs.Table.{Table, record_count}
use Rattle.ck_model.specs.TableWorld.{extent_count}
use Rattle.ck_push.specs.Growth.{gains, losses, write_count}
use Rattle.ck_files.specs.Drained.{IsDrained}

-- so many records come to so many, which are that many more, or no more
pub record Grows (before after records : ℕ) : Type 0 where
  pub by : ((after ≤ before) × (records ≡ 0)) ⊎ (after ≡ before + records)

-- so many new blocks fit, and so many records more
abbrev pub has_room : Table → ℕ → ℕ → Bool
has_room t blocks records = nat_le (extent_count t + blocks) t.blocks && nat_le (record_count t + records) t.records

-- why they don't fit
abbrev pub lack_of_room : Table → ℕ → ℕ → Reply
lack_of_room t blocks records =
    if nat_le (extent_count t + blocks) t.blocks
    then NoSpace Records (record_count t) records t.records
    else NoSpace Blocks (extent_count t) blocks t.blocks

-- this reply, for which so many checkpoints were given up, and this next world
abbrev pub answered_after : ℕ → Reply → World → Outcome
answered_after given reply next = record { reply = reply; given = given; next = next }

-- nothing was given up
abbrev pub answered_with : Reply → World → Outcome
answered_with reply next = answered_after 0 reply next

-- so many were given up before
abbrev pub given_before : ℕ → Outcome → Outcome
given_before given outcome = record outcome { given = given + outcome.given }

-- changes fit, and write so many data blocks
pub record HasRoom (t : Table) (changes : List Change) (writes : ℕ) : Type 0 where
  pub writes_are : writes ≡ write_count changes
  pub fits : has_room t (write_count changes) (gains t changes - losses t changes) ≡ true

-- where nothing is left to remove or to strip, changes don't fit, for this reason
pub record IsLacking (t : Table) (changes : List Change) (answer : Reply) : Type 0 where
  pub drained : IsDrained t
  pub full : has_room t (write_count changes) (gains t changes - losses t changes) ≡ false
  pub reply : answer ≡ lack_of_room t (write_count changes) (gains t changes - losses t changes)
