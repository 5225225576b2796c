-- What a call is answered, and the world after it.
use Rattle.std.specs.Prelude.{ℕ, Bool, List, length, Result, Ok, Err, if◌then◌else◌}
use Rattle.ck_model.specs.declared.call.Call.{Call}
use Rattle.ck_model.specs.declared.call.Call.TheVariants.{Make, Mkdir, Rm, Rmdir, Mv, Write, Fill, Trunc, Read, List as Ls, Stat, Create, Remove, Nodata, Removable, Ckpts, Mount, Umount, Cread, Clist, Restore, Backup, Full, Info, Sync}
use Rattle.ck_model.specs.declared.reply.Reply.{Reply}
use Rattle.ck_model.specs.declared.reply.Reply.TheVariants.{Done, Delayed, Created}
use Rattle.ck_model.specs.Refusals.{and_then}
use Rattle.ck_model.specs.World.{World}
use Rattle.ck_model.specs.Space.{fits, no_space, given_up, without_picks, new_block_count}
use Rattle.ck_model.specs.Streams.{Texts}
use Rattle.ck_model.specs.FileCalls.{changed_by}
use Rattle.ck_model.specs.CheckpointCalls.{new_id, frozen_world, checkpoint_named, older_than, any_keeps, as_nodata, with_changed, dropped, with_flag, restored, mounted, dismounted}
use Rattle.ck_model.specs.ReadCalls.{range_read, names_listed, status_of, listing_of, info_of, checkpoint_read, checkpoint_names, full_stream, changed_stream}

-- the reply, how many checkpoints were given up for room, and the next world
pub record Outcome : Type 0 where
  pub reply : Reply
  pub given : ℕ
  pub next : World

abbrev pub told : World → Reply → Outcome
told w reply = record { reply = reply; given = 0; next = w }

-- the outcome, or the refusal
abbrev pub outcome_of : World → Result Outcome Reply → Outcome
outcome_of w (Ok outcome) = outcome
outcome_of w (Err reply) = told w reply

-- a reply either way
abbrev pub answered : World → Result Reply Reply → Outcome
answered w (Ok reply) = told w reply
answered w (Err reply) = told w reply

-- done, with this next world
abbrev pub done : World → Result World Reply → Outcome
done w (Ok next) = told next Done
done w (Err reply) = told w reply

-- where a call with this effect doesn't fit, checkpoints are given up; where it doesn't fit then, it has no effect
abbrev pub with_room : World → (World → World) → ℕ → Reply → Outcome
with_room w effect new reply =
    let given = given_up (length w.checkpoints) effect new w in
    let left = without_picks given w in
    if fits left (effect left) new
    then record { reply = reply; given = given; next = effect left }
    else record { reply = no_space left (effect left) new; given = given; next = left }

-- a call that changes files, once it isn't refused: it leaves the checkpoints as they are
abbrev pub changing : World → Result World Reply → Outcome
changing w (Ok changed) =
    with_room w (λ left. record changed { checkpoints = left.checkpoints }) (new_block_count w.next.stamp changed.primary) Done
changing w (Err reply) = told w reply

-- `create`, which puts no block
abbrev pub created : World → List ℕ → Bool → Bool → ℕ → Outcome
created w name nodata removable at =
    outcome_of w (and_then (new_id w name) (λ id. Ok (with_room w (frozen_world name nodata removable at) 0 (Created id))))

-- `nodata`
abbrev pub converted : World → List ℕ → Outcome
converted w name =
    outcome_of w (and_then (checkpoint_named w name) (λ _.
    Ok (told (with_changed w name as_nodata) (if any_keeps (older_than w name) then Delayed else Done))))

-- the step of an actor's call at a moment
abbrev pub step : Texts → World → ℕ → ℕ → Call → Outcome
step texts w actor at (Make path) = changing w (changed_by w (Make path))
step texts w actor at (Mkdir path) = changing w (changed_by w (Mkdir path))
step texts w actor at (Rm path) = changing w (changed_by w (Rm path))
step texts w actor at (Rmdir path) = changing w (changed_by w (Rmdir path))
step texts w actor at (Mv path new_path) = changing w (changed_by w (Mv path new_path))
step texts w actor at (Write path place bytes) = changing w (changed_by w (Write path place bytes))
step texts w actor at (Fill path place len byte) = changing w (changed_by w (Fill path place len byte))
step texts w actor at (Trunc path size) = changing w (changed_by w (Trunc path size))
step texts w actor at (Read path place len) = answered w (range_read w.primary path place len)
step texts w actor at (Ls path) = answered w (names_listed w.primary path)
step texts w actor at (Stat path) = answered w (status_of w.primary path)
step texts w actor at (Create name nodata removable) = created w name nodata removable at
step texts w actor at (Remove name) = done w (dropped w name)
step texts w actor at (Nodata name synchronous) = converted w name
step texts w actor at (Removable name on) = done w (with_flag w name on)
step texts w actor at Ckpts = told w (listing_of w)
step texts w actor at (Mount letter name) = done w (mounted w actor letter name)
step texts w actor at (Umount letter) = done w (dismounted w actor letter)
step texts w actor at (Cread letter path place len) = answered w (checkpoint_read w actor letter path place len)
step texts w actor at (Clist letter path) = answered w (checkpoint_names w actor letter path)
step texts w actor at (Restore name) = done w (restored w name)
step texts w actor at (Backup letter later_letter) = answered w (changed_stream texts w actor letter later_letter)
step texts w actor at (Full letter) = answered w (full_stream texts w actor letter)
step texts w actor at Info = told w (info_of w)
step texts w actor at Sync = told w Done
