-- What every step has in common: it answers no fault, and one new checkpoint comes exactly where the reply has its id.
use Rattle.std.proofs.Common.{◌≡◌, ◌≢◌, ℕ, ◌-◌, Bool, true, false, Option, List, length, replicate, Result, Ok, Err, MatchOption, refl, sym, ap, subst, if◌then◌else◌}
use Rattle.std.specs.List.{AllByRecursion}
use Rattle.ck_model.specs.declared.cell.Payload.TheVariants.{File, Dir}
use Rattle.ck_model.specs.declared.call.Call.{Call}
use Rattle.ck_model.specs.declared.call.Call.TheVariants.{Make, Mkdir, Rm, Rmdir, Mv, Write, Fill, Trunc, Read, List as Ls, Stat, Create, Remove, Nodata, Removable, Ckpts, Mount, Umount, Cread, Clist, Restore, Backup, Full, Info, Sync}
use Rattle.ck_model.specs.declared.reply.Reply.{Reply}
use Rattle.ck_model.specs.declared.reply.Reply.TheVariants.{Done, Delayed, Created, NoSpace}
use Rattle.ck_model.specs.declared.reply.SpaceOf.TheVariants.{Blocks, Records}
use Rattle.ck_model.specs.World.{World}
use Rattle.ck_model.specs.Space.{fits, blocks_fit, held, records_in, no_space, given_up, without_picks, new_block_count}
use Rattle.ck_model.specs.Streams.{Texts}
use Rattle.ck_model.specs.CheckpointCalls.{frozen_world, new_id, checkpoint_named, older_than, any_keeps, as_nodata, with_changed}
use Rattle.ck_model.specs.Step.{Outcome, told, outcome_of, answered, done, with_room, changing, created, converted, step}
use Rattle.ck_model.specs.History.{is_fault, created_id}
use Rattle.ck_laws.specs.Ordinary.{IsOrdinary, OrOrdinary}
use Rattle.ck_laws.proofs.RefusalsLemmas.{and_then-given, and_then-ordinary}
use Rattle.ck_laws.proofs.WorldLemmas.{AddsNone, AddsOne, AddsNone-itself}
use Rattle.ck_laws.proofs.SpaceLemmas.{without_picks-rest, without_picks-adds}
use Rattle.ck_laws.proofs.FileCalls.{ChangesFiles, made-changes, removed-changes, removed_directory-changes, moved-changes, overwritten-changes, truncated-changes}
use Rattle.ck_laws.proofs.CheckpointCalls.{frozen_world-adds, new_id-next, checkpoint_named-ordinary, with_changed-adds, as_nodata-later, dropped-adds, with_flag-adds, restored-adds, mounted-adds, dismounted-adds}
use Rattle.ck_laws.proofs.ReadCalls.{range_read-ordinary, names_listed-ordinary, status_of-ordinary, checkpoint_read-ordinary, checkpoint_names-ordinary, full_stream-ordinary, changed_stream-ordinary}

-- a checkpoint with this id comes, if there is one, and else none
abbrev pub Adds : World → Option ℕ → World → Type 0
Adds w new next = MatchOption new (AddsNone w next) (λ id. (id ≡ w.next.id) × AddsOne w next)

-- no fault is answered, and the checkpoint comes whose id the reply has, if it has one
pub record IsSound (w : World) (outcome : Outcome) : Type 0 where
  pub no_fault : is_fault outcome.reply ≡ false
  pub adds : Adds w (created_id outcome.reply) outcome.next

-- an ordinary reply, and no checkpoint comes
ordinary : (w : World) (outcome : Outcome) → IsOrdinary outcome.reply → AddsNone w outcome.next → IsSound w outcome
ordinary w outcome reply h = record { no_fault = reply.0; adds = subst (λ o. Adds w o outcome.next) (sym reply.1) h }

told-sound : (w : World) (reply : Reply) → IsOrdinary reply → IsSound w (told w reply)
told-sound w reply h = ordinary w (told w reply) h (AddsNone-itself w)

answered-sound : (w : World) (r : Result Reply Reply) → OrOrdinary IsOrdinary r → IsSound w (answered w r)
answered-sound w (Ok reply) h = told-sound w reply h
answered-sound w (Err reply) h = told-sound w reply h

outcome_of-sound : (w : World) (r : Result Outcome Reply) → OrOrdinary (IsSound w) r → IsSound w (outcome_of w r)
outcome_of-sound w (Ok outcome) h = h
outcome_of-sound w (Err reply) h = told-sound w reply h

done-sound : (w : World) (r : Result World Reply) → OrOrdinary (AddsNone w) r → IsSound w (done w r)
done-sound w (Ok next) h = ordinary w (told next Done) (refl, refl) h
done-sound w (Err reply) h = told-sound w reply h

no_space-ordinary : (w next : World) (new : ℕ) → IsOrdinary (no_space w next new)
no_space-ordinary w next new =
    elim (blocks_fit w new) as (λ b. IsOrdinary (if b then NoSpace Records (records_in w) (records_in next - records_in w) w.limits.records else NoSpace Blocks (held w) new w.limits.blocks)) [
      | true ↦ (refl, refl)
      | false ↦ (refl, refl)
    ]

-- whatever is given up, where the effect on what is left is sound
with_room-sound : (w : World) (effect : World → World) (new : ℕ) (reply : Reply) → is_fault reply ≡ false
    → ((left : World) → left ≡ record w { checkpoints = left.checkpoints } → AddsNone w left → Adds w (created_id reply) (effect left))
    → IsSound w (with_room w effect new reply)
with_room-sound w effect new reply no_fault adds =
    let given = given_up (length w.checkpoints) effect new w in
    let left = without_picks given w in
    let fewer = without_picks-adds given w in
    elim (fits left (effect left) new) as (λ b. IsSound w (if b then record { reply = reply; given = given; next = effect left } else record { reply = no_space left (effect left) new; given = given; next = left })) [
      | true ↦ record { no_fault = no_fault; adds = adds left (without_picks-rest given w) fewer }
      | false ↦ ordinary w (record { reply = no_space left (effect left) new; given = given; next = left }) (no_space-ordinary left (effect left) new) fewer
    ]

changing-sound : (w : World) (r : Result World Reply) → OrOrdinary (ChangesFiles w) r → IsSound w (changing w r)
changing-sound w (Ok changed) h =
    with_room-sound w (λ left. record changed { checkpoints = left.checkpoints }) (new_block_count w.next.stamp changed.primary) Done refl
    (λ left rest fewer. record { remain = fewer.remain; id = h.id })
changing-sound w (Err reply) h = told-sound w reply h

created-sound : (w : World) (name : List ℕ) (nodata removable : Bool) (at : ℕ) → IsSound w (created w name nodata removable at)
created-sound w name nodata removable at =
    outcome_of-sound w _ (and_then-given (λ id. (id ≡ w.next.id) × AllByRecursion (λ c. c.name ≢ name) w.checkpoints) (IsSound w) (new_id w name) _ (new_id-next w name) (λ id next.
    with_room-sound w (frozen_world name nodata removable at) 0 (Created id) refl
    (λ left rest fewer. (next.0, frozen_world-adds name nodata removable at w left fewer (ap (λ x. x.primary) rest) next.1))))

delayed_or_done : (b : Bool) → IsOrdinary (if b then Delayed else Done)
delayed_or_done true = (refl, refl)
delayed_or_done false = (refl, refl)

converted-sound : (w : World) (name : List ℕ) → IsSound w (converted w name)
converted-sound w name =
    outcome_of-sound w _ (and_then-ordinary (IsSound w) (checkpoint_named w name) _ (checkpoint_named-ordinary w name) (λ _.
    ordinary w (told (with_changed w name as_nodata) (if any_keeps (older_than w name) then Delayed else Done))
    (delayed_or_done (any_keeps (older_than w name))) (with_changed-adds w name as_nodata as_nodata-later)))

pub step-sound : (texts : Texts) (w : World) (actor at : ℕ) (call : Call) → IsSound w (step texts w actor at call)
step-sound texts w actor at (Make path) = changing-sound w _ (made-changes w path (File 0))
step-sound texts w actor at (Mkdir path) = changing-sound w _ (made-changes w path Dir)
step-sound texts w actor at (Rm path) = changing-sound w _ (removed-changes w path)
step-sound texts w actor at (Rmdir path) = changing-sound w _ (removed_directory-changes w path)
step-sound texts w actor at (Mv path new_path) = changing-sound w _ (moved-changes w path new_path)
step-sound texts w actor at (Write path place bytes) = changing-sound w _ (overwritten-changes w path place bytes)
step-sound texts w actor at (Fill path place len byte) = changing-sound w _ (overwritten-changes w path place (replicate len byte))
step-sound texts w actor at (Trunc path size) = changing-sound w _ (truncated-changes w path size)
step-sound texts w actor at (Read path place len) = answered-sound w _ (range_read-ordinary w.primary path place len)
step-sound texts w actor at (Ls path) = answered-sound w _ (names_listed-ordinary w.primary path)
step-sound texts w actor at (Stat path) = answered-sound w _ (status_of-ordinary w.primary path)
step-sound texts w actor at (Create name nodata removable) = created-sound w name nodata removable at
step-sound texts w actor at (Remove name) = done-sound w _ (dropped-adds w name)
step-sound texts w actor at (Nodata name synchronous) = converted-sound w name
step-sound texts w actor at (Removable name on) = done-sound w _ (with_flag-adds w name on)
step-sound texts w actor at Ckpts = told-sound w _ (refl, refl)
step-sound texts w actor at (Mount letter name) = done-sound w _ (mounted-adds w actor letter name)
step-sound texts w actor at (Umount letter) = done-sound w _ (dismounted-adds w actor letter)
step-sound texts w actor at (Cread letter path place len) = answered-sound w _ (checkpoint_read-ordinary w actor letter path place len)
step-sound texts w actor at (Clist letter path) = answered-sound w _ (checkpoint_names-ordinary w actor letter path)
step-sound texts w actor at (Restore name) = done-sound w _ (restored-adds w name)
step-sound texts w actor at (Backup letter later_letter) = answered-sound w _ (changed_stream-ordinary texts w actor letter later_letter)
step-sound texts w actor at (Full letter) = answered-sound w _ (full_stream-ordinary texts w actor letter)
step-sound texts w actor at Info = told-sound w _ (refl, refl)
step-sound texts w actor at Sync = told-sound w _ (refl, refl)
