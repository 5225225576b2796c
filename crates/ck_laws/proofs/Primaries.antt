-- What every call leaves of the primary map and the counters, from what each call that changes them leaves.
use Rattle.std.proofs.Common.{◌≡◌, ℕ, ◌+◌, Bool, true, false, Some, None, List, [], ◌∷◌, find, length, replicate, Result, Ok, Err, MatchResult, refl, sym, subst, ok_or, if◌then◌else◌}
use Rattle.std.specs.Prelude.{⊤}
use Rattle.std.specs.List.{AllByRecursion}
use Rattle.std.specs.Option.{option_map_or}
use Rattle.std.specs.FinMap as map
use Rattle.ck_model.specs.declared.cell.Payload.TheVariants.{File, Dir}
use Rattle.ck_model.specs.declared.checkpoint.Counters.{Counters}
use Rattle.ck_model.specs.declared.call.Call.{Call}
use Rattle.ck_model.specs.declared.call.Call.TheVariants.{Make, Mkdir, Rm, Rmdir, Mv, Write, Fill, Trunc, Read, List as Ls, Stat, Create, Remove, Nodata as Convert, Removable, Ckpts, Mount, Umount, Cread, Clist, Restore, Backup, Full, Info, Sync}
use Rattle.ck_model.specs.declared.entry.Entry.{Entry}
use Rattle.ck_model.specs.declared.reply.Reply.{Reply}
use Rattle.ck_model.specs.declared.reply.Reply.TheVariants.{Done, Delayed, Created, InUse}
use Rattle.ck_model.specs.Cells.{Cells}
use Rattle.ck_model.specs.Refusals.{and_then, refuse_if}
use Rattle.ck_model.specs.World.{World, Checkpoint}
use Rattle.ck_model.specs.Space.{fits, no_space, given_up, without_picks, new_block_count}
use Rattle.ck_model.specs.Streams.{Texts}
use Rattle.ck_model.specs.FileCalls.{made, removed, removed_directory, moved, overwritten, truncated}
use Rattle.ck_model.specs.CheckpointCalls.{frozen_world, new_id, checkpoint_named, older_than, any_keeps, as_nodata, with_changed, mounted_id, mounted, dismounted, dropped, with_flag, restored}
use Rattle.ck_model.specs.Step.{Outcome, told, outcome_of, answered, done, with_room, changing, created, converted, step}
use Rattle.ck_model.specs.History.{Past, CallsBy, is_fault, world_after, past_after}
use Rattle.ck_laws.proofs.SpaceLemmas.{without_picks-rest}

-- what there is has a property, if it isn't refused
abbrev pub OrRefused : {A : Type 0} → (A → Type 0) → Result A Reply → Type 0
OrRefused P r = MatchResult r P (λ reply. ⊤)

pub then-given : {A B : Type 0} (P : B → Type 0) (r : Result A Reply) (next : A → Result B Reply) → ((x : A) → r ≡ Ok x → OrRefused P (next x)) → OrRefused P (and_then r next)
then-given P (Ok x) next h = h x refl
then-given P (Err e) next h = tt

pub unless : {A : Type 0} (P : A → Type 0) (b : Bool) (reply : Reply) (rest : Result A Reply) → (b ≡ false → OrRefused P rest) → OrRefused P (refuse_if b reply rest)
unless P true reply rest h = tt
unless P false reply rest h = h refl

-- a world's primary map and counters have a property
abbrev pub Leaves : (Cells → Counters → Type 0) → World → Type 0
Leaves P w = P w.primary w.next

abbrev pub LeavesPrimary : (Cells → Counters → Type 0) → Result World Reply → Type 0
LeavesPrimary P r = OrRefused (Leaves P) r

-- the checkpoint that is found is one of those
pub found_of : (P : Checkpoint → Type 0) (p : Checkpoint → Bool) (cs : List Checkpoint) (reply : Reply) (c : Checkpoint) → AllByRecursion P cs → ok_or (find p cs) reply ≡ Ok c → P c
found_of P p [] reply c all h = cc
found_of P p (d ∷ cs) reply c all h =
    elim (p d) as (λ b. ok_or (if b then Some d else find p cs) reply ≡ Ok c → P c) [
      | true ↦ λ same. let is : d ≡ c = cc in subst P is all.0
      | false ↦ λ rest. found_of P p cs reply c all.1 rest
    ] h

-- a property that the primary map and the counters have, and that each call which changes them leaves
pub record Primaries (w : World) (P : Cells → Counters → Type 0) : Type 0 where
  pub stays : P w.primary w.next
  pub counted : P w.primary (record (w.next) { id = w.next.id + 1 })
  pub make : (path : List (List ℕ)) → LeavesPrimary P (made w path (File 0))
  pub mkdir : (path : List (List ℕ)) → LeavesPrimary P (made w path Dir)
  pub rm : (path : List (List ℕ)) → LeavesPrimary P (removed w path)
  pub rmdir : (path : List (List ℕ)) → LeavesPrimary P (removed_directory w path)
  pub mv : (path new_path : List (List ℕ)) → LeavesPrimary P (moved w path new_path)
  pub write : (path : List (List ℕ)) (at : ℕ) (bytes : List ℕ) → LeavesPrimary P (overwritten w path at bytes)
  pub trunc : (path : List (List ℕ)) (size : ℕ) → LeavesPrimary P (truncated w path size)
  pub restore : (name : List ℕ) → LeavesPrimary P (restored w name)

module _ (w : World) (P : Cells → Counters → Type 0) (h : Primaries w P) where
  answered-primary : (r : Result Reply Reply) → Leaves P (answered w r).next
  answered-primary (Ok reply) = h.stays
  answered-primary (Err reply) = h.stays

  done-primary : (r : Result World Reply) → LeavesPrimary P r → Leaves P (done w r).next
  done-primary (Ok next) left = left
  done-primary (Err reply) left = h.stays

  -- whatever is given up, the primary map and the counters stay
  pub fewer-primary : (left : World) → left ≡ record w { checkpoints = left.checkpoints } → Leaves P left
  fewer-primary left rest = subst (Leaves P) (sym rest) h.stays

  with_room-primary : (effect : World → World) (new : ℕ) (reply : Reply) → ((left : World) → left ≡ record w { checkpoints = left.checkpoints } → Leaves P (effect left)) → Leaves P (with_room w effect new reply).next
  with_room-primary effect new reply leaves =
      let given = given_up (length w.checkpoints) effect new w in
      let left = without_picks given w in
      let rest = without_picks-rest given w in
      elim (fits left (effect left) new) as (λ b. Leaves P (if◌then◌else◌ {A = Outcome} b (record { reply = reply; given = given; next = effect left }) (record { reply = no_space left (effect left) new; given = given; next = left })).next) [
        | true ↦ leaves left rest
        | false ↦ fewer-primary left rest
      ]

  changing-primary : (r : Result World Reply) → LeavesPrimary P r → Leaves P (changing w r).next
  changing-primary (Ok changed) left =
      with_room-primary (λ fewer. record changed { checkpoints = fewer.checkpoints }) (new_block_count w.next.stamp changed.primary) Done (λ fewer _. left)
  changing-primary (Err reply) left = h.stays

  created-primary : (name : List ℕ) (nodata removable : Bool) (at : ℕ) → Leaves P (created w name nodata removable at).next
  created-primary name nodata removable at =
      elim (new_id w name) as (λ r. Leaves P (outcome_of w (and_then r (λ id. Ok (with_room w (frozen_world name nodata removable at) 0 (Created id))))).next) [
        | Ok id ↦ with_room-primary (frozen_world name nodata removable at) 0 (Created id) (λ left rest. subst (λ x. Leaves P (frozen_world name nodata removable at x)) (sym rest) h.counted)
        | Err reply ↦ h.stays
      ]

  converted-primary : (name : List ℕ) → Leaves P (converted w name).next
  converted-primary name =
      elim (checkpoint_named w name) as (λ r. Leaves P (outcome_of w (and_then r (λ _. Ok (told (with_changed w name as_nodata) (if any_keeps (older_than w name) then Delayed else Done))))).next) [
        | Ok c ↦ h.stays
        | Err reply ↦ h.stays
      ]

  dropped-primary : (name : List ℕ) → LeavesPrimary P (dropped w name)
  dropped-primary name = then-given (Leaves P) (checkpoint_named w name) _ (λ c _. h.stays)

  with_flag-primary : (name : List ℕ) (on : Bool) → LeavesPrimary P (with_flag w name on)
  with_flag-primary name on = then-given (Leaves P) (checkpoint_named w name) _ (λ c _. h.stays)

  mounted-primary : (actor letter : ℕ) (name : List ℕ) → LeavesPrimary P (mounted w actor letter name)
  mounted-primary actor letter name =
      then-given (Leaves P) (checkpoint_named w name) _ (λ c _.
      unless (Leaves P) (map.contains_key w.mounts (actor, letter)) InUse _ (λ _. h.stays))

  dismounted-primary : (actor letter : ℕ) → LeavesPrimary P (dismounted w actor letter)
  dismounted-primary actor letter = then-given (Leaves P) (mounted_id w actor letter) _ (λ id _. h.stays)

pub step-primary : (texts : Texts) (w : World) (actor at : ℕ) (call : Call) (P : Cells → Counters → Type 0) → Primaries w P → Leaves P (step texts w actor at call).next
step-primary texts w actor at (Make path) P h = changing-primary w P h _ (h.make path)
step-primary texts w actor at (Mkdir path) P h = changing-primary w P h _ (h.mkdir path)
step-primary texts w actor at (Rm path) P h = changing-primary w P h _ (h.rm path)
step-primary texts w actor at (Rmdir path) P h = changing-primary w P h _ (h.rmdir path)
step-primary texts w actor at (Mv path new_path) P h = changing-primary w P h _ (h.mv path new_path)
step-primary texts w actor at (Write path place bytes) P h = changing-primary w P h _ (h.write path place bytes)
step-primary texts w actor at (Fill path place len byte) P h = changing-primary w P h _ (h.write path place (replicate len byte))
step-primary texts w actor at (Trunc path size) P h = changing-primary w P h _ (h.trunc path size)
step-primary texts w actor at (Read path place len) P h = answered-primary w P h _
step-primary texts w actor at (Ls path) P h = answered-primary w P h _
step-primary texts w actor at (Stat path) P h = answered-primary w P h _
step-primary texts w actor at (Create name nodata removable) P h = created-primary w P h name nodata removable at
step-primary texts w actor at (Remove name) P h = done-primary w P h _ (dropped-primary w P h name)
step-primary texts w actor at (Convert name synchronous) P h = converted-primary w P h name
step-primary texts w actor at (Removable name on) P h = done-primary w P h _ (with_flag-primary w P h name on)
step-primary texts w actor at Ckpts P h = h.stays
step-primary texts w actor at (Mount letter name) P h = done-primary w P h _ (mounted-primary w P h actor letter name)
step-primary texts w actor at (Umount letter) P h = done-primary w P h _ (dismounted-primary w P h actor letter)
step-primary texts w actor at (Cread letter path place len) P h = answered-primary w P h _
step-primary texts w actor at (Clist letter path) P h = answered-primary w P h _
step-primary texts w actor at (Restore name) P h = done-primary w P h _ (h.restore name)
step-primary texts w actor at (Backup letter later_letter) P h = answered-primary w P h _
step-primary texts w actor at (Full letter) P h = answered-primary w P h _
step-primary texts w actor at Info P h = h.stays
step-primary texts w actor at Sync P h = h.stays

world_after-primary : (texts : Texts) (w : World) (call : Call) (entry : Entry) (P : Cells → Counters → Type 0) → Primaries w P → Leaves P (world_after texts w call entry)
world_after-primary texts w call entry P h =
    elim (is_fault entry.reply) as (λ b. Leaves P (if b then without_picks entry.given w else (step texts w entry.actor entry.at call).next)) [
      | true ↦ fewer-primary w P h (without_picks entry.given w) (without_picks-rest entry.given w)
      | false ↦ step-primary texts w entry.actor entry.at call P h
    ]

pub past_after-primary : (texts : Texts) (calls : CallsBy) (past : Past) (entry : Entry) (P : Cells → Counters → Type 0) → Primaries past.world P → Leaves P (past_after texts calls past entry).world
past_after-primary texts calls past entry P h =
    elim (calls entry.actor entry.seq) as (λ o. Leaves P (option_map_or (λ call. world_after texts past.world call entry) o past.world)) [
      | None ↦ h.stays
      | Some call ↦ world_after-primary texts past.world call entry P h
    ]
