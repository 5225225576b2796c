-- Only `ls` and `cls` are answered by names, and only `ckpts` by a list of checkpoints.
use Rattle.std.proofs.Common.{◌≡◌, ℕ, ◌+◌, ◌-◌, ◌&&◌, ◌||◌, Bool, true, false, Option, None, Some, MatchOption, Result, Ok, Err, MatchResult, List, [], ◌∷◌, length, take, nat_eq, nat_le, nat_lt, not, find, ok_or, replicate, refl, sym, subst, if◌then◌else◌}
use Rattle.std.specs.Prelude.{⊤}
use Rattle.std.specs.List.{list_any}
use Rattle.std.specs.FinMap as map
use Rattle.ck_model.specs.declared.call.Call.{Call}
use Rattle.ck_model.specs.declared.call.Call.TheVariants.{Make, Mkdir, Rm, Rmdir, Mv, Write, Fill, Trunc, Read, List as Ls, Stat, Create, Remove, Nodata, Removable, Ckpts, Mount, Umount, Cread, Clist, Restore, Backup, Full, Info, Sync}
use Rattle.ck_model.specs.declared.cell.Payload.{Payload}
use Rattle.ck_model.specs.declared.cell.Payload.TheVariants.{File, Dir}
use Rattle.ck_model.specs.declared.path.WalkFault.{WalkFault}
use Rattle.ck_model.specs.declared.path.WalkFault.TheVariants as fault
use Rattle.ck_model.specs.declared.reply.Reply.{Reply}
use Rattle.ck_model.specs.declared.reply.Reply.TheVariants as reply
use Rattle.ck_model.specs.declared.reply.SpaceOf.TheVariants.{Blocks, Records}
use Rattle.ck_model.specs.Cells.{Cells, is_directory_at, size_at}
use Rattle.ck_model.specs.Contents.{children}
use Rattle.ck_model.specs.Refusals.{and_then, refuse_if, or_refused}
use Rattle.ck_model.specs.World.{World, Checkpoint, keeps_files, is_named, has_id}
use Rattle.ck_model.specs.Walk.{walk, node_at, file_at, directory_at, name_at, new_name_at}
use Rattle.ck_model.specs.Space.{fits, blocks_fit, held, records_in, no_space, given_up, without_picks, new_block_count}
use Rattle.ck_model.specs.Streams.{Texts}
use Rattle.ck_model.specs.FileCalls.{is_spent, has_names, made, removed, removed_directory, moved, overwritten, truncated}
use Rattle.ck_model.specs.Limits.{file_limit}
use Rattle.ck_model.specs.CheckpointCalls.{frozen_world, new_id, checkpoint_named, older_than, any_keeps, dropped, with_flag, restored, mounted, mounted_id, dismounted, standing, mounted_checkpoint, with_data}
use Rattle.ck_model.specs.ReadCalls.{range_read, names_listed, stat_reply, status_of, checkpoint_read, checkpoint_names, full_stream, changed_stream}
use Rattle.ck_model.specs.Step.{Outcome, outcome_of, answered, done, with_room, changing, created, converted, step}

-- whether a reply lists checkpoints, or names
abbrev pub lists : Reply → Option Bool
lists (reply.Names children) = Some false
lists (reply.Listing lines) = Some true
lists _ = None

-- whether a call asks for the checkpoints
abbrev pub asks_checkpoints : Call → Bool
asks_checkpoints Ckpts = true
asks_checkpoints _ = false

-- the reply lists nothing that the call doesn't ask for
abbrev pub Answers : Bool → Reply → Type 0
Answers asks reply = MatchOption (lists reply) ⊤ (λ checkpoints. checkpoints ≡ asks)

-- what there is has a property, and a refusal lists nothing
abbrev OrPlain : {A : Type 0} → (A → Type 0) → Result A Reply → Type 0
OrPlain P r = MatchResult r P (λ reply. lists reply ≡ None)

abbrev Refuses : {A : Type 0} → Result A Reply → Type 0
Refuses r = OrPlain (λ _. ⊤) r

and_then-plain : {A B : Type 0} (P : B → Type 0) (r : Result A Reply) (next : A → Result B Reply) → Refuses r → ((x : A) → OrPlain P (next x)) → OrPlain P (and_then r next)
and_then-plain P (Ok x) next h more = more x
and_then-plain P (Err e) next h more = h

refuse_if-plain : {A : Type 0} (P : A → Type 0) (b : Bool) (reply : Reply) (rest : Result A Reply) → lists reply ≡ None → OrPlain P rest → OrPlain P (refuse_if b reply rest)
refuse_if-plain P true reply rest h more = h
refuse_if-plain P false reply rest h more = more

ok_or-plain : {A : Type 0} (o : Option A) (reply : Reply) → lists reply ≡ None → Refuses (ok_or o reply)
ok_or-plain None reply h = h
ok_or-plain (Some x) reply h = tt

or_refused-plain : {A : Type 0} (r : Result A WalkFault) → Refuses (or_refused r)
or_refused-plain (Ok x) = tt
or_refused-plain (Err fault.NotFound) = refl
or_refused-plain (Err fault.NotDir) = refl

-- the walks to paths

file_at-plain : (cells : Cells) (path : List (List ℕ)) → Refuses (file_at cells path)
file_at-plain cells path =
    and_then-plain _ (node_at cells path) _ (or_refused-plain (walk cells path)) (λ node.
    refuse_if-plain _ (is_directory_at cells node) _ (Ok node) refl tt)

or_not_dir : (b : Bool) (node : ℕ) → Refuses (if b then Ok node else Err reply.NotDir)
or_not_dir true node = tt
or_not_dir false node = refl

directory_at-plain : (cells : Cells) (path : List (List ℕ)) → Refuses (directory_at cells path)
directory_at-plain cells path =
    and_then-plain _ (node_at cells path) _ (or_refused-plain (walk cells path)) (λ node. or_not_dir (is_directory_at cells node) node)

name_at-plain : (cells : Cells) (of_slash : Reply) (path : List (List ℕ)) → lists of_slash ≡ None → Refuses (name_at cells of_slash path)
name_at-plain cells of_slash [] h = h
name_at-plain cells of_slash (name ∷ names) h =
    and_then-plain _ (directory_at cells (take (length (name ∷ names) - 1) (name ∷ names))) _ (directory_at-plain cells _) (λ directory. tt)

new_name_at-plain : (cells : Cells) (path : List (List ℕ)) → Refuses (new_name_at cells path)
new_name_at-plain cells path =
    and_then-plain _ (name_at cells reply.Exists path) _ (name_at-plain cells reply.Exists path refl) (λ key.
    refuse_if-plain _ (map.contains_key cells key) _ (Ok key) refl tt)

-- the calls that change files

made-plain : (w : World) (path : List (List ℕ)) (payload : Payload) → Refuses (made w path payload)
made-plain w path payload =
    and_then-plain _ (new_name_at w.primary path) _ (new_name_at-plain w.primary path) (λ name.
    refuse_if-plain _ (is_spent w || nat_eq w.next.number 4294967295) _ _ refl tt)

removed-plain : (w : World) (path : List (List ℕ)) → Refuses (removed w path)
removed-plain w path =
    and_then-plain _ (file_at w.primary path) _ (file_at-plain w.primary path) (λ node.
    and_then-plain _ (name_at w.primary reply.IsDir path) _ (name_at-plain w.primary reply.IsDir path refl) (λ name.
    refuse_if-plain _ (is_spent w) _ _ refl tt))

removed_directory-plain : (w : World) (path : List (List ℕ)) → Refuses (removed_directory w path)
removed_directory-plain w path =
    and_then-plain _ (name_at w.primary reply.Root path) _ (name_at-plain w.primary reply.Root path refl) (λ name.
    and_then-plain _ (directory_at w.primary path) _ (directory_at-plain w.primary path) (λ node.
    refuse_if-plain _ (has_names w.primary node) _ _ refl
    (refuse_if-plain _ (is_spent w) _ _ refl tt)))

moved-plain : (w : World) (path new_path : List (List ℕ)) → Refuses (moved w path new_path)
moved-plain w path new_path =
    and_then-plain _ (file_at w.primary path) _ (file_at-plain w.primary path) (λ node.
    and_then-plain _ (new_name_at w.primary new_path) _ (new_name_at-plain w.primary new_path) (λ to.
    refuse_if-plain _ (is_spent w) _ _ refl
    (and_then-plain _ (name_at w.primary reply.IsDir path) _ (name_at-plain w.primary reply.IsDir path refl) (λ from. tt))))

overwritten-plain : (w : World) (path : List (List ℕ)) (at : ℕ) (bytes : List ℕ) → Refuses (overwritten w path at bytes)
overwritten-plain w path at bytes =
    and_then-plain _ (file_at w.primary path) _ (file_at-plain w.primary path) (λ node.
    refuse_if-plain _ (nat_lt 0 (length bytes) && nat_lt file_limit (at + length bytes)) _ _ refl
    (refuse_if-plain _ (is_spent w) _ _ refl tt))

truncated-plain : (w : World) (path : List (List ℕ)) (size : ℕ) → Refuses (truncated w path size)
truncated-plain w path size =
    and_then-plain _ (file_at w.primary path) _ (file_at-plain w.primary path) (λ node.
    refuse_if-plain _ (is_spent w) _ _ refl tt)

-- the calls on checkpoints and mounts

new_id-plain : (w : World) (name : List ℕ) → Refuses (new_id w name)
new_id-plain w name =
    refuse_if-plain _ (list_any (is_named name) w.checkpoints) _ _ refl
    (refuse_if-plain _ (nat_le w.limits.checkpoints (length w.checkpoints)) _ _ refl
    (refuse_if-plain _ (nat_eq w.next.id 4294967295) _ _ refl tt))

checkpoint_named-plain : (w : World) (name : List ℕ) → Refuses (checkpoint_named w name)
checkpoint_named-plain w name = ok_or-plain (find (is_named name) w.checkpoints) reply.NoCkpt refl

dropped-plain : (w : World) (name : List ℕ) → Refuses (dropped w name)
dropped-plain w name = and_then-plain _ (checkpoint_named w name) _ (checkpoint_named-plain w name) (λ c. tt)

with_flag-plain : (w : World) (name : List ℕ) (on : Bool) → Refuses (with_flag w name on)
with_flag-plain w name on = and_then-plain _ (checkpoint_named w name) _ (checkpoint_named-plain w name) (λ c. tt)

restored-plain : (w : World) (name : List ℕ) → Refuses (restored w name)
restored-plain w name =
    and_then-plain _ (checkpoint_named w name) _ (checkpoint_named-plain w name) (λ c.
    refuse_if-plain _ (not (keeps_files c.kind)) _ _ refl tt)

mounted-plain : (w : World) (actor letter : ℕ) (name : List ℕ) → Refuses (mounted w actor letter name)
mounted-plain w actor letter name =
    and_then-plain _ (checkpoint_named w name) _ (checkpoint_named-plain w name) (λ c.
    refuse_if-plain _ (map.contains_key w.mounts (actor, letter)) _ _ refl tt)

mounted_id-plain : (w : World) (actor letter : ℕ) → Refuses (mounted_id w actor letter)
mounted_id-plain w actor letter = ok_or-plain (map.get w.mounts (actor, letter)) reply.NotMounted refl

dismounted-plain : (w : World) (actor letter : ℕ) → Refuses (dismounted w actor letter)
dismounted-plain w actor letter = and_then-plain _ (mounted_id w actor letter) _ (mounted_id-plain w actor letter) (λ _. tt)

standing-plain : (w : World) (id : ℕ) → Refuses (standing w id)
standing-plain w id = ok_or-plain (find (has_id id) w.checkpoints) (reply.Gone id) refl

mounted_checkpoint-plain : (w : World) (actor letter : ℕ) → Refuses (mounted_checkpoint w actor letter)
mounted_checkpoint-plain w actor letter = and_then-plain _ (mounted_id w actor letter) _ (mounted_id-plain w actor letter) (standing-plain w)

with_data-plain : (c : Checkpoint) → Refuses (with_data c)
with_data-plain c = refuse_if-plain _ (not (keeps_files c.kind)) _ _ refl tt

-- the calls that tell something

abbrev Tells : Result Reply Reply → Type 0
Tells r = OrPlain (Answers false) r

range_read-tells : (cells : Cells) (path : List (List ℕ)) (at len : ℕ) → Tells (range_read cells path at len)
range_read-tells cells path at len = and_then-plain _ (file_at cells path) _ (file_at-plain cells path) (λ node. tt)

names_listed-tells : (cells : Cells) (path : List (List ℕ)) → Tells (names_listed cells path)
names_listed-tells cells path = and_then-plain _ (directory_at cells path) _ (directory_at-plain cells path) (λ node. refl)

stat_reply-tells : (cells : Cells) (node : ℕ) → Answers false (stat_reply cells node)
stat_reply-tells cells node =
    elim (is_directory_at cells node) as (λ b. Answers false (if b then reply.StatDir node (length (children cells node)) else reply.StatFile node (size_at cells node))) [ true ↦ tt | false ↦ tt ]

status_of-tells : (cells : Cells) (path : List (List ℕ)) → Tells (status_of cells path)
status_of-tells cells path = and_then-plain _ (node_at cells path) _ (or_refused-plain (walk cells path)) (stat_reply-tells cells)

checkpoint_read-tells : (w : World) (actor letter : ℕ) (path : List (List ℕ)) (at len : ℕ) → Tells (checkpoint_read w actor letter path at len)
checkpoint_read-tells w actor letter path at len =
    and_then-plain _ (mounted_checkpoint w actor letter) _ (mounted_checkpoint-plain w actor letter) (λ mounted.
    and_then-plain _ (with_data mounted) _ (with_data-plain mounted) (λ c. range_read-tells c.cells path at len))

checkpoint_names-tells : (w : World) (actor letter : ℕ) (path : List (List ℕ)) → Tells (checkpoint_names w actor letter path)
checkpoint_names-tells w actor letter path =
    and_then-plain _ (mounted_checkpoint w actor letter) _ (mounted_checkpoint-plain w actor letter) (λ c. names_listed-tells c.cells path)

full_stream-tells : (texts : Texts) (w : World) (actor letter : ℕ) → Tells (full_stream texts w actor letter)
full_stream-tells texts w actor letter =
    and_then-plain _ (mounted_checkpoint w actor letter) _ (mounted_checkpoint-plain w actor letter) (λ mounted.
    and_then-plain _ (with_data mounted) _ (with_data-plain mounted) (λ c. tt))

changed_stream-tells : (texts : Texts) (w : World) (actor letter later_letter : ℕ) → Tells (changed_stream texts w actor letter later_letter)
changed_stream-tells texts w actor letter later_letter =
    and_then-plain _ (mounted_id w actor letter) _ (mounted_id-plain w actor letter) (λ first.
    and_then-plain _ (mounted_id w actor later_letter) _ (mounted_id-plain w actor later_letter) (λ second.
    and_then-plain _ (standing w first) _ (standing-plain w first) (λ earlier.
    and_then-plain _ (standing w second) _ (standing-plain w second) (λ mounted.
    refuse_if-plain _ (nat_lt second first) _ _ refl
    (and_then-plain _ (with_data mounted) _ (with_data-plain mounted) (λ later. tt))))))

-- the step

pub plain-answers : (asks : Bool) (reply : Reply) → lists reply ≡ None → Answers asks reply
plain-answers asks reply plain = subst (λ o. MatchOption o ⊤ (λ checkpoints. checkpoints ≡ asks)) (sym plain) tt

answered-answers : (w : World) (r : Result Reply Reply) → Tells r → Answers false (answered w r).reply
answered-answers w (Ok reply) h = h
answered-answers w (Err reply) h = plain-answers false reply h

done-plain : (w : World) (r : Result World Reply) → Refuses r → lists (done w r).reply ≡ None
done-plain w (Ok next) h = refl
done-plain w (Err reply) h = h

no_space-plain : (w next : World) (new : ℕ) → lists (no_space w next new) ≡ None
no_space-plain w next new =
    elim (blocks_fit w new) as (λ b. lists (if b then reply.NoSpace Records (records_in w) (records_in next - records_in w) w.limits.records else reply.NoSpace Blocks (held w) new w.limits.blocks) ≡ None) [
      | true ↦ refl
      | false ↦ refl
    ]

with_room-plain : (w : World) (effect : World → World) (new : ℕ) (reply : Reply) → lists reply ≡ None → lists (with_room w effect new reply).reply ≡ None
with_room-plain w effect new reply plain =
    let given = given_up (length w.checkpoints) effect new w in
    let left = without_picks given w in
    let chosen : Bool → Outcome = λ b. if b then record { reply = reply; given = given; next = effect left } else record { reply = no_space left (effect left) new; given = given; next = left } in
    elim (fits left (effect left) new) as (λ b. lists (chosen b).reply ≡ None) [
      | true ↦ plain
      | false ↦ no_space-plain left (effect left) new
    ]

changing-plain : (w : World) (r : Result World Reply) → Refuses r → lists (changing w r).reply ≡ None
changing-plain w (Ok changed) h = with_room-plain w (λ left. record changed { checkpoints = left.checkpoints }) (new_block_count w.next.stamp changed.primary) reply.Done refl
changing-plain w (Err reply) h = h

outcome_of-plain : (w : World) (r : Result Outcome Reply) → OrPlain (λ outcome. lists outcome.reply ≡ None) r → lists (outcome_of w r).reply ≡ None
outcome_of-plain w (Ok outcome) h = h
outcome_of-plain w (Err reply) h = h

created-plain : (w : World) (name : List ℕ) (nodata removable : Bool) (at : ℕ) → lists (created w name nodata removable at).reply ≡ None
created-plain w name nodata removable at =
    outcome_of-plain w _ (and_then-plain _ (new_id w name) _ (new_id-plain w name) (λ id.
    with_room-plain w (frozen_world name nodata removable at) 0 (reply.Created id) refl))

delayed_or_done : (b : Bool) → lists (if b then reply.Delayed else reply.Done) ≡ None
delayed_or_done true = refl
delayed_or_done false = refl

converted-plain : (w : World) (name : List ℕ) → lists (converted w name).reply ≡ None
converted-plain w name =
    outcome_of-plain w _ (and_then-plain _ (checkpoint_named w name) _ (checkpoint_named-plain w name) (λ _.
    delayed_or_done (any_keeps (older_than w name))))

pub step-answers : (texts : Texts) (w : World) (actor at : ℕ) (call : Call) → Answers (asks_checkpoints call) (step texts w actor at call).reply
step-answers texts w actor at (Make path) = plain-answers false _ (changing-plain w _ (made-plain w path (File 0)))
step-answers texts w actor at (Mkdir path) = plain-answers false _ (changing-plain w _ (made-plain w path Dir))
step-answers texts w actor at (Rm path) = plain-answers false _ (changing-plain w _ (removed-plain w path))
step-answers texts w actor at (Rmdir path) = plain-answers false _ (changing-plain w _ (removed_directory-plain w path))
step-answers texts w actor at (Mv path new_path) = plain-answers false _ (changing-plain w _ (moved-plain w path new_path))
step-answers texts w actor at (Write path place bytes) = plain-answers false _ (changing-plain w _ (overwritten-plain w path place bytes))
step-answers texts w actor at (Fill path place len byte) = plain-answers false _ (changing-plain w _ (overwritten-plain w path place (replicate len byte)))
step-answers texts w actor at (Trunc path size) = plain-answers false _ (changing-plain w _ (truncated-plain w path size))
step-answers texts w actor at (Read path place len) = answered-answers w _ (range_read-tells w.primary path place len)
step-answers texts w actor at (Ls path) = answered-answers w _ (names_listed-tells w.primary path)
step-answers texts w actor at (Stat path) = answered-answers w _ (status_of-tells w.primary path)
step-answers texts w actor at (Create name nodata removable) = plain-answers false _ (created-plain w name nodata removable at)
step-answers texts w actor at (Remove name) = plain-answers false _ (done-plain w _ (dropped-plain w name))
step-answers texts w actor at (Nodata name synchronous) = plain-answers false _ (converted-plain w name)
step-answers texts w actor at (Removable name on) = plain-answers false _ (done-plain w _ (with_flag-plain w name on))
step-answers texts w actor at Ckpts = refl
step-answers texts w actor at (Mount letter name) = plain-answers false _ (done-plain w _ (mounted-plain w actor letter name))
step-answers texts w actor at (Umount letter) = plain-answers false _ (done-plain w _ (dismounted-plain w actor letter))
step-answers texts w actor at (Cread letter path place len) = answered-answers w _ (checkpoint_read-tells w actor letter path place len)
step-answers texts w actor at (Clist letter path) = answered-answers w _ (checkpoint_names-tells w actor letter path)
step-answers texts w actor at (Restore name) = plain-answers false _ (done-plain w _ (restored-plain w name))
step-answers texts w actor at (Backup letter later_letter) = answered-answers w _ (changed_stream-tells texts w actor letter later_letter)
step-answers texts w actor at (Full letter) = answered-answers w _ (full_stream-tells texts w actor letter)
step-answers texts w actor at Info = tt
step-answers texts w actor at Sync = tt
