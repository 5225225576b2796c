-- As a history goes on: what was frozen stays so, and an actor's mounts stay until an entry of its own.
use Rattle.std.proofs.Common.{◌≡◌, ◌≢◌, ℕ, Bool, true, false, not, cond, Option, None, Some, option_map, List, [], ◌∷◌, ◌++◌, find, length, replicate, Result, Ok, Err, nat_eq, if◌then◌else◌, refl, sym, ap, ◌∙◌, subst, arith}
use Rattle.std.specs.List.{AllByRecursion, cons_option}
use Rattle.std.specs.Option.{option_or, option_map_or}
use Rattle.std.specs.Ordering.{eq_by_cmp}
use Rattle.std.specs.Cmp.{IsTotalOrder}
use Rattle.std.specs.Cmp.Lexicographic.{nat_list_cmp_total}
use Rattle.std.specs.FinMap as map
use Rattle.std.specs.FinMap.{nat_cmp-IsAntisymmetric, slice_cmp-IsAntisymmetric}
use Rattle.std.proofs.lemmas.Cmp.{on_total}
use Rattle.ck_model.specs.declared.cell.Payload.TheVariants.{File, Dir}
use Rattle.ck_model.specs.declared.checkpoint.Kind.{Kind}
use Rattle.ck_model.specs.declared.checkpoint.Kind.TheVariants.{Keeping, Nodata}
use Rattle.ck_model.specs.declared.call.Call.{Call}
use Rattle.ck_model.specs.declared.call.Call.TheVariants.{Make, Mkdir, Rm, Rmdir, Mv, Write, Fill, Trunc, Read, List as Ls, Stat, Create, Remove, Nodata as Convert, Removable, Ckpts, Mount, Umount, Cread, Clist, Restore, Backup, Full, Info, Sync}
use Rattle.ck_model.specs.declared.entry.Entry.{Entry}
use Rattle.ck_model.specs.declared.reply.Reply.{Reply}
use Rattle.ck_model.specs.declared.reply.Reply.TheVariants.{Done, Delayed, Created, InUse, NotData}
use Rattle.ck_model.specs.Cells.{Cells}
use Rattle.ck_model.specs.Refusals.{and_then}
use Rattle.ck_model.specs.World.{World, Checkpoint, mount_cmp, keeps_files, has_id, shown_by}
use Rattle.ck_model.specs.Space.{fits, no_space, given_up, without_picks, new_block_count}
use Rattle.ck_model.specs.Streams.{Texts}
use Rattle.ck_model.specs.CheckpointCalls.{frozen_world, new_id, checkpoint_named, older_than, any_keeps, as_nodata, with_changed, mounted_id, mounted, dismounted, dropped, with_flag, restored}
use Rattle.ck_model.specs.Step.{Outcome, told, outcome_of, answered, done, with_room, changing, created, converted, step}
use Rattle.ck_model.specs.History.{Past, CallsBy, begun, created_id, is_fault, world_after, past_after, past_of, state, numbers_of}
use Rattle.ck_laws.specs.Laws.{frozen, frozen_from, KeptMapsAreFrozen, FrozenMapsLast, MountsLast}
use Rattle.ck_laws.specs.Fits.{FitsLast}
use Rattle.ck_laws.specs.Ordinary.{OrOrdinary}
use Rattle.ck_model.proofs.CellLaws.{equal}
use Rattle.ck_model.proofs.HistoryLaws.{past_of-append}
use Rattle.ck_laws.proofs.SpaceLemmas.{without_picks-rest}
use Rattle.ck_laws.proofs.FileCalls.{ChangesFiles, made-changes, removed-changes, removed_directory-changes, moved-changes, overwritten-changes, truncated-changes}
use Rattle.ck_laws.proofs.LawsLemmas.{frozen_maps_stay_lem}
use Rattle.ck_laws.proofs.Primaries.{OrRefused, then-given, unless}

-- ---- mounts of two actors

abbrev spelled : ℕ × ℕ → List ℕ
spelled mount = mount.0 ∷ mount.1 ∷ []

mount_cmp-total : IsTotalOrder mount_cmp
mount_cmp-total = on_total spelled nat_list_cmp_total

-- they aren't one
untied : (x y : ℕ × ℕ) → x.0 ≢ y.0 → eq_by_cmp mount_cmp x y ≡ false
untied x y apart =
    elim (eq_by_cmp mount_cmp x y) as (λ b. eq_by_cmp mount_cmp x y ≡ b → b ≡ false) [
      | true ↦ λ tied.
          let same : spelled x ≡ spelled y = slice_cmp-IsAntisymmetric nat_cmp-IsAntisymmetric (spelled x) (spelled y) (equal (mount_cmp x y) tied) in
          let actors : x.0 ≡ y.0 = cc in
          absurd (apart actors)
      | false ↦ λ _. refl
    ] refl

-- ---- what a call of another actor leaves

module _ (actor letter : ℕ) (w : World) where
  -- the letter stands for the same
  abbrev Keeps : World → Type 0
  Keeps next = map.get next.mounts (actor, letter) ≡ map.get w.mounts (actor, letter)

  fewer-keeps : (left : World) → left ≡ record w { checkpoints = left.checkpoints } → Keeps left
  fewer-keeps left rest = ap (λ x. map.get x.mounts (actor, letter)) rest

  answered-keeps : (r : Result Reply Reply) → Keeps (answered w r).next
  answered-keeps (Ok reply) = refl
  answered-keeps (Err reply) = refl

  done-keeps : (r : Result World Reply) → OrRefused Keeps r → Keeps (done w r).next
  done-keeps (Ok next) keeps = keeps
  done-keeps (Err reply) keeps = refl

  with_room-keeps : (effect : World → World) (new : ℕ) (reply : Reply) → ((left : World) → left ≡ record w { checkpoints = left.checkpoints } → Keeps (effect left)) → Keeps (with_room w effect new reply).next
  with_room-keeps effect new reply keeps =
      let given = given_up (length w.checkpoints) effect new w in
      let left = without_picks given w in
      let rest = without_picks-rest given w in
      elim (fits left (effect left) new) as (λ b. Keeps (if◌then◌else◌ {A = Outcome} b (record { reply = reply; given = given; next = effect left }) (record { reply = no_space left (effect left) new; given = given; next = left })).next) [
        | true ↦ keeps left rest
        | false ↦ fewer-keeps left rest
      ]

  changing-keeps : (r : Result World Reply) → OrOrdinary (ChangesFiles w) r → Keeps (changing w r).next
  changing-keeps (Ok changed) h =
      with_room-keeps (λ left. record changed { checkpoints = left.checkpoints }) (new_block_count w.next.stamp changed.primary) Done (λ left _.
      ap (λ mounts. map.get mounts (actor, letter)) h.mounts)
  changing-keeps (Err reply) h = refl

  created-keeps : (name : List ℕ) (nodata removable : Bool) (at : ℕ) → Keeps (created w name nodata removable at).next
  created-keeps name nodata removable at =
      elim (new_id w name) as (λ r. Keeps (outcome_of w (and_then r (λ id. Ok (with_room w (frozen_world name nodata removable at) 0 (Created id))))).next) [
        | Ok id ↦ with_room-keeps (frozen_world name nodata removable at) 0 (Created id) (λ left rest. fewer-keeps left rest)
        | Err reply ↦ refl
      ]

  converted-keeps : (name : List ℕ) → Keeps (converted w name).next
  converted-keeps name =
      elim (checkpoint_named w name) as (λ r. Keeps (outcome_of w (and_then r (λ _. Ok (told (with_changed w name as_nodata) (if any_keeps (older_than w name) then Delayed else Done))))).next) [
        | Ok c ↦ refl
        | Err reply ↦ refl
      ]

  dropped-keeps : (name : List ℕ) → OrRefused Keeps (dropped w name)
  dropped-keeps name = then-given Keeps (checkpoint_named w name) _ (λ c _. refl)

  with_flag-keeps : (name : List ℕ) (on : Bool) → OrRefused Keeps (with_flag w name on)
  with_flag-keeps name on = then-given Keeps (checkpoint_named w name) _ (λ c _. refl)

  restored-keeps : (name : List ℕ) → OrRefused Keeps (restored w name)
  restored-keeps name = then-given Keeps (checkpoint_named w name) _ (λ c _. unless Keeps (not (keeps_files c.kind)) NotData _ (λ _. refl))

  module _ (other : ℕ) (apart : actor ≢ other) where
    mounted-keeps : (at : ℕ) (name : List ℕ) → OrRefused Keeps (mounted w other at name)
    mounted-keeps at name =
        then-given Keeps (checkpoint_named w name) _ (λ c _.
        unless Keeps (map.contains_key w.mounts (other, at)) InUse _ (λ _.
        map.get-insert mount_cmp-total w.mounts (other, at) c.id (actor, letter)
        ∙ ap (λ b. cond b (Some c.id) (map.get w.mounts (actor, letter))) (untied (actor, letter) (other, at) apart)))

    dismounted-keeps : (at : ℕ) → OrRefused Keeps (dismounted w other at)
    dismounted-keeps at =
        then-given Keeps (mounted_id w other at) _ (λ id _.
        map.get-remove mount_cmp-total w.mounts (other, at) (actor, letter)
        ∙ ap (λ b. cond b None (map.get w.mounts (actor, letter))) (untied (actor, letter) (other, at) apart))

    step-keeps : (texts : Texts) (at : ℕ) (call : Call) → Keeps (step texts w other at call).next
    step-keeps texts at (Make path) = changing-keeps _ (made-changes w path (File 0))
    step-keeps texts at (Mkdir path) = changing-keeps _ (made-changes w path Dir)
    step-keeps texts at (Rm path) = changing-keeps _ (removed-changes w path)
    step-keeps texts at (Rmdir path) = changing-keeps _ (removed_directory-changes w path)
    step-keeps texts at (Mv path new_path) = changing-keeps _ (moved-changes w path new_path)
    step-keeps texts at (Write path place bytes) = changing-keeps _ (overwritten-changes w path place bytes)
    step-keeps texts at (Fill path place len byte) = changing-keeps _ (overwritten-changes w path place (replicate len byte))
    step-keeps texts at (Trunc path size) = changing-keeps _ (truncated-changes w path size)
    step-keeps texts at (Read path place len) = answered-keeps _
    step-keeps texts at (Ls path) = answered-keeps _
    step-keeps texts at (Stat path) = answered-keeps _
    step-keeps texts at (Create name nodata removable) = created-keeps name nodata removable at
    step-keeps texts at (Remove name) = done-keeps _ (dropped-keeps name)
    step-keeps texts at (Convert name synchronous) = converted-keeps name
    step-keeps texts at (Removable name on) = done-keeps _ (with_flag-keeps name on)
    step-keeps texts at Ckpts = refl
    step-keeps texts at (Mount place name) = done-keeps _ (mounted-keeps place name)
    step-keeps texts at (Umount place) = done-keeps _ (dismounted-keeps place)
    step-keeps texts at (Cread place path from len) = answered-keeps _
    step-keeps texts at (Clist place path) = answered-keeps _
    step-keeps texts at (Restore name) = done-keeps _ (restored-keeps name)
    step-keeps texts at (Backup place later) = answered-keeps _
    step-keeps texts at (Full place) = answered-keeps _
    step-keeps texts at Info = refl
    step-keeps texts at Sync = refl

world_after-keeps : (texts : Texts) (actor letter : ℕ) (w : World) (call : Call) (entry : Entry) → actor ≢ entry.actor → Keeps actor letter w (world_after texts w call entry)
world_after-keeps texts actor letter w call entry apart =
    elim (is_fault entry.reply) as (λ b. Keeps actor letter w (if b then without_picks entry.given w else (step texts w entry.actor entry.at call).next)) [
      | true ↦ fewer-keeps actor letter w (without_picks entry.given w) (without_picks-rest entry.given w)
      | false ↦ step-keeps actor letter w entry.actor apart texts entry.at call
    ]

past_after-keeps : (texts : Texts) (calls : CallsBy) (actor letter : ℕ) (past : Past) (entry : Entry) → actor ≢ entry.actor → Keeps actor letter past.world (past_after texts calls past entry).world
past_after-keeps texts calls actor letter past entry apart =
    elim (calls entry.actor entry.seq) as (λ o. Keeps actor letter past.world (option_map_or (λ call. world_after texts past.world call entry) o past.world)) [
      | None ↦ refl
      | Some call ↦ world_after-keeps texts actor letter past.world call entry apart
    ]

-- ---- what a history leaves

-- its first entry isn't the actor's, nor are those behind it
others : (actor : ℕ) (entry : Entry) (entries : List Entry) → numbers_of (entry ∷ entries) actor ≡ [] → (actor ≢ entry.actor) × (numbers_of entries actor ≡ [])
others actor entry entries none =
    elim (nat_eq entry.actor actor) as (λ b. nat_eq entry.actor actor ≡ b → cons_option (if b then Some entry.seq else None) (numbers_of entries actor) ≡ [] → (actor ≢ entry.actor) × (numbers_of entries actor ≡ [])) [
      | true ↦ λ _ none. cc
      | false ↦ λ other none. ((λ same. let own : nat_eq entry.actor actor ≡ true = subst (λ n. nat_eq entry.actor n ≡ true) (sym same) (nat_eq-itself entry.actor) in cc), none)
    ] refl none
  where
    nat_eq-itself : (n : ℕ) → nat_eq n n ≡ true
    nat_eq-itself n = grind arith

mounts_last_from : (texts : Texts) (calls : CallsBy) (actor letter : ℕ) (past : Past) (entries : List Entry) → numbers_of entries actor ≡ [] → Keeps actor letter past.world (past_of texts calls past entries).world
mounts_last_from texts calls actor letter past [] none = refl
mounts_last_from texts calls actor letter past (entry ∷ entries) none =
    let both = others actor entry entries none in
    mounts_last_from texts calls actor letter (past_after texts calls past entry) entries both.1 ∙ past_after-keeps texts calls actor letter past entry both.0

pub mounts_last_lem : MountsLast
mounts_last_lem texts calls w history more actor letter none =
    ap (λ past. map.get past.world.mounts (actor, letter)) (past_of-append texts calls (begun w) history more)
    ∙ mounts_last_from texts calls actor letter (past_of texts calls (begun w) history) more none

frozen_from-last : (texts : Texts) (calls : CallsBy) (past : Past) (history more : List Entry) (id : ℕ) (cells : Cells) → frozen_from texts calls past history id ≡ Some cells → frozen_from texts calls past (history ++ more) id ≡ Some cells
frozen_from-last texts calls past [] more id cells is = cc
frozen_from-last texts calls past (entry ∷ entries) more id cells is =
    let after = past_after texts calls past entry in
    elim (option_map_or (nat_eq id) (created_id entry.reply) false) as (λ b. (if b then Some past.world.primary else frozen_from texts calls after entries id) ≡ Some cells → (if b then Some past.world.primary else frozen_from texts calls after (entries ++ more) id) ≡ Some cells) [
      | true ↦ λ is. is
      | false ↦ λ is. frozen_from-last texts calls after entries more id cells is
    ] is

either_last : (first o p : Option Cells) (cells : Cells) → (o ≡ Some cells → p ≡ Some cells) → option_or first o ≡ Some cells → option_or first p ≡ Some cells
either_last None o p cells later is = later is
either_last (Some m) o p cells later is = is

pub frozen_maps_last_lem : FrozenMapsLast
frozen_maps_last_lem texts calls w history more id cells is =
    either_last _ (frozen_from texts calls (begun w) history id) (frozen_from texts calls (begun w) (history ++ more) id) cells (frozen_from-last texts calls (begun w) history more id cells) is

-- ---- the checkpoints that stand with their data

own_id : (id : ℕ) (cs : List Checkpoint) (c : Checkpoint) → find (has_id id) cs ≡ Some c → c.id ≡ id
own_id id [] c is = cc
own_id id (d ∷ cs) c is =
    elim (has_id id d) as (λ b. has_id id d ≡ b → (if b then Some d else find (has_id id) cs) ≡ Some c → c.id ≡ id) [
      | true ↦ λ own same. let is : d ≡ c = cc in subst (λ (x : Checkpoint). x.id ≡ id) is (grind (arith, own))
      | false ↦ λ _ rest. own_id id cs c rest
    ] refl is

among : (P : Checkpoint → Type 0) (p : Checkpoint → Bool) (cs : List Checkpoint) (c : Checkpoint) → AllByRecursion P cs → find p cs ≡ Some c → P c
among P p [] c all is = cc
among P p (d ∷ cs) c all is =
    elim (p d) as (λ b. (if b then Some d else find p cs) ≡ Some c → P c) [
      | true ↦ λ same. let is : d ≡ c = cc in subst P is all.0
      | false ↦ λ rest. among P p cs c all.1 rest
    ] is

with_data : (kind : Kind) (o : Option Cells) (cells : Cells) → kind ≡ Keeping → option_map (shown_by kind) o ≡ Some cells → o ≡ Some cells
with_data kind None cells keeping is = cc
with_data Keeping (Some m) cells keeping is = is
with_data Nodata (Some m) cells keeping is = cc

pub kept_maps_are_frozen_lem : KeptMapsAreFrozen
kept_maps_are_frozen_lem texts calls w history world legal id c found keeping =
    let maps = frozen texts calls w history in
    let shown = among (λ x. option_map (shown_by x.kind) (maps x.id) ≡ Some x.cells) (has_id id) (state texts calls w history).checkpoints c (frozen_maps_stay_lem texts calls w history world legal) found in
    ap maps (sym (own_id id (state texts calls w history).checkpoints c found)) ∙ with_data c.kind (maps c.id) c.cells keeping shown

-- ---- a read on its way

pub fits_last_lem : FitsLast
fits_last_lem texts calls w history more actor (Cread letter path at len) reading none fits = record {
  mounted = mounts_last_lem texts calls w history more actor letter none ∙ fits.mounted;
  cells = fits.cells;
  cells_are = frozen_maps_last_lem texts calls w history more reading.ckpt fits.cells fits.cells_are;
  read = fits.read;
}
fits_last_lem texts calls w history more actor _ reading none fits = absurd fits
