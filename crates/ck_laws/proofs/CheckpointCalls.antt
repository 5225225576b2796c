-- What a call on checkpoints or mounts can be refused with, and what becomes of the checkpoints.
use Rattle.std.proofs.Common.{◌≡◌, ◌≢◌, ℕ, ◌+◌, Bool, true, false, not, List, [], ◌∷◌, length, Ok, nat_eq, nat_le, find, refl, sym, ap, ◌∙◌, if◌then◌else◌}
use Rattle.std.specs.List.{AllByRecursion, list_any}
use Rattle.std.specs.Cmp.Lexicographic.{bytes_decides}
use Rattle.std.proofs.lemmas.Bool.{or_parts}
use Rattle.std.specs.FinMap as map
use Rattle.ck_model.specs.declared.reply.Reply.TheVariants.{Exists, TooMany, Spent, NoCkpt, NotMounted, Gone}
use Rattle.ck_model.specs.Cells.{marked}
use Rattle.ck_model.specs.World.{World, Checkpoint, keeps_files, is_named, has_id, shown_by}
use Rattle.ck_model.specs.CheckpointCalls.{kind_of, frozen_world, new_id, checkpoint_named, with_changed, as_nodata, dropped, with_flag, restored, mounted, mounted_id, dismounted, standing, mounted_checkpoint, with_data}
use Rattle.ck_model.specs.Refusals.{refuse_if}
use Rattle.ck_laws.proofs.RefusalsLemmas.{and_then-ordinary, refuse_if-ordinary, ok_or-ordinary}
use Rattle.ck_laws.specs.Ordinary.{OrOrdinary, Refuses}
use Rattle.ck_laws.proofs.WorldLemmas.{IsLater, IsLater-itself, marked-shown_by, Remain-itself, Remain-filter, Remain-take, Remain-map, AddsNone, AddsOne}

-- a checkpoint with the primary map comes behind those that are left
pub frozen_world-adds : (name : List ℕ) (nodata removable : Bool) (at : ℕ) (w left : World) → AddsNone w left → left.primary ≡ w.primary → AllByRecursion (λ c. c.name ≢ name) w.checkpoints → AddsOne w (frozen_world name nodata removable at left)
frozen_world-adds name nodata removable at w left h same unnamed = record {
  left = left.checkpoints;
  new = record {
    id = left.next.id;
    name = name;
    kind = kind_of nodata;
    removable = removable;
    ctime = at;
    cells = shown_by (kind_of nodata) left.primary;
  };
  remain = h.remain;
  checkpoints = refl;
  own_id = h.id;
  cells = ap (shown_by (kind_of nodata)) (sym same);
  primary = same;
  new_name = unnamed;
  id = ap (λ id. id + 1) h.id;
}

other_name : (name : List ℕ) (c : Checkpoint) → is_named name c ≡ false → c.name ≢ name
other_name name c h same = let clash : is_named name c ≡ true = (bytes_decides c.name name).1 same in cc

unnamed : (name : List ℕ) (cs : List Checkpoint) → list_any (is_named name) cs ≡ false → AllByRecursion (λ c. c.name ≢ name) cs
unnamed name [] h = tt
unnamed name (c ∷ cs) h = let parts = or_parts (is_named name c) (list_any (is_named name) cs) h in (other_name name c parts.0, unnamed name cs parts.1)

-- the next id, and a name that no checkpoint has
pub new_id-next : (w : World) (name : List ℕ) → OrOrdinary (λ id. (id ≡ w.next.id) × AllByRecursion (λ c. c.name ≢ name) w.checkpoints) (new_id w name)
new_id-next w name =
    elim (list_any (is_named name) w.checkpoints) as (λ b. list_any (is_named name) w.checkpoints ≡ b → OrOrdinary (λ id. (id ≡ w.next.id) × AllByRecursion (λ c. c.name ≢ name) w.checkpoints) (refuse_if b Exists (refuse_if (nat_le w.limits.checkpoints (length w.checkpoints)) (TooMany w.limits.checkpoints) (refuse_if (nat_eq w.next.id 4294967295) Spent (Ok w.next.id))))) [
      | true ↦ λ _. (refl, refl)
      | false ↦ λ none.
          refuse_if-ordinary _ (nat_le w.limits.checkpoints (length w.checkpoints)) _ _ (refl, refl)
          (refuse_if-ordinary _ (nat_eq w.next.id 4294967295) _ _ (refl, refl) (refl, unnamed name w.checkpoints none))
    ] refl

pub checkpoint_named-ordinary : (w : World) (name : List ℕ) → Refuses (checkpoint_named w name)
checkpoint_named-ordinary w name = ok_or-ordinary (find (is_named name) w.checkpoints) NoCkpt (refl, refl)

-- a change of one checkpoint
pub with_changed-adds : (w : World) (name : List ℕ) (change : Checkpoint → Checkpoint) → ((c : Checkpoint) → IsLater c (change c)) → AddsNone w (with_changed w name change)
with_changed-adds w name change later = record {
  remain = Remain-map (λ c. if is_named name c then change c else c) each w.checkpoints;
  id = refl;
}
  where
    each : (c : Checkpoint) → IsLater c (if is_named name c then change c else c)
    each c = elim (is_named name c) as (λ b. IsLater c (if b then change c else c)) [ true ↦ later c | false ↦ IsLater-itself c ]

pub as_nodata-later : (c : Checkpoint) → IsLater c (as_nodata c)
as_nodata-later c = record { id = refl; name = refl; keeps = λ clash. cc; shows = λ m h. sym (marked-shown_by c.kind m) ∙ ap marked h }

pub dropped-adds : (w : World) (name : List ℕ) → OrOrdinary (AddsNone w) (dropped w name)
dropped-adds w name =
    and_then-ordinary (AddsNone w) (checkpoint_named w name) _ (checkpoint_named-ordinary w name) (λ c.
    record { remain = Remain-filter (λ x. not (has_id c.id x)) (Remain-itself w.checkpoints); id = refl })

pub with_flag-adds : (w : World) (name : List ℕ) (on : Bool) → OrOrdinary (AddsNone w) (with_flag w name on)
with_flag-adds w name on =
    and_then-ordinary (AddsNone w) (checkpoint_named w name) _ (checkpoint_named-ordinary w name) (λ _.
    with_changed-adds w name (λ c. record c { removable = on }) (λ c. record { id = refl; name = refl; keeps = λ keeps. (keeps, refl); shows = λ m h. h }))

pub restored-adds : (w : World) (name : List ℕ) → OrOrdinary (AddsNone w) (restored w name)
restored-adds w name =
    and_then-ordinary (AddsNone w) (checkpoint_named w name) _ (checkpoint_named-ordinary w name) (λ c.
    refuse_if-ordinary (AddsNone w) (not (keeps_files c.kind)) _ _ (refl, refl)
    (record { remain = Remain-take _ w.checkpoints; id = refl }))

pub mounted-adds : (w : World) (actor letter : ℕ) (name : List ℕ) → OrOrdinary (AddsNone w) (mounted w actor letter name)
mounted-adds w actor letter name =
    and_then-ordinary (AddsNone w) (checkpoint_named w name) _ (checkpoint_named-ordinary w name) (λ c.
    refuse_if-ordinary (AddsNone w) (map.contains_key w.mounts (actor, letter)) _ _ (refl, refl)
    (record { remain = Remain-itself w.checkpoints; id = refl }))

pub mounted_id-ordinary : (w : World) (actor letter : ℕ) → Refuses (mounted_id w actor letter)
mounted_id-ordinary w actor letter = ok_or-ordinary (map.get w.mounts (actor, letter)) NotMounted (refl, refl)

pub dismounted-adds : (w : World) (actor letter : ℕ) → OrOrdinary (AddsNone w) (dismounted w actor letter)
dismounted-adds w actor letter =
    and_then-ordinary (AddsNone w) (mounted_id w actor letter) _ (mounted_id-ordinary w actor letter) (λ _.
    record { remain = Remain-itself w.checkpoints; id = refl })

pub standing-ordinary : (w : World) (id : ℕ) → Refuses (standing w id)
standing-ordinary w id = ok_or-ordinary (find (has_id id) w.checkpoints) (Gone id) (refl, refl)

pub mounted_checkpoint-ordinary : (w : World) (actor letter : ℕ) → Refuses (mounted_checkpoint w actor letter)
mounted_checkpoint-ordinary w actor letter =
    and_then-ordinary _ (mounted_id w actor letter) _ (mounted_id-ordinary w actor letter) (standing-ordinary w)

pub with_data-ordinary : (c : Checkpoint) → Refuses (with_data c)
with_data-ordinary c = refuse_if-ordinary _ (not (keeps_files c.kind)) _ _ (refl, refl) tt
