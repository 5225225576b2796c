-- What becomes of a world's checkpoints: some leave, and the others stay as they are or become nodata.
use Rattle.std.proofs.Common.{◌≡◌, ◌≢◌, ◌≤◌, ℕ, zero, suc, ◌+◌, Bool, true, false, cond, List, [], ◌∷◌, ◌++◌, map as list_map, filter, take, refl, sym, subst, arith}
use Rattle.std.specs.List.{AllByRecursion}
use Rattle.ck_model.specs.declared.checkpoint.Kind.{Kind}
use Rattle.ck_model.specs.declared.checkpoint.Kind.TheVariants.{Keeping, Nodata}
use Rattle.ck_model.specs.Cells.{Cells, marked}
use Rattle.ck_model.specs.World.{World, Checkpoint, shown_by}
use Rattle.ck_laws.specs.Laws.{IdsRise}
use Rattle.ck_model.proofs.CellLaws.{marked_again}

pub shown_again : (kind : Kind) (cells : Cells) → shown_by kind (shown_by kind cells) ≡ shown_by kind cells
shown_again Keeping cells = refl
shown_again Nodata cells = marked_again cells

pub marked-shown_by : (kind : Kind) (cells : Cells) → marked (shown_by kind cells) ≡ marked cells
marked-shown_by Keeping cells = refl
marked-shown_by Nodata cells = marked_again cells

-- a checkpoint and the same one later: it shows the same map
pub record IsLater (before : Checkpoint) (after : Checkpoint) : Type 0 where
  pub id : after.id ≡ before.id
  pub name : after.name ≡ before.name
  pub keeps : after.kind ≡ Keeping → (before.kind ≡ Keeping) × (after.cells ≡ before.cells)
  pub shows : (m : Cells) → shown_by before.kind m ≡ before.cells → shown_by after.kind m ≡ after.cells

pub IsLater-itself : (checkpoint : Checkpoint) → IsLater checkpoint checkpoint
IsLater-itself checkpoint = record { id = refl; name = refl; keeps = λ keeps. (keeps, refl); shows = λ m h. h }

-- checkpoints, and those of them that remain
pub data Remain : List Checkpoint → List Checkpoint → Type 0 where
  none : Remain [] []
  keep : {c d : Checkpoint} {cs ds : List Checkpoint} → IsLater c d → Remain cs ds → Remain (c ∷ cs) (d ∷ ds)
  leave : {c : Checkpoint} {cs ds : List Checkpoint} → Remain cs ds → Remain (c ∷ cs) ds

pub Remain-itself : (cs : List Checkpoint) → Remain cs cs
Remain-itself [] = none
Remain-itself (c ∷ cs) = keep (IsLater-itself c) (Remain-itself cs)

pub Remain-nothing : (cs : List Checkpoint) → Remain cs []
Remain-nothing [] = none
Remain-nothing (c ∷ cs) = leave (Remain-nothing cs)

pub Remain-filter : (p : Checkpoint → Bool) {cs ds : List Checkpoint} → Remain cs ds → Remain cs (filter p ds)
Remain-filter p none = none
Remain-filter p (keep {c = c} {d = d} {cs = cs} {ds = ds} later rest) =
    let others = Remain-filter p rest in
    elim (p d) as (λ b. Remain (c ∷ cs) (cond b (d ∷ filter p ds) (filter p ds))) [ true ↦ keep later others | false ↦ leave others ]
Remain-filter p (leave rest) = leave (Remain-filter p rest)

pub Remain-take : (n : ℕ) (cs : List Checkpoint) → Remain cs (take n cs)
Remain-take zero cs = Remain-nothing cs
Remain-take (suc n) [] = none
Remain-take (suc n) (c ∷ cs) = keep (IsLater-itself c) (Remain-take n cs)

pub Remain-map : (f : Checkpoint → Checkpoint) → ((c : Checkpoint) → IsLater c (f c)) → (cs : List Checkpoint) → Remain cs (list_map f cs)
Remain-map f later [] = none
Remain-map f later (c ∷ cs) = keep (later c) (Remain-map f later cs)

-- what holds of each checkpoint before, for what holds of each that remains
pub All-remain : (P Q : Checkpoint → Type 0) → ((c d : Checkpoint) → IsLater c d → P c → Q d) → {cs ds : List Checkpoint} → Remain cs ds → AllByRecursion P cs → AllByRecursion Q ds
All-remain P Q step none h = h
All-remain P Q step (keep {c = c} {d = d} later rest) h = (step c d later h.0, All-remain P Q step rest h.1)
All-remain P Q step (leave rest) h = All-remain P Q step rest h.1

pub All-append : (P : Checkpoint → Type 0) (cs : List Checkpoint) (new : Checkpoint) → AllByRecursion P cs → P new → AllByRecursion P (cs ++ new ∷ [])
All-append P [] new h here = (here, h)
All-append P (c ∷ cs) new h here = (h.0, All-append P cs new h.1 here)

pub IdsRise-lower : (least more : ℕ) (cs : List Checkpoint) (next : ℕ) → least ≤ more → IdsRise more cs next → IdsRise least cs next
IdsRise-lower least more [] next low h = omega arith
IdsRise-lower least more (c ∷ cs) next low h = (omega (arith, h.0), h.1)

pub IdsRise-remain : {cs ds : List Checkpoint} → Remain cs ds → (least next : ℕ) → IdsRise least cs next → IdsRise least ds next
IdsRise-remain none least next h = h
IdsRise-remain (keep {c = c} {ds = ds} later rest) least next h =
    subst (λ id. (least ≤ id) × IdsRise (id + 1) ds next) (sym later.id) (h.0, IdsRise-remain rest (c.id + 1) next h.1)
IdsRise-remain (leave {c = c} {ds = ds} rest) least next h = IdsRise-lower least (c.id + 1) ds next (omega (arith, h.0)) (IdsRise-remain rest (c.id + 1) next h.1)

pub IdsRise-append : (least : ℕ) (cs : List Checkpoint) (new : Checkpoint) (next : ℕ) → new.id ≡ next → IdsRise least cs next → IdsRise least (cs ++ new ∷ []) (next + 1)
IdsRise-append least [] new next id h = (omega arith, omega arith)
IdsRise-append least (c ∷ cs) new next id h = (h.0, IdsRise-append (c.id + 1) cs new next id h.1)

-- no checkpoint comes, and some may leave
pub record AddsNone (w : World) (next : World) : Type 0 where
  pub remain : Remain w.checkpoints next.checkpoints
  pub id : next.next.id ≡ w.next.id

-- one checkpoint comes, with the next id and the primary map, and some may leave
pub record AddsOne (w : World) (next : World) : Type 0 where
  pub left : List Checkpoint
  pub new : Checkpoint
  pub remain : Remain w.checkpoints left
  pub checkpoints : next.checkpoints ≡ left ++ new ∷ []
  pub own_id : new.id ≡ w.next.id
  pub cells : shown_by new.kind w.primary ≡ new.cells
  pub primary : next.primary ≡ w.primary
  pub new_name : AllByRecursion (λ c. c.name ≢ new.name) w.checkpoints
  pub id : next.next.id ≡ w.next.id + 1

pub AddsNone-itself : (w : World) → AddsNone w w
AddsNone-itself w = record { remain = Remain-itself w.checkpoints; id = refl }
