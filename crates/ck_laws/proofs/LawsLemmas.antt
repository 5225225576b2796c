-- What a legal history keeps of a world: the order of ids, marks in nodata checkpoints, and the frozen maps.
use Rattle.std.proofs.Common.{◌≡◌, ◌≤◌, ◌<◌, ℕ, ◌+◌, Bool, true, false, Option, None, Some, option_map, List, [], ◌∷◌, ◌++◌, find, nat_eq, refl, sym, ap, ◌∙◌, subst, arith, le_refl, eq-eqb, ne_eqb, if◌then◌else◌}
use Rattle.std.specs.List.{AllByRecursion}
use Rattle.std.specs.Option.{option_or, option_map_or}
use Rattle.ck_model.specs.declared.entry.Entry.{Entry}
use Rattle.ck_model.specs.Cells.{Cells}
use Rattle.ck_model.specs.World.{World, Checkpoint, empty_world, has_id, shown_by}
use Rattle.ck_model.specs.declared.checkpoint.Limits.{Limits}
use Rattle.ck_model.specs.Streams.{Texts}
use Rattle.ck_model.specs.History.{Past, CallsBy, begun, created_id, past_after, past_of, IsLegalFrom}
use Rattle.ck_laws.specs.Laws.{IdsRise, IsOrdered, frozen_from, FrozenMapsStay, OrderStays}
use Rattle.ck_laws.proofs.WorldLemmas.{IsLater, Remain-itself, All-remain, All-append, IdsRise-remain, IdsRise-append, shown_again}
use Rattle.ck_laws.proofs.StepLemmas.{Adds}
use Rattle.ck_laws.proofs.HistoryLemmas.{past_after-adds}

-- a checkpoint shows of its own map that map
abbrev IsShown : Checkpoint → Type 0
IsShown c = shown_by c.kind c.cells ≡ c.cells

shown_later : (c d : Checkpoint) → IsLater c d → IsShown c → IsShown d
shown_later c d later h =
    let now : shown_by d.kind c.cells ≡ d.cells = later.shows c.cells h in
    ap (shown_by d.kind) (sym now) ∙ shown_again d.kind c.cells ∙ now

shown_new : (w : World) (new : Checkpoint) → shown_by new.kind w.primary ≡ new.cells → IsShown new
shown_new w new h = ap (shown_by new.kind) (sym h) ∙ shown_again new.kind w.primary ∙ h

pub IsOrdered-adds : (w next : World) (new : Option ℕ) → Adds w new next → IsOrdered w → IsOrdered next
IsOrdered-adds w next None h world = record {
  ids = subst (IdsRise 1 next.checkpoints) (sym h.id) (IdsRise-remain h.remain 1 w.next.id world.ids);
  marks = All-remain IsShown IsShown shown_later h.remain world.marks;
}
IsOrdered-adds w next (Some id) h world =
    let one = h.1 in record {
      ids = subst (λ cs. IdsRise 1 cs next.next.id) (sym one.checkpoints) (subst (IdsRise 1 (one.left ++ one.new ∷ [])) (sym one.id) (IdsRise-append 1 one.left one.new w.next.id one.own_id (IdsRise-remain one.remain 1 w.next.id world.ids)));
      marks = subst (AllByRecursion IsShown) (sym one.checkpoints) (All-append IsShown one.left one.new (All-remain IsShown IsShown shown_later one.remain world.marks) (shown_new w one.new one.cells));
    }

order_stays_from : (texts : Texts) (calls : CallsBy) (past : Past) (history : List Entry) → IsOrdered past.world → IsLegalFrom texts calls past history → IsOrdered (past_of texts calls past history).world
order_stays_from texts calls past [] world legal = world
order_stays_from texts calls past (entry ∷ entries) world legal =
    order_stays_from texts calls (past_after texts calls past entry) entries (IsOrdered-adds past.world _ (created_id entry.reply) (past_after-adds texts calls past entry legal.0) world) legal.1

pub IsOrdered-empty : (limits : Limits) → IsOrdered (empty_world limits)
IsOrdered-empty limits = record { ids = le_refl 1; marks = tt }

pub order_stays_lem : OrderStays
order_stays_lem texts calls w history world legal = order_stays_from texts calls (begun w) history world legal

-- the checkpoint has the map that was frozen under its id
abbrev IsFrozen : (ℕ → Option Cells) → Checkpoint → Type 0
IsFrozen maps c = option_map (shown_by c.kind) (maps c.id) ≡ Some c.cells

-- each checkpoint has its frozen map, and none is frozen under an id that wasn't given yet
record Keeps (maps : ℕ → Option Cells) (w : World) : Type 0 where
  all : AllByRecursion (IsFrozen maps) w.checkpoints
  unused : (id : ℕ) → w.next.id ≤ id → maps id ≡ None

shown_since : (o p : Option Cells) (c d : Checkpoint) → IsLater c d → option_map (shown_by c.kind) o ≡ Some c.cells → option_map (shown_by d.kind) (option_or o p) ≡ Some d.cells
shown_since None p c d later h = cc
shown_since (Some m) p c d later h = let e : shown_by c.kind m ≡ c.cells = cc in ap Some (later.shows m e)

-- also where further maps are frozen
frozen_later : (maps more : ℕ → Option Cells) (c d : Checkpoint) → IsLater c d → IsFrozen maps c → IsFrozen (λ id. option_or (maps id) (more id)) d
frozen_later maps more c d later h =
    subst (λ id. option_map (shown_by d.kind) (option_or (maps id) (more id)) ≡ Some d.cells) (sym later.id) (shown_since (maps c.id) (more c.id) c d later h)

-- the primary map, under the id of a new checkpoint if there is one
abbrev pub new_map : Option ℕ → Cells → ℕ → Option Cells
new_map new primary id = if option_map_or (nat_eq id) new false then Some primary else None

new_map-own : (new id : ℕ) (primary : Cells) → new ≡ id → new_map (Some new) primary id ≡ Some primary
new_map-own new id primary same = ap (λ b. if b then Some primary else None) (eq-eqb id new (sym same))

new_map-other : (new id : ℕ) (primary : Cells) → new < id → new_map (Some new) primary id ≡ None
new_map-other new id primary less = ap (λ b. if b then Some primary else None) (ne_eqb id new (omega arith))

Keeps-adds : (maps : ℕ → Option Cells) (w next : World) (new : Option ℕ) → Adds w new next → Keeps maps w → Keeps (λ id. option_or (maps id) (new_map new w.primary id)) next
Keeps-adds maps w next None h keeps = record {
  all = All-remain (IsFrozen maps) (IsFrozen (λ id. option_or (maps id) None)) (frozen_later maps (λ id. None)) h.remain keeps.all;
  unused = λ id above. ap (λ o. option_or o None) (keeps.unused id (subst (λ n. n ≤ id) h.id above));
}
Keeps-adds maps w next (Some new) h keeps =
    let one = h.1 in
    let more = new_map (Some new) w.primary in
    let now : ℕ → Option Cells = λ id. option_or (maps id) (more id) in
    let own : now one.new.id ≡ Some w.primary = ap now one.own_id ∙ ap (λ o. option_or o (more w.next.id)) (keeps.unused w.next.id (le_refl w.next.id)) ∙ new_map-own new w.next.id w.primary h.0 in
    record {
      all = subst (AllByRecursion (IsFrozen now)) (sym one.checkpoints)
          (All-append (IsFrozen now) one.left one.new
          (All-remain (IsFrozen maps) (IsFrozen now) (frozen_later maps more) one.remain keeps.all)
          (ap (option_map (shown_by one.new.kind)) own ∙ ap Some one.cells));
      unused = λ id above. let behind : w.next.id + 1 ≤ id = subst (λ n. n ≤ id) one.id above in
          ap (λ o. option_or o (more id)) (keeps.unused id (omega arith)) ∙ new_map-other new id w.primary (omega (arith, h.0));
    }

pub joined : (o p : Option Cells) (b : Bool) (primary : Cells) → option_or (option_or o (if b then Some primary else None)) p ≡ option_or o (if b then Some primary else p)
joined None p true primary = refl
joined None p false primary = refl
joined (Some m) p b primary = refl

maps_stay_from : (texts : Texts) (calls : CallsBy) (past : Past) (history : List Entry) (maps : ℕ → Option Cells) → Keeps maps past.world → IsLegalFrom texts calls past history
    → AllByRecursion (IsFrozen (λ id. option_or (maps id) (frozen_from texts calls past history id))) (past_of texts calls past history).world.checkpoints
maps_stay_from texts calls past [] maps keeps legal = All-remain (IsFrozen maps) (IsFrozen (λ id. option_or (maps id) None)) (frozen_later maps (λ id. None)) (Remain-itself past.world.checkpoints) keeps.all
maps_stay_from texts calls past (entry ∷ entries) maps keeps legal =
    let new = created_id entry.reply in
    let after = past_after texts calls past entry in
    let rest = maps_stay_from texts calls after entries (λ id. option_or (maps id) (new_map new past.world.primary id)) (Keeps-adds maps past.world after.world new (past_after-adds texts calls past entry legal.0) keeps) legal.1 in
    subst (λ (f : ℕ → Option Cells). AllByRecursion (IsFrozen f) (past_of texts calls after entries).world.checkpoints)
    (λ i id. joined (maps id) (frozen_from texts calls after entries id) (option_map_or (nat_eq id) new false) past.world.primary i) rest

-- the maps of the checkpoints of a world, by their ids
abbrev own_maps : List Checkpoint → ℕ → Option Cells
own_maps cs id = option_map (λ c. c.cells) (find (has_id id) cs)

IdsRise-least : (least : ℕ) (cs : List Checkpoint) (next : ℕ) → IdsRise least cs next → least ≤ next
IdsRise-least least [] next h = h
IdsRise-least least (c ∷ cs) next h = let above = IdsRise-least (c.id + 1) cs next h.1 in omega (arith, h.0)

own_maps-first : (c : Checkpoint) (cs : List Checkpoint) → own_maps (c ∷ cs) c.id ≡ Some c.cells
own_maps-first c cs = ap (λ b. option_map (λ x. x.cells) (if b then Some c else find (has_id c.id) cs)) (eq-eqb c.id c.id refl)

own_maps-other : (c : Checkpoint) (cs : List Checkpoint) (id : ℕ) → c.id < id → own_maps (c ∷ cs) id ≡ own_maps cs id
own_maps-other c cs id less = ap (λ b. option_map (λ x. x.cells) (if b then Some c else find (has_id id) cs)) (ne_eqb c.id id (omega arith))

-- one more with a lower id leaves the others' maps
behind_first : (c : Checkpoint) (cs ds : List Checkpoint) (least next : ℕ) → c.id < least → IdsRise least ds next → AllByRecursion (IsFrozen (own_maps cs)) ds → AllByRecursion (IsFrozen (own_maps (c ∷ cs))) ds
behind_first c cs [] least next low h all = tt
behind_first c cs (d ∷ ds) least next low h all = (
  ap (option_map (shown_by d.kind)) (own_maps-other c cs d.id (omega (arith, h.0))) ∙ all.0,
  behind_first c cs ds (d.id + 1) next (omega (arith, h.0)) h.1 all.1,
)

own_maps-unused : (least : ℕ) (cs : List Checkpoint) (next id : ℕ) → IdsRise least cs next → next ≤ id → own_maps cs id ≡ None
own_maps-unused least [] next id h above = refl
own_maps-unused least (c ∷ cs) next id h above =
    let below = IdsRise-least (c.id + 1) cs next h.1 in
    own_maps-other c cs id (omega arith) ∙ own_maps-unused (c.id + 1) cs next id h.1 above

own_maps-frozen : (least : ℕ) (cs : List Checkpoint) (next : ℕ) → IdsRise least cs next → AllByRecursion IsShown cs → AllByRecursion (IsFrozen (own_maps cs)) cs
own_maps-frozen least [] next h shown = tt
own_maps-frozen least (c ∷ cs) next h shown = (
  ap (option_map (shown_by c.kind)) (own_maps-first c cs) ∙ ap Some shown.0,
  behind_first c cs cs (c.id + 1) next (omega arith) h.1 (own_maps-frozen (c.id + 1) cs next h.1 shown.1),
)

pub frozen_maps_stay_lem : FrozenMapsStay
frozen_maps_stay_lem texts calls w history world legal =
    maps_stay_from texts calls (begun w) history (own_maps w.checkpoints)
    (record { all = own_maps-frozen 1 w.checkpoints w.next.id world.ids world.marks; unused = λ id above. own_maps-unused 1 w.checkpoints w.next.id id world.ids above })
    legal
