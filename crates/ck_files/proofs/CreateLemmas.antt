-- A checkpoint that is created: what it comes to in the world of a table.
use Rattle.std.proofs.Common.{◌≡◌, ℕ, ◌+◌, ◌<◌, ◌≤◌, Bool, true, false, cond, not, ◌&&◌, ◌||◌, filter, is_some, if◌then◌else◌, List, [], ◌∷◌, ◌++◌, length, Some, None, Result, Ok, Err, nat_eq, nat_le, refl, sym, ap, ◌∙◌, inr, arith}
use Rattle.std.specs.List.{list_any, AllByRecursion, IsDistinct}
use Rattle.std.specs.FinMap as map
use Rattle.std.proofs.lemmas.Bool.Decides.{nat_tests}
use Rattle.std.proofs.lemmas.List.{length_push}
use Rattle.std.proofs.lemmas.Map.Steps.{length-le_from_distinct_below}
use mathlib.Core.Bool.{false≢true}
use Rattle.ck_model.specs.declared.held.Held.TheVariants.{Extent}
use Rattle.ck_model.specs.declared.checkpoint.Kind.{Kind}
use Rattle.ck_model.specs.declared.reply.Reply.{Reply}
use Rattle.ck_model.specs.declared.reply.Reply.TheVariants.{Created, NoSpace, Exists, TooMany, Spent}
use Rattle.ck_model.specs.declared.reply.SpaceOf.TheVariants.{Blocks, Records}
use Rattle.ck_model.specs.Refusals.{and_then, refuse_if}
use Rattle.ck_model.specs.Cells.{Cells, differences}
use Rattle.ck_model.specs.World.{World, Checkpoint, Mounts, shown_by, is_named, without_checkpoint, has_id}
use Rattle.ck_model.specs.Space.{next_cells, difference_count, records_in}
use Rattle.ck_model.specs.CheckpointCalls.{frozen_world, kind_of}
use Rattle.ck_model.specs.CheckpointCalls as freezing
use Rattle.ck_model.specs.Step.{Outcome, outcome_of, with_room, created}
use Rattle.ck_model.specs.Table.{Table, IsTable, record_count, spare_count}
use Rattle.ck_model.specs.Chain.{is_live, live_ids}
use Rattle.ck_model.specs.Rules.{IsSound}
use Rattle.ck_model.specs.Values.{Store}
use Rattle.ck_model.specs.TableWorld.{world_on, extents_of, extent_count}
use Rattle.ck_model.specs.Limits.{checkpoint_limit}
use Rattle.ck_model.proofs.DifferenceLaws.{len-differences_shown, len-shown_differences}
use Rattle.ck_table.specs.declared.added.AddFault.{AddFault}
use Rattle.ck_table.specs.declared.added.AddFault.TheVariants as fault
use Rattle.ck_table.specs.Names.{id_named}
use Rattle.ck_table.specs.Added.{new_id}
use Rattle.ck_table.proofs.WorldLaws.{world-with_gone}
use Rattle.ck_reclaim.proofs.GivenLaws.{picked_live}
use Rattle.ck_files.specs.Freeze.{refusal_of, refused_or}
use Rattle.ck_nodata.proofs.HeldLaws.{records-is, records-within}
use Rattle.ck_files.specs.Drained.{IsDrained}
use Rattle.ck_files.specs.Files.{IsOurs}
use Rattle.ck_reclaim.specs.Removable.{pick_of}
use Rattle.ck_table.specs.Gone.{with_gone}
use Rattle.ck_files.specs.Room.{answered_with, given_before, has_room, Grows}
use Rattle.ck_files.specs.Places.{AreDistinct}
use Rattle.ck_files.proofs.AllocatedLaws.{named_entry, extents_distinct}
use Rattle.ck_files.proofs.Listed.{any_named-is, length-is}
use Rattle.ck_files.proofs.RoomLemmas.{no_room-is, room-given, room-is}

-- ---- what is refused

abbrev as_reply : Result ℕ AddFault → Result ℕ Reply
as_reply (Ok id) = Ok id
as_reply (Err fault) = Err (refusal_of checkpoint_limit fault)

refused_alike : (exists many spent : Bool) (id : ℕ) → refuse_if exists Exists (refuse_if many (TooMany checkpoint_limit) (refuse_if spent Spent (Ok id)))
    ≡ as_reply (if exists then Err fault.Exists else (if many then Err fault.TooMany else (if spent then Err fault.Spent else Ok id)))
refused_alike true many spent id = refl
refused_alike false true spent id = refl
refused_alike false false true id = refl
refused_alike false false false id = refl

new_id-is : (store : Store) (mounts : Mounts) (t : Table) (name : List ℕ) → IsTable t → freezing.new_id (world_on store mounts t) name ≡ as_reply (new_id t name)
new_id-is store mounts t name lawful =
    (λ i. refuse_if (any_named-is store t name lawful i) Exists
    (refuse_if (nat_le checkpoint_limit (length-is store t lawful i)) (TooMany checkpoint_limit)
    (refuse_if (nat_eq t.counters.id 4294967295) Spent (Ok t.counters.id))))
    ∙ refused_alike (is_some (id_named t name)) (nat_le checkpoint_limit (length (live_ids t))) (nat_eq t.counters.id 4294967295) t.counters.id

pub new_id-ok : (store : Store) (mounts : Mounts) (t : Table) (name : List ℕ) (id : ℕ) → IsTable t → new_id t name ≡ Ok id → freezing.new_id (world_on store mounts t) name ≡ Ok id
new_id-ok store mounts t name id lawful is = new_id-is store mounts t name lawful ∙ ap as_reply is

-- ---- what isn't refused isn't refused once one is given up

passes_fewer : (p q : Checkpoint → Bool) (cs : List Checkpoint) → list_any p cs ≡ false → list_any p (filter q cs) ≡ false
passes_fewer p q [] none = refl
passes_fewer p q (c ∷ cs) none =
    let parts = or_none (p c) (list_any p cs) none in
    let rest = passes_fewer p q cs parts.1 in
    elim (q c) as (λ b. list_any p (cond b (c ∷ filter q cs) (filter q cs)) ≡ false) [
      | true ↦ (λ i. parts.0 i || rest i)
      | false ↦ rest
    ]
  where
    or_none : (a b : Bool) → (a || b) ≡ false → (a ≡ false) × (b ≡ false)
    or_none true b h = absurd (false≢true (sym h))
    or_none false b h = (refl, h)

no_more : (q : Checkpoint → Bool) (cs : List Checkpoint) → length (filter q cs) ≤ length cs
no_more q [] = omega arith
no_more q (c ∷ cs) =
    let rest = no_more q cs in
    elim (q c) as (λ b. length (cond b (c ∷ filter q cs) (filter q cs)) ≤ length (c ∷ cs)) [
      | true ↦ omega (arith, rest)
      | false ↦ omega (arith, rest)
    ]

-- nothing of it is refused
record NoneRefused (exists many spent : Bool) (next id : ℕ) : Type 0 where
  new : exists ≡ false
  few : many ≡ false
  left : spent ≡ false
  is : next ≡ id

none_refused : (exists many spent : Bool) (limit next id : ℕ) → refuse_if exists Exists (refuse_if many (TooMany limit) (refuse_if spent Spent (Ok next))) ≡ Ok id → NoneRefused exists many spent next id
none_refused true many spent limit next id h = cc
none_refused false true spent limit next id h = cc
none_refused false false true limit next id h = cc
none_refused false false false limit next id h = let same : next ≡ id = cc in record { new = refl; few = refl; left = refl; is = same }

id_stays : (w : World) (name : List ℕ) (id other : ℕ) → freezing.new_id w name ≡ Ok id → freezing.new_id (without_checkpoint w other) name ≡ Ok id
id_stays w name id other is =
    let others = λ (checkpoint : Checkpoint). not (has_id other checkpoint) in
    let limit = w.limits.checkpoints in
    let none = none_refused (list_any (is_named name) w.checkpoints) (nat_le limit (length w.checkpoints)) (nat_eq w.next.id 4294967295) limit w.next.id id is in
    let fewer = no_more others w.checkpoints in
    let low = none.few in
    let few : nat_le limit (length (filter others w.checkpoints)) ≡ false = grind (arith, nat_tests) in
    (λ i. refuse_if (passes_fewer (is_named name) others w.checkpoints none.new i) Exists (refuse_if (few i) (TooMany limit) (refuse_if (none.left i) Spent (Ok w.next.id))))
    ∙ ap (λ n. Ok n) none.is

pub gone_stays : (store : Store) (mounts : Mounts) (t : Table) (name : List ℕ) (id pick : ℕ) → is_live t pick ≡ true → freezing.new_id (world_on store mounts t) name ≡ Ok id → freezing.new_id (world_on store mounts (with_gone t pick)) name ≡ Ok id
gone_stays store mounts t name id pick live is =
    ap (λ w. freezing.new_id w name) (world-with_gone store mounts t pick live) ∙ id_stays (world_on store mounts t) name id pick is

-- ---- the records of the world with one more checkpoint

next_differs : (kind : Kind) (cells primary : Cells) (cs : List Checkpoint) (new : Checkpoint) → new.cells ≡ shown_by kind primary
    → map.len (differences cells (next_cells primary (cs ++ new ∷ []))) ≡ map.len (differences cells (next_cells primary cs))
next_differs kind cells primary [] new same = ap (λ (m : Cells). map.len (differences cells m)) same ∙ len-differences_shown kind cells primary
next_differs kind cells primary (c ∷ cs) new same = refl

difference_count-more : (kind : Kind) (primary : Cells) (cs : List Checkpoint) (new : Checkpoint) → new.cells ≡ shown_by kind primary → difference_count primary (cs ++ new ∷ []) ≡ difference_count primary cs
difference_count-more kind primary [] new same =
    let none : map.len (differences new.cells primary) ≡ 0 = ap (λ (m : Cells). map.len (differences m primary)) same ∙ len-shown_differences kind primary in
    omega (arith, none)
difference_count-more kind primary (c ∷ cs) new same =
    λ i. next_differs kind c.cells primary cs new same i + difference_count-more kind primary cs new same i

-- ---- data blocks

none_of : (p : ℕ → Bool) (xs : List ℕ) → list_any p xs ≡ false → AllByRecursion (λ y. p y ≡ false) xs
none_of p [] h = tt
none_of p (x ∷ xs) h =
    elim (p x) as (λ b. p x ≡ b → (b || list_any p xs) ≡ false → (p x ≡ false) × AllByRecursion (λ y. p y ≡ false) xs) [
      | true ↦ λ _ is. absurd (false≢true (sym is))
      | false ↦ λ fails is. (fails, none_of p xs is)
    ] refl h

apart : (xs : List ℕ) → AreDistinct xs → IsDistinct nat_eq xs
unfolding IsDistinct
apart [] h = tt
apart (x ∷ xs) h = (none_of (nat_eq x) xs h.0, apart xs h.1)

-- a table names at most as many data blocks as there are
pub extents_within : (t : Table) → IsSound t → extent_count t ≤ t.blocks
extents_within t sound =
    length-le_from_distinct_below (extents_of t) t.blocks (apart (extents_of t) (extents_distinct t sound)) (λ block named.
    let at = named_entry t block named in
    sound.orderly.blocks at.0.0 at.0.1 (Extent at.1 block) at.2)

-- ---- the reply

module _ (store : Store) (mounts : Mounts) (t : Table) (ours : IsOurs t) (name : List ℕ) (nodata removable : Bool) (at : ℕ) where
  abbrev w : World
  w = world_on store mounts t

  abbrev frozen : World → World
  frozen = frozen_world name nodata removable at

  abbrev created_by : Result ℕ Reply → Outcome
  created_by id = outcome_of w (and_then id (λ id. Ok (with_room w frozen 0 (Created id))))

  pub created-refused : (fault : AddFault) → new_id t name ≡ Err fault → created w name nodata removable at ≡ answered_with (refusal_of checkpoint_limit fault) w
  created-refused fault is = ap created_by (new_id-is store mounts t name ours.lawful ∙ ap as_reply is)

  abbrev new : Checkpoint
  new = record { id = t.counters.id; name = name; kind = kind_of nodata; removable = removable; ctime = at; cells = shown_by (kind_of nodata) w.primary }

  records-more : records_in (frozen w) ≡ records_in w + 1
  records-more =
      let differ = difference_count-more (kind_of nodata) w.primary w.checkpoints new refl in
      let long = length_push w.checkpoints new in
      omega (arith, differ, long)

  created-as : (id : ℕ) → new_id t name ≡ Ok id → created w name nodata removable at ≡ with_room w frozen 0 (Created id)
  created-as id is = ap created_by (new_id-is store mounts t name ours.lawful ∙ ap as_reply is)

  fit_blocks : nat_le (extent_count t + 0) t.blocks ≡ true
  fit_blocks = let few = extents_within t ours.sound in grind (arith, nat_tests)

  all_taken : spare_count t ≡ 0 → record_count t ≡ t.records
  all_taken none = let fits : record_count t ≤ t.records = ours.sized.fits in omega (arith, fits, none)

  -- one record more doesn't fit where none is free
  no_room : spare_count t ≡ 0 → has_room t 0 1 ≡ false
  no_room none =
      let all = all_taken none in
      let full : nat_le (record_count t + 1) t.records ≡ false = grind (arith, nat_tests) in
      λ i. fit_blocks i && full i

  one_record : IsDrained t → Grows (record_count t) (records_in (frozen w)) 1
  one_record drained = record { by = inr (records-more ∙ ap (λ n. n + 1) (records-is store mounts t ours.lawful ours.sound drained.none)) }

  created-full : IsDrained t → pick_of t ≡ None → (id : ℕ) → new_id t name ≡ Ok id → spare_count t ≡ 0 → created w name nodata removable at ≡ answered_with (NoSpace Records t.records 1 t.records) w
  created-full drained unpicked id is none =
      let all = all_taken none in
      created-as id is
      ∙ no_room-is store mounts t ours drained (frozen w) 0 1 (one_record drained) unpicked frozen (Created id) refl (no_room none)
      ∙ ap (λ b. answered_with (if b then NoSpace Records (record_count t) 1 t.records else NoSpace Blocks (extent_count t) 0 t.blocks) w) fit_blocks
      ∙ ap (λ n. answered_with (NoSpace Records n 1 t.records) w) all

  pub created-fits : (id : ℕ) → new_id t name ≡ Ok id → 0 < spare_count t → created w name nodata removable at ≡ answered_with (Created id) (frozen w)
  created-fits id is some =
      let few = extents_within t ours.sound in
      let more = records-more in
      let most = records-within store mounts t ours.lawful ours.sound in
      created-as id is ∙ room-is store mounts t ours (frozen w) 0 (omega (arith, few)) (omega (arith, more, most, some)) frozen (Created id) refl

  -- where no record is free
  pub created-lack : IsDrained t → pick_of t ≡ None → spare_count t ≡ 0 → created w name nodata removable at ≡ answered_with (refused_or checkpoint_limit (NoSpace Records t.records 1 t.records) (new_id t name)) w
  created-lack drained unpicked none =
      elim (new_id t name) as (λ r. new_id t name ≡ r → created w name nodata removable at ≡ answered_with (refused_or checkpoint_limit (NoSpace Records t.records 1 t.records) r) w) [
        | Ok id ↦ λ is. created-full drained unpicked id is none
        | Err fault ↦ λ is. created-refused fault is
      ] refl

  -- where no record is free and one may be given up, that one is, and the call comes to what it does then
  pub created-given : IsDrained t → (id pick : ℕ) → freezing.new_id w name ≡ Ok id → pick_of t ≡ Some pick → spare_count t ≡ 0
      → created w name nodata removable at ≡ given_before 1 (created (world_on store mounts (with_gone t pick)) name nodata removable at)
  created-given drained id pick is picked none =
      let v = world_on store mounts (with_gone t pick) in
      let again : freezing.new_id v name ≡ Ok id = gone_stays store mounts t name id pick (picked_live t pick picked) is in
      ap created_by is
      ∙ room-given store mounts t ours drained (frozen w) 0 1 (one_record drained) pick picked frozen (Created id) refl (no_room none)
      ∙ ap (given_before 1) (sym (ap (λ found. outcome_of v (and_then found (λ x. Ok (with_room v frozen 0 (Created x))))) again))
