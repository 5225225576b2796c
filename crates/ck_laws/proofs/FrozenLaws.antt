-- Maps that are frozen in one history are of one history.
use Rattle.std.proofs.Common.{◌≡◌, ℕ, true, false, not, Option, Some, None, option_map, IfSome, List, [], ◌∷◌, find, ok_or, Result, Ok, Err, nat_eq, if◌then◌else◌, refl, sym, ap, subst, ◌∙◌, arith}
use Rattle.std.specs.List.{AllByRecursion}
use Rattle.std.specs.Option.{option_and_then, option_or, option_map_or}
use Rattle.ck_model.specs.declared.cell.Payload.TheVariants.{File, Dir}
use Rattle.ck_model.specs.declared.checkpoint.Counters.{Counters}
use Rattle.ck_model.specs.declared.checkpoint.Kind.{Kind}
use Rattle.ck_model.specs.declared.checkpoint.Kind.TheVariants.{Keeping, Nodata}
use Rattle.ck_model.specs.declared.entry.Entry.{Entry}
use Rattle.ck_model.specs.declared.reply.Reply.{Reply}
use Rattle.ck_model.specs.declared.reply.Reply.TheVariants.{NoCkpt, NotData}
use Rattle.ck_model.specs.Cells.{Cells, OfOneHistory}
use Rattle.ck_model.specs.World.{World, Checkpoint, keeps_files, is_named, has_id, shown_by}
use Rattle.ck_model.specs.Streams.{Texts}
use Rattle.ck_model.specs.CheckpointCalls.{checkpoint_named, restored}
use Rattle.ck_model.specs.History.{Past, CallsBy, begun, created_id, past_after, IsLegalFrom}
use Rattle.ck_laws.specs.Laws.{StampsBelow, Agree, IsWorld, KeptData, frozen_from, FrozenMapsAgree, FrozenChangesApply}
use Rattle.ck_model.proofs.StreamLaws.{applied-changed}
use Rattle.ck_laws.proofs.WorldLemmas.{IsLater, All-remain, All-append}
use Rattle.ck_laws.proofs.StepLemmas.{Adds}
use Rattle.ck_laws.proofs.HistoryLemmas.{past_after-adds}
use Rattle.ck_laws.proofs.LawsLemmas.{new_map, joined}
use Rattle.ck_laws.proofs.Primaries.{Leaves, LeavesPrimary, then-given, unless, found_of, Primaries, past_after-primary}
use Rattle.ck_laws.proofs.CellEdits.{IsEdited, made-edited, removed-edited, removed_directory-edited, moved-edited, overwritten-edited, truncated-edited}
use Rattle.ck_laws.proofs.WorldLaws.{OfOneHistory-turned, OfOneHistory-itself, agree-edit, agree-among, keeping_of, each_of, StampsBelow-more, IsWorld-after}

-- a map agrees with a checkpoint's, if that one has its data
abbrev AgreesWith : Cells → Checkpoint → Type 0
AgreesWith m c = c.kind ≡ Keeping → OfOneHistory m c.cells

-- a map agrees with all that a world has
record IsPast (m : Cells) (w : World) : Type 0 where
  primary : OfOneHistory m w.primary
  stamps : StampsBelow w.next.stamp m
  standing : AllByRecursion (AgreesWith m) w.checkpoints

-- maps under ids, which agree with each other and with all that a world has
record ArePast (maps : ℕ → Option Cells) (w : World) : Type 0 where
  each : (id later : ℕ) (a b : Cells) → maps id ≡ Some a → maps later ≡ Some b → OfOneHistory a b
  past : (id : ℕ) (a : Cells) → maps id ≡ Some a → IsPast a w

-- ---- what a call leaves

-- the primary map and the counters agree with a map
record StaysPast (m cells : Cells) (next : Counters) : Type 0 where
  agrees : OfOneHistory m cells
  below : StampsBelow next.stamp m

module _ (w : World) (world : IsWorld w) (m : Cells) (past : IsPast m w) where
  edited-past : (cells : Cells) (next : Counters) → IsEdited w cells next → StaysPast m cells next
  edited-past cells next h = record {
    agrees = OfOneHistory-turned cells m (agree-edit Keeping w.primary cells m next.number w.next.stamp h.edit past.stamps (OfOneHistory-turned m w.primary past.primary));
    below = StampsBelow-more w.next.stamp next.stamp m (omega (arith, h.stamp)) past.stamps;
  }

  left-past : (r : Result World Reply) → LeavesPrimary (IsEdited w) r → LeavesPrimary (StaysPast m) r
  left-past (Ok next) h = edited-past next.primary next.next h
  left-past (Err reply) h = tt

  restored-past : (name : List ℕ) → LeavesPrimary (StaysPast m) (restored w name)
  restored-past name =
      then-given (Leaves (StaysPast m)) (checkpoint_named w name) _ (λ c is.
      unless (Leaves (StaysPast m)) (not (keeps_files c.kind)) NotData _ (λ kept.
      record { agrees = found_of (AgreesWith m) (is_named name) w.checkpoints NoCkpt c past.standing is (keeping_of c.kind kept); below = past.stamps }))

  stays_past : Primaries w (StaysPast m)
  stays_past = record {
    stays = record { agrees = past.primary; below = past.stamps };
    counted = record { agrees = past.primary; below = past.stamps };
    make = λ path. left-past _ (made-edited w world.numbers path (File 0) tt tt);
    mkdir = λ path. left-past _ (made-edited w world.numbers path Dir tt tt);
    rm = λ path. left-past _ (removed-edited w world.numbers path);
    rmdir = λ path. left-past _ (removed_directory-edited w world.numbers path);
    mv = λ path new_path. left-past _ (moved-edited w world.numbers path new_path);
    write = λ path at bytes. left-past _ (overwritten-edited w world.numbers path at bytes);
    trunc = λ path size. left-past _ (truncated-edited w world.numbers path size);
    restore = restored-past;
  }

agrees-later : (m : Cells) (c d : Checkpoint) → IsLater c d → AgreesWith m c → AgreesWith m d
agrees-later m c d later h is = let kept = later.keeps is in subst (OfOneHistory m) (sym kept.1) (h kept.0)

-- the primary map of a world agrees with all that the world has
primary-past : (w : World) → IsWorld w → IsPast w.primary w
primary-past w world = record {
  primary = OfOneHistory-itself w.primary;
  stamps = world.stamps;
  standing = each_of (Agree Keeping w.primary) (AgreesWith w.primary) (λ c h is. subst (λ kind. OfOneHistory (shown_by kind w.primary) c.cells) is h) w.checkpoints world.versions;
}

-- where a checkpoint comes, the primary map stays
old-past : (w next : World) (new : Option ℕ) (m : Cells) → Adds w new next → IsWorld w → IsPast m w → StaysPast m next.primary next.next → IsPast m next
old-past w next None m adds world past stays = record {
  primary = stays.agrees;
  stamps = stays.below;
  standing = All-remain (AgreesWith m) (AgreesWith m) (agrees-later m) adds.remain past.standing;
}
old-past w next (Some id) m adds world past stays =
    let one = adds.1 in
    let x = one.new in
    record {
      primary = stays.agrees;
      stamps = stays.below;
      standing = subst (AllByRecursion (AgreesWith m)) (sym one.checkpoints)
          (All-append (AgreesWith m) one.left x (All-remain (AgreesWith m) (AgreesWith m) (agrees-later m) one.remain past.standing)
          (λ is. subst (OfOneHistory m) (ap (λ kind. shown_by kind w.primary) (sym is) ∙ one.cells) past.primary));
    }

new-primary : (w next : World) (id : ℕ) → Adds w (Some id) next → next.primary ≡ w.primary
new-primary w next id adds = adds.1.primary

-- a map is an old one, or the primary map under a new id
data Frozen (maps : ℕ → Option Cells) (new : Option ℕ) (primary : Cells) (id : ℕ) (a : Cells) : Type 0 where
  was : maps id ≡ Some a → Frozen maps new primary id a
  now : (given : ℕ) → new ≡ Some given → primary ≡ a → Frozen maps new primary id a

frozen_cases : (maps : ℕ → Option Cells) (new : Option ℕ) (primary : Cells) (id : ℕ) (a : Cells) → option_or (maps id) (new_map new primary id) ≡ Some a → Frozen maps new primary id a
frozen_cases maps new primary id a h = on (maps id) refl new refl h
  where
    same_cells : (x y : Cells) → ◌≡◌ {A = Option Cells} (Some x) (Some y) → x ≡ y
    same_cells x y e = cc

    on : (o : Option Cells) → maps id ≡ o → (n : Option ℕ) → new ≡ n → option_or o (new_map n primary id) ≡ Some a → Frozen maps new primary id a
    on (Some m) is n _ same = was (is ∙ same)
    on None _ None _ clash = cc
    on None _ (Some given) is rest =
        elim (nat_eq id given) as (λ b. (if b then Some primary else None) ≡ Some a → Frozen maps new primary id a) [
          | true ↦ λ same. now given is (same_cells primary a same)
          | false ↦ λ clash. cc
        ] rest

ArePast-adds : (maps : ℕ → Option Cells) (w next : World) (new : Option ℕ) → Adds w new next → IsWorld w → IsWorld next
    → ((m : Cells) → IsPast m w → StaysPast m next.primary next.next)
    → ArePast maps w → ArePast (λ id. option_or (maps id) (new_map new w.primary id)) next
ArePast-adds maps w next new adds world after stays h = record {
  each = λ id later a b first second. pairs id later a b (frozen_cases maps new w.primary id a first) (frozen_cases maps new w.primary later b second);
  past = λ id a is. of id a (frozen_cases maps new w.primary id a is);
}
  where
    pairs : (id later : ℕ) (a b : Cells) → Frozen maps new w.primary id a → Frozen maps new w.primary later b → OfOneHistory a b
    pairs id later a b (was first) (was second) = h.each id later a b first second
    pairs id later a b (was first) (now given _ same) = subst (OfOneHistory a) same (h.past id a first).primary
    pairs id later a b (now given _ same) (was second) = OfOneHistory-turned b a (subst (OfOneHistory b) same (h.past later b second).primary)
    pairs id later a b (now given _ same) (now again _ also) = subst (λ x. OfOneHistory x b) same (subst (OfOneHistory w.primary) also (OfOneHistory-itself w.primary))

    of : (id : ℕ) (a : Cells) → Frozen maps new w.primary id a → IsPast a next
    of id a (was is) = old-past w next new a adds world (h.past id a is) (stays a (h.past id a is))
    of id a (now given is same) = subst (λ x. IsPast x next) (new-primary w next given (subst (λ o. Adds w o next) is adds) ∙ same) (primary-past next after)

-- ---- histories

agree_from : (texts : Texts) (calls : CallsBy) (past : Past) (history : List Entry) (maps : ℕ → Option Cells) → IsWorld past.world → ArePast maps past.world → IsLegalFrom texts calls past history
    → (id later : ℕ) (a b : Cells) → option_or (maps id) (frozen_from texts calls past history id) ≡ Some a → option_or (maps later) (frozen_from texts calls past history later) ≡ Some b → OfOneHistory a b
agree_from texts calls past [] maps world h legal id later a b first second = h.each id later a b (alone (maps id) a first) (alone (maps later) b second)
  where
    alone : (o : Option Cells) (x : Cells) → option_or o None ≡ Some x → o ≡ Some x
    alone None x clash = cc
    alone (Some m) x same = same
agree_from texts calls past (entry ∷ entries) maps world h legal id later a b first second =
    let new = created_id entry.reply in
    let after = past_after texts calls past entry in
    let adds = past_after-adds texts calls past entry legal.0 in
    let next = IsWorld-after texts calls past entry world legal.0 in
    let held = ArePast-adds maps past.world after.world new adds world next (λ m is. past_after-primary texts calls past entry (StaysPast m) (stays_past past.world world m is)) h in
    let split = λ (i : ℕ). joined (maps i) (frozen_from texts calls after entries i) (option_map_or (nat_eq i) new false) past.world.primary in
    agree_from texts calls after entries (λ i. option_or (maps i) (new_map new past.world.primary i)) next held legal.1 id later a b (split id ∙ first) (split later ∙ second)

-- ---- the beginning

-- the maps of the checkpoints that have their data
abbrev data_of : Checkpoint → Option Cells
data_of c = if keeps_files c.kind then Some c.cells else None

abbrev data_maps : World → ℕ → Option Cells
data_maps w id = option_and_then data_of (find (has_id id) w.checkpoints)

-- the checkpoint that has the map
record IsDataOf (w : World) (id : ℕ) (a : Cells) : Type 0 where
  checkpoint : Checkpoint
  found : ok_or (find (has_id id) w.checkpoints) NoCkpt ≡ Ok checkpoint
  keeps : checkpoint.kind ≡ Keeping
  cells : checkpoint.cells ≡ a

data_cases : (w : World) (id : ℕ) (a : Cells) → data_maps w id ≡ Some a → IsDataOf w id a
data_cases w id a h = on (find (has_id id) w.checkpoints) refl h
  where
    same_cells : (x y : Cells) → ◌≡◌ {A = Option Cells} (Some x) (Some y) → x ≡ y
    same_cells x y e = cc

    on : (o : Option Checkpoint) → find (has_id id) w.checkpoints ≡ o → option_and_then data_of o ≡ Some a → IsDataOf w id a
    on None _ clash = cc
    on (Some c) is rest = with_kind c.kind refl rest
      where
        with_kind : (kind : Kind) → c.kind ≡ kind → data_of c ≡ Some a → IsDataOf w id a
        with_kind Keeping keeps same = record {
          checkpoint = c;
          found = ap (λ o. ok_or o NoCkpt) is;
          keeps = keeps;
          cells = same_cells c.cells a (sym (ap (λ kind. if keeps_files kind then Some c.cells else None) keeps) ∙ same);
        }
        with_kind Nodata loses same = let clash : None ≡ Some a = sym (ap (λ kind. if keeps_files kind then Some c.cells else None) loses) ∙ same in cc

begin-past : (w : World) → IsWorld w → ArePast (data_maps w) w
begin-past w world = record {
  each = λ id later a b first second. pairs id later a b (data_cases w id a first) (data_cases w later b second);
  past = λ id a is. of id a (data_cases w id a is);
}
  where
    standing : (id : ℕ) (a : Cells) → IsDataOf w id a → AllByRecursion (AgreesWith a) w.checkpoints
    standing id a h =
        let c = h.checkpoint in
        subst (λ x. AllByRecursion (AgreesWith x) w.checkpoints) h.cells
        (each_of (Agree Keeping c.cells) (AgreesWith c.cells) (λ d agrees is. subst (λ kind. OfOneHistory (shown_by kind c.cells) d.cells) is agrees) w.checkpoints
        (agree-among (has_id id) w.checkpoints NoCkpt c h.keeps world.frozen_versions h.found))

    pairs : (id later : ℕ) (a b : Cells) → IsDataOf w id a → IsDataOf w later b → OfOneHistory a b
    pairs id later a b h g = subst (OfOneHistory a) g.cells (found_of (AgreesWith a) (has_id later) w.checkpoints NoCkpt g.checkpoint (standing id a h) g.found g.keeps)

    of : (id : ℕ) (a : Cells) → IsDataOf w id a → IsPast a w
    of id a h =
        let c = h.checkpoint in
        let agrees = found_of (Agree Keeping w.primary) (has_id id) w.checkpoints NoCkpt c world.versions h.found in
        record {
          primary = OfOneHistory-turned w.primary a (subst (OfOneHistory w.primary) h.cells (subst (λ kind. OfOneHistory (shown_by kind w.primary) c.cells) h.keeps agrees));
          stamps = subst (StampsBelow w.next.stamp) h.cells (found_of (λ d. StampsBelow w.next.stamp d.cells) (has_id id) w.checkpoints NoCkpt c world.frozen_stamps h.found);
          standing = standing id a h;
        }

-- a map with its data is the one that was frozen
kept_is : (w : World) (id : ℕ) → KeptData w id → data_maps w id ≡ option_map (λ c. c.cells) (find (has_id id) w.checkpoints)
kept_is w id h = on (find (has_id id) w.checkpoints) h
  where
    on : (o : Option Checkpoint) → IfSome o (λ c. c.kind ≡ Keeping) → option_and_then data_of o ≡ option_map (λ (c : Checkpoint). c.cells) o
    on None _ = refl
    on (Some c) keeps = ap (λ kind. if keeps_files kind then Some c.cells else None) keeps

pub frozen_maps_agree_lem : FrozenMapsAgree
frozen_maps_agree_lem texts calls w history world legal id later a b kept also first second =
    agree_from texts calls (begun w) history (data_maps w) world (begin-past w world) legal id later a b
    (ap (λ o. option_or o (frozen_from texts calls (begun w) history id)) (kept_is w id kept) ∙ first)
    (ap (λ o. option_or o (frozen_from texts calls (begun w) history later)) (kept_is w later also) ∙ second)

pub frozen_changes_apply_lem : FrozenChangesApply
frozen_changes_apply_lem texts calls w history world legal id later a b kept also first second =
    applied-changed a b (frozen_maps_agree_lem texts calls w history world legal id later a b kept also first second)
