-- Cuts of a history that grows, and what calls leave of them.
use Rattle.std.proofs.Common.{◌≡◌, ◌⊎◌, inl, inr, ⊎_elim, ℕ, zero, suc, ◌+◌, ◌≤◌, Bool, true, false, None, Some, Option, IsTrue, List, [], ◌∷◌, ◌++◌, length, take, refl, sym, ap, ◌∙◌, subst, arith, length-append}
use Rattle.std.proofs.lemmas.List.{take_all}
use Rattle.ck_disk.specs.Disk.{Image, Meaning, Lawful, LeavesOnly}
use Rattle.ck_model.specs.declared.call.Call.{Call}
use Rattle.ck_model.specs.declared.entry.Entry.{Entry}
use Rattle.ck_model.specs.Streams.{Texts}
use Rattle.ck_model.specs.Space.{without_picks}
use Rattle.ck_model.specs.World.{World, unmounted}
use Rattle.ck_model.specs.History.{CallsBy, state, Past}
use Rattle.ck_volume.specs.Present.{Present, history_of, broken_of, length_of, world_of, KeepsWorld, Survives}
use Rattle.ck_engine.specs.Committed.{OpensToEither}
use Rattle.ck_volume.specs.Cuts.{given_at, IsCut, OpensToCut, CutSince, CommitsCut, LeavesCuts, OpensOnTheWay, KeepsOnTheWay}
use Rattle.ck_disk.specs.Runs.{Runs}
use Rattle.ck_volume.specs.Kept.{Stands}
use Rattle.ck_engine.specs.Recovery.{Recovers}
use Rattle.ck_volume.specs.Told.{AreAnswered}
use Rattle.ck_disk.proofs.MomentLaws.{leaves_more, leaves_now, leaves_both}
use Rattle.ck_engine.proofs.KeptLaws.{kept-recovers}
use Rattle.ck_volume.proofs.ToldLaws.{answered-before}

-- ---- cuts of a history that grows

take-more : (history : List Entry) (entry : Entry) (count : ℕ) → count ≤ length history → take count (history ++ entry ∷ []) ≡ take count history
take-more history entry zero low = refl
take-more [] entry (suc count) low = absurd (omega (arith, low))
take-more (first ∷ history) entry (suc count) low = ap (λ rest. first ∷ rest) (take-more history entry count (omega (arith, low)))

longer : (history : List Entry) (entry : Entry) → length (history ++ entry ∷ []) ≡ length history + 1
longer history entry = simp length-append (omega arith)

given-more : (history : List Entry) (entry : Entry) (count : ℕ) → given_at history count ≤ given_at (history ++ entry ∷ []) count
given-more [] entry count = omega arith
given-more (first ∷ history) entry zero = omega arith
given-more (first ∷ history) entry (suc count) = given-more history entry count

given-last : (history : List Entry) (entry : Entry) → given_at (history ++ entry ∷ []) (length history) ≡ entry.given
given-last [] entry = refl
given-last (first ∷ history) entry = given-last history entry

module _ (origin : Meaning) (told : List Call) (history : List Entry) where
  pub cut-least : (least fewer : ℕ) (w : World) → fewer ≤ least → IsCut origin told history least w → IsCut origin told history fewer w
  cut-least least fewer w low cut = record { count = cut.count; given = cut.given; least_is = omega (arith, low, cut.least_is); within = cut.within; few = cut.few; is = cut.is }

  pub opens-least : (least fewer : ℕ) (image : Image) → fewer ≤ least → OpensToCut origin told history least image → OpensToCut origin told history fewer image
  opens-least least fewer image low opens = record { world = opens.world; cut = cut-least least fewer opens.world low opens.cut; recovers = opens.recovers }

  -- a cut stays one behind a further entry
  pub cut-more : (call : Call) (entry : Entry) (least : ℕ) (w : World) → IsCut origin told history least w → IsCut origin (told ++ call ∷ []) (history ++ entry ∷ []) least w
  cut-more call entry least w cut =
      let more = longer history entry in
      let given = given-more history entry cut.count in
      record {
        count = cut.count;
        given = cut.given;
        least_is = cut.least_is;
        within = omega (arith, more, cut.within);
        few = omega (arith, given, cut.few);
        is = λ first found texts calls answered.
            ap (λ (es : List Entry). unmounted (without_picks cut.given (state texts calls first es))) (take-more history entry cut.count cut.within)
            ∙ cut.is first found texts calls (answered-before calls told call history entry answered).0;
      }

  pub opens-more : (call : Call) (entry : Entry) (least : ℕ) (image : Image) → OpensToCut origin told history least image → OpensToCut origin (told ++ call ∷ []) (history ++ entry ∷ []) least image
  opens-more call entry least image opens = record { world = opens.world; cut = cut-more call entry least opens.world opens.cut; recovers = opens.recovers }

  -- the world after the whole history
  abbrev IsNow : World → Type 0
  IsNow now = (first : World) → Recovers origin.shows first → (texts : Texts) (calls : CallsBy) → AreAnswered calls told history → state texts calls first history ≡ now

  pub cut-whole : (least : ℕ) (now : World) → least ≤ length history → IsNow now → IsCut origin told history least (unmounted now)
  cut-whole least now low stands = record {
    count = length history;
    given = 0;
    least_is = low;
    within = omega arith;
    few = omega arith;
    is = λ first found texts calls answered.
        ap (λ (es : List Entry). unmounted (state texts calls first es)) (take_all (length history) history (omega arith))
        ∙ ap unmounted (stands first found texts calls answered);
  }

  -- what the next call commits on its way
  pub cut-next : (call : Call) (entry : Entry) (least given : ℕ) (now : World) → least ≤ length history → given ≤ entry.given → IsNow now
      → IsCut origin (told ++ call ∷ []) (history ++ entry ∷ []) least (unmounted (without_picks given now))
  cut-next call entry least given now low few stands =
      let more = longer history entry in
      let last = given-last history entry in
      record {
        count = length history;
        given = given;
        least_is = low;
        within = omega (arith, more);
        few = omega (arith, last, few);
        is = λ first found texts calls answered.
            ap (λ (es : List Entry). unmounted (without_picks given (state texts calls first es))) (take-more history entry (length history) (omega arith) ∙ take_all (length history) history (omega arith))
            ∙ ap (λ (w : World). unmounted (without_picks given w)) (stands first found texts calls (answered-before calls told call history entry answered).0);
      }

-- a history that stands leads to the present world
pub stands-now : {D : Type 0} (origin now : Meaning) (told : List Call) (volume : Present D) → IsTrue origin.tells → Stands origin now told volume → IsNow origin told (history_of volume) (world_of now.shows volume)
stands-now origin now told volume is_told stands first found texts calls answered = ap (λ (past : Past). past.world) (stands is_told first found texts calls answered).1

-- ---- runs

-- a run of a device that tells nothing
pub leaves-untold : (old now : Meaning) (T : Type 0) (P : Image → Type 0) → (T → ⊥) → Runs old now → LeavesOnly old now (λ image. T → P image)
leaves-untold old now T P untold runs = record {
  size = runs.size;
  tells = runs.tells;
  reads = runs.reads;
  writes = runs.writes;
  later = runs.later;
  each = λ image left told. absurd (untold told);
  before = λ t image early left. inr (λ told. absurd (untold told));
}

told_or_not : (b : Bool) → IsTrue b ⊎ (IsTrue b → ⊥)
told_or_not true = inl refl
told_or_not false = inr untold
  where
    untold : IsTrue false → ⊥
    untold h = cc

pub broken_or_not : (o : Option ℕ) → ((number : ℕ) × (o ≡ Some number)) ⊎ (o ≡ None)
broken_or_not None = inr refl
broken_or_not (Some number) = inl (number, refl)

no_one : {A : Type 0} (o : Option A) (x : A) → o ≡ Some x → o ≡ None → ⊥
no_one o x some none = cc

-- ---- at the beginning

pub cuts-begin : {D : Type 0} (m : Meaning) (volume : Present D) → Lawful m → history_of volume ≡ [] → (IsTrue m.tells → (first : World) → Recovers m.shows first → first ≡ world_of m.shows volume)
    → (IsTrue m.tells → KeepsWorld m volume (unmounted (world_of m.shows volume))) → LeavesCuts m m [] 0 volume
cuts-begin {D} m volume law none one keeps =
    let w = world_of m.shows volume in
    let cut : IsTrue m.tells → IsCut m [] (history_of volume) 0 (unmounted w) =
    λ told. subst (λ (es : List Entry). IsCut m [] es 0 (unmounted w)) (sym none) (cut-whole m [] [] 0 w (omega arith) (λ first found texts calls answered. one told first found)) in
    let opens : (image : Image) → m.may_leave image → CutSince m [] (history_of volume) 0 image =
    λ image left told. record { world = unmounted w; cut = cut told; recovers = kept-recovers m volume.engine (unmounted w) (keeps told) image left } in
    record {
      any_moment = record {
        size = refl;
        tells = refl;
        reads = omega arith;
        writes = omega arith;
        later = omega arith;
        each = λ image left. opens image (law.only_now image left);
        before = λ t image early left. inl left;
      };
      at_the_end = opens;
      kept = λ unbroken told. record { world = unmounted w; cut = cut told; keeps = keeps told };
    }

-- ---- a call, and its entry

-- what it says of crashes
pub record Leaves {D : Type 0} (mid new : Meaning) (before after : Present D) (most : ℕ) : Type 0 where
  pub runs : Runs mid new
  pub survives : broken_of before ≡ None → IsTrue mid.tells → (w : World) → KeepsWorld mid before w → LeavesOnly mid new (OpensOnTheWay most w (world_of mid.shows before))
  pub kept : broken_of after ≡ None → broken_of before ≡ None → IsTrue mid.tells → (w : World) → KeepsWorld mid before w → KeepsOnTheWay most new after w (world_of mid.shows before)
  pub broken : (number : ℕ) → broken_of before ≡ Some number → broken_of after ≡ Some number

module _ {D : Type 0} (origin mid new : Meaning) (law : Lawful new) (told : List Call) (least : ℕ) (before after : Present D) (cuts : LeavesCuts origin mid told least before) (stands : Stands origin mid told before)
    (low : least ≤ length_of before) where
  abbrev history : List Entry
  history = history_of before

  abbrev present : World
  present = world_of mid.shows before

  told_mid : IsTrue origin.tells → IsTrue mid.tells
  told_mid is_told = subst IsTrue (sym cuts.any_moment.tells) is_told

  -- an entry was added, and this many entries are committed where the call is a sync that was done
  module _ (call : Call) (entry : Entry) (added : history_of after ≡ history ++ entry ∷ []) (leaves : Leaves mid new before after entry.given)
      (untouched_by : (number : ℕ) → broken_of before ≡ Some number → new ≡ mid) where
    abbrev more : List Call
    more = told ++ call ∷ []

    abbrev longer_by : List Entry
    longer_by = history ++ entry ∷ []

    on_the_way : IsTrue origin.tells → (kept : CommitsCut origin mid told least before) (image : Image) → OpensOnTheWay entry.given kept.world present image → OpensToCut origin more longer_by least image
    on_the_way is_told kept image way =
        ⊎_elim
        (λ (is : Recovers image kept.world). record { world = kept.world; cut = cut-more origin told history call entry least kept.world kept.cut; recovers = is })
        (λ (is : (given : ℕ) × ((given ≤ entry.given) × Recovers image (unmounted (without_picks given present)))).
        record {
          world = unmounted (without_picks is.0 present);
          cut = cut-next origin told history call entry least is.0 present low is.1.0 (stands-now origin mid told before is_told stands);
          recovers = is.1.1;
        })
        way

    before_it : LeavesOnly origin mid (CutSince origin more longer_by 0)
    before_it = leaves_more origin mid (CutSince origin told history 0) (CutSince origin more longer_by 0) (λ image cut is_told. opens-more origin told history call entry 0 image (cut is_told)) cuts.any_moment

    -- while it runs
    running : broken_of before ≡ None → LeavesOnly mid new (CutSince origin more longer_by 0)
    running whole =
        ⊎_elim
        (λ (is_told : IsTrue origin.tells).
        let kept = cuts.kept whole is_told in
        leaves_more mid new (OpensOnTheWay entry.given kept.world present) (CutSince origin more longer_by 0)
        (λ image way told. opens-least origin more longer_by least 0 image (omega arith) (on_the_way is_told kept image way))
        (leaves.survives whole (told_mid is_told) kept.world kept.keeps))
        (λ (untold : IsTrue origin.tells → ⊥). leaves-untold mid new (IsTrue origin.tells) (OpensToCut origin more longer_by 0) untold leaves.runs)
        (told_or_not origin.tells)

    unsynced_end : broken_of before ≡ None → (image : Image) → new.may_leave image → CutSince origin more longer_by least image
    unsynced_end whole image left is_told =
        let kept = cuts.kept whole is_told in
        on_the_way is_told kept image (leaves_now mid new (OpensOnTheWay entry.given kept.world present) law (leaves.survives whole (told_mid is_told) kept.world kept.keeps) image left)

    unsynced_kept : broken_of before ≡ None → broken_of after ≡ None → IsTrue origin.tells → CommitsCut origin new more least after
    unsynced_kept whole unbroken is_told =
        let kept = cuts.kept whole is_told in
        ⊎_elim
        (λ (same : KeepsWorld new after kept.world).
        record { world = kept.world; cut = subst (λ (es : List Entry). IsCut origin more es least kept.world) (sym added) (cut-more origin told history call entry least kept.world kept.cut); keeps = same })
        (λ (way : (given : ℕ) × ((given ≤ entry.given) × KeepsWorld new after (unmounted (without_picks given present)))).
        let w = unmounted (without_picks way.0 present) in
        record {
          world = w;
          cut = subst (λ (es : List Entry). IsCut origin more es least w) (sym added) (cut-next origin told history call entry least way.0 present low way.1.0 (stands-now origin mid told before is_told stands));
          keeps = way.1.1;
        })
        (leaves.kept unbroken whole (told_mid is_told) kept.world kept.keeps)

    -- a call that isn't a sync that was done, or on a broken volume
    pub cuts-unsynced : LeavesCuts origin new more least after
    cuts-unsynced =
        ⊎_elim
        (λ (broken : (number : ℕ) × (broken_of before ≡ Some number)).
        let same : mid ≡ new = sym (untouched_by broken.0 broken.1) in
        record {
          any_moment = subst (λ (m : Meaning). LeavesOnly origin m (CutSince origin more (history_of after) 0)) same (subst (λ (es : List Entry). LeavesOnly origin mid (CutSince origin more es 0)) (sym added) before_it);
          at_the_end = subst (λ (m : Meaning). (image : Image) → m.may_leave image → CutSince origin more (history_of after) least image) same
              (subst (λ (es : List Entry). (image : Image) → mid.may_leave image → CutSince origin more es least image) (sym added)
              (λ image left is_told. opens-more origin told history call entry least image (cuts.at_the_end image left is_told)));
          kept = λ none. absurd (no_one (broken_of after) broken.0 (leaves.broken broken.0 broken.1) none);
        })
        (λ (whole : broken_of before ≡ None).
        record {
          any_moment = subst (λ (es : List Entry). LeavesOnly origin new (CutSince origin more es 0)) (sym added) (leaves_both origin mid new (CutSince origin more longer_by 0) before_it (running whole));
          at_the_end = subst (λ (es : List Entry). (image : Image) → new.may_leave image → CutSince origin more es least image) (sym added) (unsynced_end whole);
          kept = unsynced_kept whole;
        })
        (broken_or_not (broken_of before))

    -- a sync that was done
    pub cuts-synced : broken_of before ≡ None → Stands origin new more after
        → ((w : World) → IsTrue mid.tells → KeepsWorld mid before w → KeepsWorld new after (unmounted (world_of new.shows after))) → LeavesCuts origin new more (length_of after) after
    cuts-synced whole stands_after synced =
        let w = unmounted (world_of new.shows after) in
        let cut : IsTrue origin.tells → IsCut origin more (history_of after) (length_of after) w =
        λ is_told. cut-whole origin more (history_of after) (length_of after) (world_of new.shows after) (omega arith) (stands-now origin new more after is_told stands_after) in
        let keeps : IsTrue origin.tells → KeepsWorld new after w =
        λ is_told. let kept = cuts.kept whole is_told in synced kept.world (told_mid is_told) kept.keeps in
        record {
          any_moment = subst (λ (es : List Entry). LeavesOnly origin new (CutSince origin more es 0)) (sym added) (leaves_both origin mid new (CutSince origin more longer_by 0) before_it (running whole));
          at_the_end = λ image left is_told. record { world = w; cut = cut is_told; recovers = kept-recovers new after.engine w (keeps is_told) image left };
          kept = λ unbroken is_told. record { world = w; cut = cut is_told; keeps = keeps is_told };
        }

  -- ---- a commit, without an entry

  module _ (same : history_of after ≡ history) (runs : Runs mid new) (world : IsTrue mid.tells → world_of new.shows after ≡ present)
      (survives : broken_of before ≡ None → Survives mid new before)
      (kept_on : broken_of after ≡ None → broken_of before ≡ None → IsTrue mid.tells → (w : World) → KeepsWorld mid before w → KeepsWorld new after w ⊎ KeepsWorld new after (unmounted present))
      (broken : (number : ℕ) → broken_of before ≡ Some number → broken_of after ≡ Some number) (untouched : (number : ℕ) → broken_of before ≡ Some number → new ≡ mid) where
    whole_cut : IsTrue origin.tells → (n : ℕ) → n ≤ length history → IsCut origin told history n (unmounted present)
    whole_cut is_told n within = cut-whole origin told history n present within (stands-now origin mid told before is_told stands)

    of_either : IsTrue origin.tells → (kept : CommitsCut origin mid told least before) (image : Image) → OpensToEither kept.world (unmounted present) image → OpensToCut origin told history least image
    of_either is_told kept image either =
        ⊎_elim
        (λ (is : Recovers image kept.world). record { world = kept.world; cut = kept.cut; recovers = is })
        (λ (is : Recovers image (unmounted present)). record { world = unmounted present; cut = whole_cut is_told least low; recovers = is })
        either

    committing : broken_of before ≡ None → LeavesOnly mid new (CutSince origin told history 0)
    committing whole =
        ⊎_elim
        (λ (is_told : IsTrue origin.tells).
        let kept = cuts.kept whole is_told in
        leaves_more mid new (OpensToEither kept.world (unmounted present)) (CutSince origin told history 0)
        (λ image either told_so. opens-least origin told history least 0 image (omega arith) (of_either is_told kept image either))
        (survives whole (told_mid is_told) kept.world kept.keeps))
        (λ (untold : IsTrue origin.tells → ⊥). leaves-untold mid new (IsTrue origin.tells) (OpensToCut origin told history 0) untold runs)
        (told_or_not origin.tells)

    uncommitted_end : broken_of before ≡ None → (image : Image) → new.may_leave image → CutSince origin told history least image
    uncommitted_end whole image left is_told =
        let kept = cuts.kept whole is_told in
        of_either is_told kept image (leaves_now mid new (OpensToEither kept.world (unmounted present)) law (survives whole (told_mid is_told) kept.world kept.keeps) image left)

    uncommitted_kept : broken_of before ≡ None → broken_of after ≡ None → IsTrue origin.tells → CommitsCut origin new told least after
    uncommitted_kept whole unbroken is_told =
        let kept = cuts.kept whole is_told in
        ⊎_elim
        (λ (stays : KeepsWorld new after kept.world). record { world = kept.world; cut = subst (λ (es : List Entry). IsCut origin told es least kept.world) (sym same) kept.cut; keeps = stays })
        (λ (last : KeepsWorld new after (unmounted present)). record { world = unmounted present; cut = subst (λ (es : List Entry). IsCut origin told es least (unmounted present)) (sym same) (whole_cut is_told least low); keeps = last })
        (kept_on unbroken whole (told_mid is_told) kept.world kept.keeps)

    -- one that failed, or found the volume broken
    pub cuts-uncommitted : LeavesCuts origin new told least after
    cuts-uncommitted =
        ⊎_elim
        (λ (is : (number : ℕ) × (broken_of before ≡ Some number)).
        let there : mid ≡ new = sym (untouched is.0 is.1) in
        record {
          any_moment = subst (λ (m : Meaning). LeavesOnly origin m (CutSince origin told (history_of after) 0)) there (subst (λ (es : List Entry). LeavesOnly origin mid (CutSince origin told es 0)) (sym same) cuts.any_moment);
          at_the_end = subst (λ (m : Meaning). (image : Image) → m.may_leave image → CutSince origin told (history_of after) least image) there
              (subst (λ (es : List Entry). (image : Image) → mid.may_leave image → CutSince origin told es least image) (sym same) cuts.at_the_end);
          kept = λ none. absurd (no_one (broken_of after) is.0 (broken is.0 is.1) none);
        })
        (λ (whole : broken_of before ≡ None).
        record {
          any_moment = subst (λ (es : List Entry). LeavesOnly origin new (CutSince origin told es 0)) (sym same) (leaves_both origin mid new (CutSince origin told history 0) cuts.any_moment (committing whole));
          at_the_end = subst (λ (es : List Entry). (image : Image) → new.may_leave image → CutSince origin told es least image) (sym same) (uncommitted_end whole);
          kept = uncommitted_kept whole;
        })
        (broken_or_not (broken_of before))

    -- one that was done
    pub cuts-committed : broken_of before ≡ None → ((w : World) → IsTrue mid.tells → KeepsWorld mid before w → KeepsWorld new after (unmounted (world_of new.shows after))) → LeavesCuts origin new told (length_of after) after
    cuts-committed whole committed =
        let w = unmounted present in
        let cut : IsTrue origin.tells → IsCut origin told (history_of after) (length_of after) w =
        λ is_told. subst (λ (es : List Entry). IsCut origin told es (length es) w) (sym same) (whole_cut is_told (length history) (omega arith)) in
        let keeps : IsTrue origin.tells → KeepsWorld new after w =
        λ is_told.
        let kept = cuts.kept whole is_told in
        subst (λ (v : World). KeepsWorld new after (unmounted v)) (world (told_mid is_told)) (committed kept.world (told_mid is_told) kept.keeps) in
        record {
          any_moment = subst (λ (es : List Entry). LeavesOnly origin new (CutSince origin told es 0)) (sym same) (leaves_both origin mid new (CutSince origin told history 0) cuts.any_moment (committing whole));
          at_the_end = λ image left is_told. record { world = w; cut = cut is_told; recovers = kept-recovers new after.engine w (keeps is_told) image left };
          kept = λ unbroken is_told. record { world = w; cut = cut is_told; keeps = keeps is_told };
        }
