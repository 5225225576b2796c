-- The entries of an actor, its calls before its place, and the call of its line.
use Rattle.std.proofs.Common.{◌≡◌, ◌≤◌, ◌<◌, ℕ, zero, suc, ◌+◌, ◌-◌, true, IsTrue, Option, Some, None, IfSome, List, [], ◌∷◌, ◌++◌, length, take, get_or, nat_eq, if◌then◌else◌, inl, inr, refl, sym, ap, subst, ◌∙◌, arith, length-append}
use Rattle.std.specs.Prelude.{min, slice_get}
use Rattle.std.specs.List.{cons_option, AllByRecursion}
use Rattle.std.specs.Option.{option_and_then}
use Rattle.std.specs.Result.{result_ok}
use Rattle.std.proofs.lemmas.Option.{slice_get_read, slice_get_past, slice_get_cases}
use Rattle.std.proofs.lemmas.Bool.Decides.{nat_tests}
use Rattle.std.proofs.lemmas.List.Elements.{filter_map-append}
use Rattle.ck_disk.specs.Disk.{Meaning}
use Rattle.ck_model.specs.declared.call.Call.{Call}
use Rattle.ck_model.specs.declared.call.Call.TheVariants.{Backup, Cread, Full}
use Rattle.ck_model.specs.declared.entry.Entry.{Entry}
use Rattle.ck_model.specs.declared.reply.Reply.{Reply}
use Rattle.ck_model.specs.declared.reply.Reply.TheVariants.{Bytes}
use Rattle.ck_model.specs.Cells.{Cells, size_at}
use Rattle.ck_model.specs.History.{CallsBy, call_at, calls_of, numbers_of, state}
use Rattle.ck_model.specs.Streams.{Texts}
use Rattle.ck_model.specs.Walk.{file_at}
use Rattle.ck_model.specs.World.{World}
use Rattle.ck_laws.specs.Laws.{frozen}
use Rattle.ck_laws.specs.Fits.{FitsCall}
use Rattle.ck_script.specs.declared.line.Line.{Line}
use Rattle.ck_script.specs.Numbered.{calls_in, numbers_in, IsNumbered}
use Rattle.ck_files.specs.Built.{IsBuilt}
use Rattle.ck_read.specs.declared.progress.ReadProgress.{ReadProgress}
use Rattle.ck_read.specs.Progress.{all_turns, turns_had, turns_of}
use Rattle.ck_engine.specs.Recovery.{Recovers}
use Rattle.ck_volume.specs.declared.event.Progress.{Progress}
use Rattle.ck_volume.specs.declared.event.Progress.TheVariants.{Fresh, Read, Strip}
use Rattle.ck_volume.specs.Progress.{had_of, reading_of, FitsHistory, IsBegunFor, IsLastOf}
use Rattle.ck_volume.specs.Told.{AreAnswered}
use Rattle.ck_volume.specs.Turn.{OnStrip, UnlessStrip}
use Rattle.ck_volume.proofs.FitsLaws.{had_below, turns_on_way}
use Rattle.ck_actor.specs.declared.place.Place.{Place}
use Rattle.ck_actor.specs.declared.actor.Actor.{Actor}
use Rattle.ck_actor.specs.Actor.{entered_line, entered_numbers, HasBegun, IsOnWay, IsThrough, OnWay, Stands}
use Rattle.ck_actor.specs.Place.{answered_count, IsFound}
use Rattle.ck_actor.specs.Counts.{AsFrozen, FrozenMaps, Takes, frozen_on, frozen_turns}
use Rattle.ck_actor.proofs.PlaceLemmas.{all_before, calls_as_many, left_at, none_left, own_at, own_call, own_line, own_number}

pub numbers_of-more : (history : List Entry) (entry : Entry) (actor : ℕ) → entry.actor ≡ actor → numbers_of (history ++ entry ∷ []) actor ≡ numbers_of history actor ++ entry.seq ∷ []
numbers_of-more history entry actor own =
    let same : nat_eq entry.actor actor ≡ true = grind (arith, nat_tests, own) in
    filter_map-append (λ (e : Entry). if nat_eq e.actor actor then Some e.seq else None) history (entry ∷ [])
    ∙ ap (λ b. numbers_of history actor ++ cons_option (if b then Some entry.seq else None) []) same

-- with the entry of its line's call it has just its calls behind that line
pub stands_more : (lines : List Line) (at next : ℕ) (line : Line) (actor : ℕ) (history : List Entry) (entry : Entry) → at < length lines → line ≡ get_or lines at line → nat_eq line.actor actor ≡ true
    → entry.actor ≡ actor → entry.seq ≡ line.seq → numbers_in (take next lines) actor ≡ numbers_in (take (at + 1) lines) actor
    → numbers_of history actor ≡ numbers_in (take at lines) actor → numbers_of (history ++ entry ∷ []) actor ≡ numbers_in (take next lines) actor
stands_more lines at next line actor history entry within is own by_actor seq behind stands =
    numbers_of-more history entry actor by_actor
    ∙ (λ i. stands i ++ seq i ∷ [])
    ∙ sym (own_line lines at line actor within is own)
    ∙ sym behind

-- where a call is left there is room for its entry
pub room_here : (lines : List Line) (at : ℕ) (line : Line) (actor room : ℕ) → at < length lines → line ≡ get_or lines at line → nat_eq line.actor actor ≡ true
    → length (numbers_in lines actor) - length (numbers_in (take at lines) actor) ≤ room → 0 < room
room_here lines at line actor room within is own enough = let less = left_at lines at line actor within is own in omega (arith, less, enough)

room_there : (lines : List Line) (at actor room : ℕ) → at < length lines → IfSome (slice_get lines at) (λ line. line.actor ≡ actor)
    → length (numbers_in lines actor) - length (numbers_in (take at lines) actor) ≤ room → 0 < room
room_there lines at actor room within own enough =
    elim (slice_get_cases lines at).1 [
      | inl there ↦ room_here lines at there.0 actor room there.1 (sym there.3) (own_at lines at there.0 actor there.1 (sym there.3) own) enough
      | inr past ↦ absurd (omega (arith, within, past.0))
    ]

-- a call that strips has its entry
pub room_unless_strip : (lines : List Line) (place : Place) (progress : Progress) (room : ℕ) → place.line < length lines → IfSome (slice_get lines place.line) (λ line. line.actor ≡ place.actor)
    → length (numbers_in lines place.actor) - length (numbers_in (take (entered_line place progress) lines) place.actor) ≤ room → UnlessStrip progress (0 < room)
room_unless_strip lines place Fresh room within own enough = room_there lines place.line place.actor room within own enough
room_unless_strip lines place (Read read) room within own enough = room_there lines place.line place.actor room within own enough
room_unless_strip lines place (Strip id) room within own enough = tt

pub all_more : (P : Entry → Type 0) (history : List Entry) (entry : Entry) → AllByRecursion P history → P entry → AllByRecursion P (history ++ entry ∷ [])
all_more P [] entry h p = (p, tt)
all_more P (first ∷ history) entry h p = (h.0, all_more P history entry h.1 p)

-- what holds of each line holds of the one at a place
pub each_at : {A : Type 0} (P : A → Type 0) (xs : List A) (at : ℕ) (x : A) → AllByRecursion P xs → at < length xs → x ≡ get_or xs at x → P x
each_at P [] at x all within is = absurd (omega (arith, within))
each_at P (y ∷ xs) zero x all within is = subst P (sym is) all.0
each_at P (y ∷ xs) (suc at) x all within is = each_at P xs at x all.1 (omega (arith, within)) is

pub longer : (history : List Entry) (entry : Entry) → length (history ++ entry ∷ []) ≡ length history + 1
longer history entry = simp length-append (omega arith)

-- ---- the call of its line

pub lengthen : (xs : List ℕ) (x : ℕ) → length (xs ++ x ∷ []) ≡ length xs + 1
lengthen xs x = simp length-append (omega arith)

-- it is the next one of the actor
pub next_call_here : (lines : List Line) (at : ℕ) (line : Line) (actor : ℕ) → IsNumbered lines → at < length lines → line ≡ get_or lines at line → nat_eq line.actor actor ≡ true
    → call_at (calls_in lines) actor (length (numbers_in (take at lines) actor) + 1) ≡ Some line.call
next_call_here lines at line actor numbered within is own =
    ap (call_at (calls_in lines) actor) (sym (own_number lines at line actor numbered within is own)) ∙ own_call lines at line actor numbered within is own

-- behind it one more is through
pub one_through : (lines : List Line) (at next : ℕ) (line : Line) (actor : ℕ) → at < length lines → line ≡ get_or lines at line → nat_eq line.actor actor ≡ true
    → numbers_in (take next lines) actor ≡ numbers_in (take (at + 1) lines) actor → length (numbers_in (take next lines) actor) ≡ length (numbers_in (take at lines) actor) + 1
one_through lines at next line actor within is own behind =
    ap (λ (numbers : List ℕ). length numbers) (behind ∙ own_line lines at line actor within is own) ∙ lengthen (numbers_in (take at lines) actor) line.seq

-- and behind all lines there is none
pub no_call_behind : (lines : List Line) (at actor : ℕ) → length lines ≤ at → call_at (calls_in lines) actor (length (numbers_in (take at lines) actor) + 1) ≡ None
no_call_behind lines at actor past =
    let all : length (numbers_in (take at lines) actor) ≡ length (numbers_in lines actor) = ap (λ (numbers : List ℕ). length numbers) (all_before lines at actor past) in
    let many : length (numbers_in (take at lines) actor) + 1 ≡ suc (length (calls_of (calls_in lines) actor)) = omega (arith, all, calls_as_many lines actor) in
    ap (call_at (calls_in lines) actor) many ∙ slice_get_past (calls_of (calls_in lines) actor) (length (calls_of (calls_in lines) actor)) (omega arith)

some_line : (x y : Line) → ◌≡◌ {A = Option Line} (Some x) (Some y) → x ≡ y
some_line x y h = cc

module _ (origin : Meaning) (told : List Call) (lines : List Line) (history : List Entry) (place : Place) (line : Line) (within : place.line < length lines) (is : line ≡ get_or lines place.line line) where
  there : slice_get lines place.line ≡ Some line
  there = slice_get_read lines (length lines) place.line line refl within is

  -- a call on its way is that of this line
  module _ (progress : Progress) where
    begun_line : HasBegun origin told lines history place progress → IsBegunFor line.call progress
    begun_line way = subst (λ (l : Line). IsBegunFor l.call progress) (some_line way.line line (sym way.line_is ∙ there)) way.begun

    fits_line : line.actor ≡ place.actor → HasBegun origin told lines history place progress → FitsHistory origin told history line.actor line.call progress
    fits_line own way =
        subst (λ n. FitsHistory origin told history n line.call progress) (sym own)
        (subst (λ (l : Line). FitsHistory origin told history place.actor l.call progress) (some_line way.line line (sym way.line_is ∙ there)) way.fits)

    way_line : line.actor ≡ place.actor → IsBegunFor line.call progress → FitsHistory origin told history line.actor line.call progress → HasBegun origin told lines history place progress
    way_line own begun fits = record {
      line = line;
      line_is = there;
      own = own;
      begun = begun;
      fits = subst (λ n. FitsHistory origin told history n line.call progress) own fits;
    }

  pub begun_here : (progress : Progress) → IsOnWay origin told lines history place progress → IsBegunFor line.call progress
  begun_here Fresh on_way = tt
  begun_here (Read read) on_way = begun_line (Read read) on_way
  begun_here (Strip id) on_way = begun_line (Strip id) on_way

  pub fits_here : (progress : Progress) → line.actor ≡ place.actor → IsOnWay origin told lines history place progress → FitsHistory origin told history line.actor line.call progress
  fits_here Fresh own on_way = tt
  fits_here (Read read) own on_way = fits_line (Read read) own on_way
  fits_here (Strip id) own on_way = fits_line (Strip id) own on_way

  pub on_way_here : (progress : Progress) → line.actor ≡ place.actor → IsBegunFor line.call progress → FitsHistory origin told history line.actor line.call progress → IsOnWay origin told lines history place progress
  on_way_here Fresh own begun fits = tt
  on_way_here (Read read) own begun fits = way_line (Read read) own begun fits
  on_way_here (Strip id) own begun fits = way_line (Strip id) own begun fits

-- ---- the place of a call that is on its way

none_some : (o : Option Line) (x : Line) → o ≡ None → o ≡ Some x → ⊥
none_some o x none some = cc

module _ (origin : Meaning) (told : List Call) (lines : List Line) (history : List Entry) (place : Place) where
  not_past : (progress : Progress) → HasBegun origin told lines history place progress → length lines ≤ place.line → ⊥
  not_past progress way past = none_some (slice_get lines place.line) way.line (slice_get_past lines place.line past) way.line_is

  found_line : (progress : Progress) → HasBegun origin told lines history place progress → IsFound lines place
  found_line progress way = record {
    within = elim (slice_get_cases lines place.line).1 [
      | inl there ↦ let within = there.1 in omega (arith, within)
      | inr past ↦ absurd (not_past progress way past.0)
    ];
    own = subst (λ found. IfSome found (λ line. line.actor ≡ place.actor)) (sym way.line_is) way.own;
  }

  pub found_here : (progress : Progress) → IsOnWay origin told lines history place progress → OnWay progress (IsFound lines place)
  found_here Fresh on_way = tt
  found_here (Read read) on_way = found_line (Read read) on_way
  found_here (Strip id) on_way = found_line (Strip id) on_way

  -- at the end none is on its way
  pub is_fresh : (progress : Progress) → length lines ≤ place.line → IsOnWay origin told lines history place progress → progress ≡ Fresh
  is_fresh Fresh past on_way = refl
  is_fresh (Read read) past on_way = absurd (not_past (Read read) on_way past)
  is_fresh (Strip id) past on_way = absurd (not_past (Strip id) on_way past)

  pub at_end_rests : (progress : Progress) (X : Type 0) → length lines ≤ place.line → IsOnWay origin told lines history place progress → OnWay progress X
  at_end_rests progress X past on_way = subst (λ p. OnWay p X) (sym (is_fresh progress past on_way)) tt

-- a call that is on its way keeps the place, so what has entries stays
pub entered_still : (lines : List Line) (place next : Place) (progress : Progress) → OnWay progress (next ≡ place) → numbers_in (take next.line lines) place.actor ≡ numbers_in (take place.line lines) place.actor → next.actor ≡ place.actor
    → entered_numbers lines next progress ≡ entered_numbers lines place progress
entered_still lines place next Fresh same between actor_is = ap (λ n. numbers_in (take next.line lines) n) actor_is ∙ between
entered_still lines place next (Read read) same between actor_is = ap (λ (p : Place). entered_numbers lines p (Read read)) same
entered_still lines place next (Strip id) same between actor_is = ap (λ (p : Place). entered_numbers lines p (Strip id)) same

pub through_still : (lines : List Line) (place next : Place) → numbers_in (take next.line lines) place.actor ≡ numbers_in (take place.line lines) place.actor → next.actor ≡ place.actor → answered_count lines next ≡ answered_count lines place
through_still lines place next between actor_is = ap (λ n. length (numbers_in (take next.line lines) n)) actor_is ∙ ap (λ (numbers : List ℕ). length numbers) between

pub entered_behind : (place : Place) (p : Progress) → place.line ≤ entered_line place p
entered_behind place Fresh = omega arith
entered_behind place (Read read) = omega arith
entered_behind place (Strip id) = omega arith

-- at the end all its calls have entries
pub all_entered : (lines : List Line) (place : Place) (progress : Progress) → length lines ≤ place.line → entered_numbers lines place progress ≡ numbers_in lines place.actor
all_entered lines place progress past = let more = entered_behind place progress in all_before lines (entered_line place progress) place.actor (omega (arith, past, more))

pub on_way_still : (origin : Meaning) (told : List Call) (lines : List Line) (history : List Entry) (place next : Place) (progress : Progress) → OnWay progress (next ≡ place) → IsOnWay origin told lines history place progress
    → IsOnWay origin told lines history next progress
on_way_still origin told lines history place next Fresh same on_way = tt
on_way_still origin told lines history place next (Read read) same on_way = subst (λ (p : Place). IsOnWay origin told lines history p (Read read)) (sym same) on_way
on_way_still origin told lines history place next (Strip id) same on_way = subst (λ (p : Place). IsOnWay origin told lines history p (Strip id)) (sym same) on_way

-- ---- an actor whose calls are all through

pub through_there : (origin : Meaning) (told : List Call) (lines : List Line) (history : List Entry) (actor : Actor) → Stands origin told lines history actor → length lines ≤ actor.place.line → IsThrough lines history actor
through_there origin told lines history actor stands past = record {
  numbers = stands.numbers ∙ all_entered lines actor.place actor.progress past;
  at_rest = is_fresh origin told lines history actor.place actor.progress past stands.on_way;
}

pub through_end : (origin : Meaning) (told : List Call) (lines : List Line) (history : List Entry) (actor : Actor) → Stands origin told lines history actor → IsFound lines actor.place → IsThrough lines history actor → length lines ≤ actor.place.line
through_end origin told lines history actor stands found all =
    let numbers : numbers_of history actor.place.actor ≡ numbers_in (take actor.place.line lines) actor.place.actor = stands.numbers ∙ ap (λ (p : Progress). entered_numbers lines actor.place p) all.at_rest in
    none_left lines actor.place.line actor.place.actor found.own (sym numbers ∙ all.numbers)

-- ---- the turns of a read that is on its way

-- the map under its letter is the one that it reads, so the frozen maps tell as many turns as its range has
frozen_on_way : (texts : Texts) (calls : CallsBy) (w : World) (history : List Entry) (actor letter : ℕ) (path : List (List ℕ)) (at len : ℕ) (read : ReadProgress)
    → FitsCall texts calls w history actor letter path at len (reading_of read)
    → frozen_turns (frozen texts calls w history) (state texts calls w history) actor (Cread letter path at len) ≡ Some (all_turns read)
frozen_on_way texts calls w history actor letter path at len read fits =
    let counted : Cells → Option ℕ = λ cells. option_and_then (λ node. Some (turns_of at (min len (size_at cells node - at)))) (result_ok (file_at cells path)) in
    ap (λ o. option_and_then counted (option_and_then (frozen texts calls w history) o)) fits.mounted
    ∙ ap (λ o. option_and_then counted o) fits.cells_are
    ∙ ap (λ found. option_and_then (λ node. Some (turns_of at (min len (size_at fits.cells node - at)))) (result_ok found)) fits.read.file
    ∙ ap (λ n. Some n) (sym (turns_on_way fits.cells path at len read fits.read))

-- and with the present one it has had no more of them
as_frozen_on_way : (texts : Texts) (calls : CallsBy) (w : World) (history : List Entry) (actor letter : ℕ) (path : List (List ℕ)) (at len : ℕ) (read : ReadProgress)
    → FitsCall texts calls w history actor letter path at len (reading_of read)
    → AsFrozen (frozen_turns (frozen texts calls w history) (state texts calls w history) actor (Cread letter path at len)) (turns_had read + 1)
as_frozen_on_way texts calls w history actor letter path at len read fits =
    subst (λ turns. AsFrozen turns (turns_had read + 1)) (sym (frozen_on_way texts calls w history actor letter path at len read fits)) (had_below read)

-- the first turn of a read is one that it may take
first_turn : (maps : FrozenMaps) (w : World) (actor letter : ℕ) (path : List (List ℕ)) (at len : ℕ) → AsFrozen (frozen_turns maps w actor (Cread letter path at len)) 1
first_turn maps w actor letter path at len =
    elim (frozen_on maps w actor letter) as (λ o. AsFrozen (option_and_then (λ cells. option_and_then (λ node. Some (turns_of at (min len (size_at cells node - at)))) (result_ok (file_at cells path))) o) 1) [
      | None ↦ refl
      | Some cells ↦ elim (result_ok (file_at cells path)) as (λ o. AsFrozen (option_and_then (λ node. Some (turns_of at (min len (size_at cells node - at)))) o) 1) [ None ↦ refl | Some node ↦ omega arith ]
    ]

-- a call that is answered has had as many turns as it may take
pub takes_of : (origin : Meaning) (told : List Call) (history : List Entry) (actor : ℕ) (call : Call) (reply : Reply) (progress : Progress) → IsBuilt call → IsBegunFor call progress → OnStrip progress (λ id. ⊥) → FitsHistory origin told history actor call progress
    → IsLastOf call reply (had_of progress + 1) → IsTrue origin.tells → (w : World) → Recovers origin.shows w → (texts : Texts) (calls : CallsBy) → AreAnswered calls told history
    → Takes (frozen_turns (frozen texts calls w history) (state texts calls w history) actor call) call reply (had_of progress + 1)
takes_of origin told history actor (Cread letter path at len) (Bytes bytes) progress built begun none fits last is_told w found texts calls answered = record { some = omega arith; told = λ _. last }
takes_of origin told history actor (Cread letter path at len) _ Fresh built begun none fits last is_told w found texts calls answered =
    record { some = omega arith; told = λ _. first_turn (frozen texts calls w history) (state texts calls w history) actor letter path at len }
takes_of origin told history actor (Cread letter path at len) _ (Read read) built begun none fits last is_told w found texts calls answered =
    record { some = omega arith; told = λ _. as_frozen_on_way texts calls w history actor letter path at len read (fits is_told w found texts calls answered) }
takes_of origin told history actor (Cread letter path at len) _ (Strip id) built begun none fits last is_told w found texts calls answered = absurd none
takes_of origin told history actor (Full letter) reply progress built begun none fits last is_told w found texts calls answered = absurd built
takes_of origin told history actor (Backup letter later) reply progress built begun none fits last is_told w found texts calls answered = absurd built
takes_of origin told history actor _ reply Fresh built begun none fits last is_told w found texts calls answered = record { some = omega arith; told = λ _. refl }
takes_of origin told history actor _ reply (Read read) built begun none fits last is_told w found texts calls answered = absurd begun
takes_of origin told history actor _ reply (Strip id) built begun none fits last is_told w found texts calls answered = absurd none
