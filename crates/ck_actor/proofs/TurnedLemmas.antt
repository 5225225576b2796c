-- One turn more of those that the script lists.
use Rattle.std.proofs.Common.{◌≡◌, ◌≤◌, ℕ, suc, ◌+◌, None, inl, List, [], ◌∷◌, ◌++◌, length, refl, sym, ap, subst, ◌∙◌, arith}
use Rattle.std.specs.List.{AllByRecursion}
use Rattle.std.proofs.lemmas.Option.{slice_get_past}
use Rattle.ck_disk.specs.Disk.{Meaning}
use Rattle.ck_disk.specs.declared.disk.Disk.{Ghosts}
use Rattle.ck_io.specs.Clock.{ClockMeaning}
use Rattle.ck_model.specs.declared.entry.Entry.{Entry}
use Rattle.ck_model.specs.History.{call_at, calls_of}
use Rattle.ck_script.specs.declared.line.Line.{Line}
use Rattle.ck_script.specs.Numbered.{calls_in}
use Rattle.ck_volume.specs.TopCuts.{synced_count}
use Rattle.ck_volume.specs.Volume.{committed_of, history_of, room_of, KeepsLog}
use Rattle.ck_volume.specs.declared.volume.Volume.{Volume}
use Rattle.ck_actor.specs.declared.actor.Actor.{Actor}
use Rattle.ck_actor.specs.Counts.{TurnCounts}
use Rattle.ck_actor.specs.Played.{places_of, AreTurned, HasStepped, IsPlayed, IsUnderWay}
use Rattle.ck_actor.specs.Turned.{answered_by_now}
use Rattle.ck_actor.specs.Walk.{Standings, IsWalked}
use Rattle.ck_actor.proofs.EndsLemmas.{none_numbers}
use Rattle.ck_actor.proofs.PlaceLemmas.{calls_as_many}
use Rattle.ck_actor.proofs.StepLemmas.{walk_step}
use Rattle.ck_actor.proofs.TurnLemmas.{walk_idle}

-- no line is the background's
background_call : (lines : List Line) (through : ℕ) → AllByRecursion (λ line. (1 ≤ line.actor) × (line.actor ≤ 64)) lines → call_at (calls_in lines) 0 (through + 1) ≡ None
background_call lines through among =
    let same : through + 1 ≡ suc through = omega arith in
    let many : length (calls_of (calls_in lines) 0) ≡ 0 = calls_as_many lines 0 ∙ ap (λ (numbers : List ℕ). length numbers) (none_numbers lines 0 among (inl refl)) in
    ap (call_at (calls_in lines) 0) same ∙ slice_get_past (calls_of (calls_in lines) 0) through (omega (arith, many))

module _ {D : Type 0} {g : Ghosts D} (means : D → Meaning) (origin : D) (clock : ClockMeaning) (lines : List Line) (volume after : Volume D g) where
  -- what only the background did leaves it all
  pub way_kept : (actors : List Actor) (at : Standings) (known : TurnCounts) → KeepsLog volume after → IsUnderWay means origin clock lines volume actors at known → IsUnderWay means origin clock lines after actors at known
  way_kept actors at known log way = record {
    played = subst (λ room. IsPlayed (means origin) clock lines actors at known (answered_by_now after) room) (sym log.room)
        (subst (λ now. IsPlayed (means origin) clock lines actors at known now (room_of volume)) (λ i. record { told = sym log.told i; history = sym log.history i }) way.played);
    synced = subst (λ (n : ℕ). synced_count (call_at (calls_in lines)) (history_of after) ≤ n) (sym log.committed)
        (subst (λ (es : List Entry). synced_count (call_at (calls_in lines)) es ≤ committed_of volume) (sym log.history) way.synced);
    unspoilt = log.spoilt ∙ way.unspoilt;
    origin_is = log.origin ∙ way.origin_is;
  }

  module _ (turns : List ℕ) (actors : List Actor) (so_far : AreTurned means origin clock lines turns volume actors) where
    pub background_turned : AllByRecursion (λ line. (1 ≤ line.actor) × (line.actor ≤ 64)) lines → KeepsLog volume after → AreTurned means origin clock lines (turns ++ 0 ∷ []) after actors
    background_turned among log = record {
      at = so_far.at;
      known = so_far.known;
      under_way = way_kept actors so_far.at so_far.known log so_far.under_way;
      walked = subst (λ (es : List Entry). IsWalked lines so_far.at so_far.known (turns ++ 0 ∷ []) (places_of es)) (sym log.history)
          (walk_idle lines so_far.at so_far.known turns (places_of (history_of volume)) so_far.walked 0 (background_call lines (so_far.at 0).through among));
    }

    pub own_turned : (n : ℕ) (moved : List Actor) → HasStepped means origin clock lines n so_far.at so_far.known volume after moved → AreTurned means origin clock lines (turns ++ n ∷ []) after moved
    own_turned n moved stepped = record {
      at = stepped.next;
      known = stepped.counts;
      under_way = stepped.under_way;
      walked = walk_step lines n so_far.at stepped.next so_far.known stepped.counts turns (places_of (history_of volume)) (places_of (history_of after)) stepped.step so_far.walked;
    }
