-- How many turns calls take, whatever world they are answered in, and as a history goes on.
use Rattle.std.proofs.Common.{◌≡◌, ◌≤◌, ℕ, ◌+◌, ◌-◌, true, false, List, [], ◌∷◌, ◌++◌, length, min, Option, Some, None, MatchOption, IsSomeAnd, nat_lt, if◌then◌else◌, refl, sym, subst, arith}
use Rattle.std.specs.Prelude.{⊤}
use Rattle.std.specs.List.{AllByRecursion}
use Rattle.std.specs.Option.{option_and_then}
use Rattle.std.specs.Result.{result_ok}
use Rattle.std.specs.FinMap as map
use Rattle.ck_model.specs.declared.call.Call.{Call}
use Rattle.ck_model.specs.declared.call.Call.TheVariants.{Cread, Backup, Full}
use Rattle.ck_model.specs.declared.entry.Entry.{Entry}
use Rattle.ck_model.specs.declared.reply.Reply.{Reply}
use Rattle.ck_model.specs.Cells.{Cells, size_at}
use Rattle.ck_model.specs.History.{CallsBy, Past, past_after, past_of}
use Rattle.ck_model.specs.Streams.{Texts, image, changed}
use Rattle.ck_model.specs.Walk.{file_at}
use Rattle.ck_model.specs.World.{World}
use Rattle.ck_read.specs.Progress.{turns_of}
use Rattle.ck_actor.specs.Counts.{TurnCounts, FrozenMaps, AsFrozen, Takes, TakeTurns, frozen_turns, told_turns}

-- the entry's call takes as many turns as it may, in any world
abbrev pub TakesAnywhere : CallsBy → FrozenMaps → TurnCounts → Entry → Type 0
TakesAnywhere calls frozen counts entry =
    IsSomeAnd (calls entry.actor entry.seq) (λ call. (w : World) → Takes (frozen_turns frozen w entry.actor call) call entry.reply (counts entry.actor entry.seq))

-- it does so in this world
abbrev pub TakesHere : CallsBy → FrozenMaps → TurnCounts → World → Entry → Type 0
TakesHere calls frozen counts w entry =
    IsSomeAnd (calls entry.actor entry.seq) (λ call. Takes (frozen_turns frozen w entry.actor call) call entry.reply (counts entry.actor entry.seq))

weaker : {X : Type 0} (o : Option X) (P Q : X → Type 0) → ((x : X) → P x → Q x) → IsSomeAnd o P → IsSomeAnd o Q
weaker None P Q each h = h
weaker (Some x) P Q each h = each x h

pub take_anywhere : (texts : Texts) (calls : CallsBy) (frozen : FrozenMaps) (counts : TurnCounts) (past : Past) (history : List Entry) →
    AllByRecursion (TakesAnywhere calls frozen counts) history → TakeTurns texts calls frozen counts past history
take_anywhere texts calls frozen counts past [] all = tt
take_anywhere texts calls frozen counts past (entry ∷ entries) all =
    (weaker (calls entry.actor entry.seq) _ _ (λ call each. each past.world) all.0, take_anywhere texts calls frozen counts (past_after texts calls past entry) entries all.1)

-- one entry more
pub take_more : (texts : Texts) (calls : CallsBy) (frozen : FrozenMaps) (counts : TurnCounts) (past : Past) (history : List Entry) (entry : Entry) →
    TakeTurns texts calls frozen counts past history → TakesHere calls frozen counts (past_of texts calls past history).world entry → TakeTurns texts calls frozen counts past (history ++ entry ∷ [])
take_more texts calls frozen counts past [] entry all here = (here, tt)
take_more texts calls frozen counts past (first ∷ history) entry all here = (all.0, take_more texts calls frozen counts (past_after texts calls past first) history entry all.1 here)

-- ---- as a history goes on, more maps are frozen

abbrev pub GoesOn : FrozenMaps → FrozenMaps → Type 0
GoesOn maps more = (id : ℕ) (cells : Cells) → maps id ≡ Some cells → more id ≡ Some cells

abbrev HasTurn : Option ℕ → Type 0
HasTurn None = ⊤
HasTurn (Some most) = 1 ≤ most

-- what the maps tell stays; where they tell nothing, more of them tell at least one turn
abbrev Grows : Option ℕ → Option ℕ → Type 0
Grows None after = HasTurn after
Grows (Some most) after = after ≡ Some most

grows-itself : (o : Option ℕ) → HasTurn o → Grows o o
grows-itself None some = tt
grows-itself (Some most) some = refl

module _ (maps more : FrozenMaps) (goes_on : GoesOn maps more) where
  then-some : (f : Cells → Option ℕ) → ((cells : Cells) → HasTurn (f cells)) → (o : Option Cells) → HasTurn (option_and_then f o)
  then-some f some None = tt
  then-some f some (Some cells) = some cells

  -- what is told of the map under an id
  under : (id : ℕ) (f g : Cells → Option ℕ) → ((cells : Cells) → HasTurn (g cells)) → ((cells : Cells) → Grows (f cells) (g cells)) → Grows (option_and_then f (maps id)) (option_and_then g (more id))
  under id f g some grows =
      elim (maps id) as (λ o. maps id ≡ o → Grows (option_and_then f o) (option_and_then g (more id))) [
        | None ↦ λ _. then-some g some (more id)
        | Some cells ↦ λ is. subst (λ o. Grows (f cells) (option_and_then g o)) (sym (goes_on id cells is)) (grows cells)
      ] refl

  -- what is told of the map for which a letter stands
  under_letter : (id : Option ℕ) (f : Cells → Option ℕ) → ((cells : Cells) → HasTurn (f cells)) → Grows (option_and_then f (option_and_then maps id)) (option_and_then f (option_and_then more id))
  under_letter None f some = tt
  under_letter (Some id) f some = under id f f some (λ cells. grows-itself (f cells) (some cells))

  read_some : (path : List (List ℕ)) (at len : ℕ) (cells : Cells) → HasTurn (option_and_then (λ node. Some (turns_of at (min len (size_at cells node - at)))) (result_ok (file_at cells path)))
  read_some path at len cells =
      elim (result_ok (file_at cells path)) as (λ o. HasTurn (option_and_then (λ node. Some (turns_of at (min len (size_at cells node - at)))) o)) [ None ↦ tt | Some node ↦ omega arith ]

  changed_some : (first second : ℕ) (earlier later : Cells) → HasTurn (if nat_lt second first then None else Some (length (changed earlier later) + 1))
  changed_some first second earlier later =
      elim (nat_lt second first) as (λ b. HasTurn (if b then None else Some (length (changed earlier later) + 1))) [ true ↦ tt | false ↦ omega arith ]

  backup_grows : (first second : Option ℕ) →
      Grows (option_and_then (λ first. option_and_then (λ second. option_and_then (λ earlier. option_and_then (λ later. if nat_lt second first then None else Some (length (changed earlier later) + 1)) (maps second)) (maps first)) second) first)
      (option_and_then (λ first. option_and_then (λ second. option_and_then (λ earlier. option_and_then (λ later. if nat_lt second first then None else Some (length (changed earlier later) + 1)) (more second)) (more first)) second) first)
  backup_grows None second = tt
  backup_grows (Some first) None = tt
  backup_grows (Some first) (Some second) =
      under first _ _ (λ earlier. then-some _ (changed_some first second earlier) (more second)) (λ earlier.
      under second _ _ (changed_some first second earlier) (λ later. grows-itself _ (changed_some first second earlier later)))

  frozen_turns-grows : (w : World) (actor : ℕ) (call : Call) → Grows (frozen_turns maps w actor call) (frozen_turns more w actor call)
  frozen_turns-grows w actor (Cread letter path at len) = under_letter (map.get w.mounts (actor, letter)) _ (read_some path at len)
  frozen_turns-grows w actor (Full letter) = under_letter (map.get w.mounts (actor, letter)) (λ cells. Some (length (image cells) + 1)) (λ cells. omega arith)
  frozen_turns-grows w actor (Backup letter later) = backup_grows (map.get w.mounts (actor, letter)) (map.get w.mounts (actor, later))
  frozen_turns-grows w actor _ = tt

  as_frozen : (before after : Option ℕ) (count : ℕ) → Grows before after → AsFrozen before count → AsFrozen after count
  as_frozen None None count grows is = is
  as_frozen None (Some most) count grows is = omega (arith, grows, is)
  as_frozen (Some most) after count grows is = subst (λ o. AsFrozen o count) (sym grows) is

  takes_longer : (before after : Option ℕ) (call : Call) (reply : Reply) (count : ℕ) → Grows before after → Takes before call reply count → Takes after call reply count
  takes_longer before after call reply count grows takes = record {
    some = takes.some;
    told = λ through. elim (told_turns call reply) as (λ o. MatchOption o (AsFrozen before count) (λ turns. count ≡ turns) → MatchOption o (AsFrozen after count) (λ turns. count ≡ turns)) [
      | None ↦ as_frozen before after count grows
      | Some turns ↦ λ told. told
    ] (takes.told through);
  }

  pub take_longer : (texts : Texts) (calls : CallsBy) (counts : TurnCounts) (past : Past) (history : List Entry) → TakeTurns texts calls maps counts past history → TakeTurns texts calls more counts past history
  take_longer texts calls counts past [] all = tt
  take_longer texts calls counts past (entry ∷ entries) all = (
    weaker (calls entry.actor entry.seq) _ _ (λ call. takes_longer (frozen_turns maps past.world entry.actor call) (frozen_turns more past.world entry.actor call) call entry.reply (counts entry.actor entry.seq) (frozen_turns-grows past.world entry.actor call)) all.0,
    take_longer texts calls counts (past_after texts calls past entry) entries all.1,
  )
