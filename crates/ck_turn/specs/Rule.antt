-- The rule of the turnstile, which each step keeps. It stands over three words, one slot and the views of all passes.
-- The words are the next ticket, the ticket that is served, and the length of the list. Tickets are counted on past 2^64 here, and the words have them modulo 2^64.
use Rattle.std.specs.Prelude.{◌≡◌, ℕ, ◌+◌, ◌%◌, ◌^◌, ◌<◌, ◌≤◌, ◌≢◌, ◌⊎◌, Bool, true, false, List, [], ◌∷◌, Option, Some, None, length}
use mathlib.Core.Option.{none, some}
use mathlib.Core.Option as maybe
use mathlib.Core.List.{IsPrefix}
use lib.ListN.{get_elem?}
use Rattle.atomic_table.specs.Table.{State}
use Rattle.ck_turn.specs.declared.view.View.{View}
use Rattle.ck_turn.specs.declared.view.Opening.{Opening}
use Rattle.ck_turn.specs.declared.view.Phase.{Phase}
use Rattle.ck_turn.specs.declared.view.Phase.TheVariants.{Fresh}
use Rattle.ck_turn.specs.Phase.{has_ticket, has_turn, is_away, has_all, is_live, left_behind}

abbrev pub bit : Bool → ℕ
bit true = 1
bit false = 0

module _ {E O : Type 0} where
  -- how many views pass the test
  abbrev pub how_many : (Phase → Bool) → List (View E O) → ℕ
  how_many test [] = 0
  how_many test (v ∷ vs) = bit (test v.phase) + how_many test vs

  -- What holds of each view. The tickets out are those from `served` on, and `queue` has the numbers of their passes in order
  pub record Fits (served : ℕ) (queue : List ℕ) (longest : List E) (origin : O) (j : ℕ) (v : View E O) : Type 0 where
    -- its ticket is out, and is its own
    pub queued : has_ticket v.phase ≡ true → (d : ℕ) × (v.ticket ≡ served + d) × (get_elem? queue d ≡ some j)
    -- with the turn it has the ticket that is served
    pub turn : has_turn v.phase ≡ true → v.ticket ≡ served
    -- it has seen a beginning of the longest list, and all of that while it may change it
    pub begins : IsPrefix v.seen longest
    pub whole : has_all v.phase ≡ true → v.seen ≡ longest
    pub from : is_live v.phase ≡ true → v.origin ≡ origin ∷ []

  -- the ticket `served + d` is out, and the pass j has it
  abbrev pub Holds : ℕ → List (View E O) → ℕ → ℕ → Type 0
  Holds served views d j = (v : View E O) × (get_elem? views j ≡ some v) × (has_ticket v.phase ≡ true) × (v.ticket ≡ served + d)

  -- a pass that was not joined into another has seen the longest list
  abbrev pub IsSeen : List E → List (View E O) → Type 0
  IsSeen longest views = (j : ℕ) × (v : View E O) × (get_elem? views j ≡ some v) × (is_live v.phase ≡ true) × (v.seen ≡ longest)

  -- Of `made` passes `live` were not joined into another. The first is one of them, was split once for each other, and was joined once for each that is not live
  pub record Role (made live : ℕ) (j : ℕ) (v : View E O) : Type 0 where
    pub first_pass : j ≡ 0 → (v.first ≡ true) × (is_live v.phase ≡ true) × (made ≡ 1 + v.splits) × (live + v.joins ≡ made)
    pub other_pass : j ≢ 0 → v.first ≡ false

  module _ {T : Type 0} (entries : T → List E) (origin_of : T → O) where
    -- the value lies in the slot, with all entries and the origin, and no pass has taken it out
    abbrev pub IsHome : O → List (maybe.Option (Option T)) → List E → List (View E O) → Type 0
    IsHome origin homes longest views = (x : T) × (homes ≡ some (Some x) ∷ []) × (entries x ≡ longest) × (origin_of x ≡ origin)
        × ((j : ℕ) (v : View E O) → get_elem? views j ≡ some v → is_away v.phase ≡ false)

    -- one pass has taken it out
    abbrev pub IsOut : List (maybe.Option (Option T)) → List (View E O) → Type 0
    IsOut homes views = (j : ℕ) × (v : View E O) × (get_elem? views j ≡ some v) × (is_away v.phase ≡ true) × (homes ≡ left_behind v.phase ∷ [])

    abbrev pub Slot : O → List (maybe.Option (Option T)) → List E → List (View E O) → Type 0
    Slot origin homes longest views = IsHome origin homes longest views ⊎ IsOut homes views

    pub record Kept (key : Opening T) (s : State (Option T) (View E O)) : Type 0 where
      pub served : ℕ
      pub queue : List ℕ
      pub longest : List E
      pub words_are : s.words ≡ (served + length queue) % 2 ^ 64 ∷ served % 2 ^ 64 ∷ length longest ∷ []
      -- as many passes have a ticket as tickets are out, and there are at most `callers + 1` passes
      pub as_many : how_many has_ticket s.views ≡ length queue
      pub few : length s.views ≤ key.callers + 1
      pub small : key.callers < 2 ^ 32
      pub held_by : (d j : ℕ) → get_elem? queue d ≡ some j → Holds served s.views d j
      pub each : (j : ℕ) (v : View E O) → get_elem? s.views j ≡ some v → Fits served queue longest (origin_of key.value) j v
      pub is_seen : IsSeen longest s.views
      pub some_view : 0 < length s.views
      pub roles : (j : ℕ) (v : View E O) → get_elem? s.views j ≡ some v → Role (length s.views) (how_many is_live s.views) j v
      pub slot : Slot (origin_of key.value) s.homes longest s.views

  -- the view of the first pass as the table is made
  abbrev pub first_view : O → View E O
  first_view origin = record { first = true; splits = 0; joins = 0; phase = Fresh; ticket = 0; seen = []; origin = origin ∷ [] }
