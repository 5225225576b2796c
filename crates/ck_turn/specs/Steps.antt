-- What each step tells the pass that makes it, of its view and of what it has in hand.
use Rattle.std.specs.Prelude.{◌≡◌, ℕ, ◌+◌, ◌%◌, ◌^◌, ◌≢◌, true, false, List, [], ◌∷◌, Option, Some, None}
use mathlib.Core.List.{IsPrefix}
use Rattle.atomic_table.specs.Table.{Me, rest}
use Rattle.ck_turn.specs.declared.view.View.{View}
use Rattle.ck_turn.specs.declared.view.Phase.{Phase}
use Rattle.ck_turn.specs.declared.view.Phase.TheVariants.{Out, Waiting, Called, Inside, Wrote, Gave, Spent}
use Rattle.ck_turn.specs.Pass.{longer}

abbrev pub Mine : (E O T : Type 0) → Type 0
Mine E O T = Me (Option T) (View E O)

-- the entries of the value in hand
abbrev pub held : {E T : Type 0} → (T → List E) → List (ℕ × Option T) → List E
held entries [] = []
held {E} entries (x ∷ xs) = elim (x.1) as (λ _. List E) [ None ↦ [] | Some y ↦ entries y ]

module _ {E O : Type 0} where
  abbrev pub at_phase : Phase → View E O → View E O
  at_phase p v = record v { phase = p }

  abbrev pub seeing : Phase → List E → View E O → View E O
  seeing p seen v = record v { phase = p; seen = seen }

  abbrev pub waiting : ℕ → View E O → View E O
  waiting n v = record v { phase = Waiting; ticket = n }

  -- the first pass counts the split, and the new one has seen as much
  abbrev pub after_split : View E O → View E O
  after_split v = record v { splits = v.splits + 1 }

  abbrev pub split_off : View E O → View E O
  split_off v = record { first = false; splits = 0; joins = 0; phase = Out; ticket = 0; seen = v.seen; origin = v.origin }

  -- the first pass counts the join and keeps the longer list, and the other one is spent
  abbrev pub after_join : View E O → View E O → View E O
  after_join v u = record v { joins = v.joins + 1; seen = longer v.seen u.seen }

  abbrev pub spent : View E O
  spent = record { first = false; splits = 0; joins = 0; phase = Spent; ticket = 0; seen = []; origin = [] }

  module _ {T : Type 0} where
    abbrev pub DrawsTicket : Mine E O T → ℕ → Mine E O T → Type 0
    DrawsTicket before found after = (after.1 ≡ before.1) × ((t : ℕ) × (found ≡ t % 2 ^ 64) × (after.0 ≡ waiting t before.0))

    abbrev pub LooksAtServing : Mine E O T → ℕ → Mine E O T → Type 0
    LooksAtServing before found after = (after.1 ≡ before.1)
        × (found ≡ before.0.ticket % 2 ^ 64 → after.0 ≡ at_phase Called before.0)
        × (found ≢ before.0.ticket % 2 ^ 64 → after.0 ≡ before.0)

    abbrev pub TakesValue : (T → List E) → (T → O) → Mine E O T → Mine E O T → Type 0
    TakesValue entries origin_of before after = (x : T) × (after.1 ≡ (0, Some x) ∷ before.1) × (after.0 ≡ seeing Inside (entries x) before.0)
        × IsPrefix before.0.seen (entries x) × (origin_of x ∷ [] ≡ before.0.origin)

    abbrev pub VacatesSlot : Mine E O T → Mine E O T → Type 0
    VacatesSlot before after = (after.1 ≡ (0, None) ∷ before.1) × (after.0 ≡ at_phase Wrote before.0)

    abbrev pub RaisesLength : (T → List E) → Mine E O T → Mine E O T → Type 0
    RaisesLength entries before after = (after.1 ≡ before.1) × (after.0 ≡ seeing Wrote (held entries before.1) before.0)

    abbrev pub GivesBack : Mine E O T → Mine E O T → Type 0
    GivesBack before after = (after.1 ≡ rest before.1) × (after.0 ≡ at_phase Gave before.0)

    abbrev pub RaisesServing : Mine E O T → Mine E O T → Type 0
    RaisesServing before after = (after.1 ≡ before.1) × (after.0 ≡ at_phase Out before.0)
