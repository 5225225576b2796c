-- What contracts see of a pass.
use Rattle.std.specs.Prelude.{◌≡◌, ℕ, Bool, true, false, List, [], ◌∷◌, Option, None, length, nat_lt, if◌then◌else◌, ◌⊎◌}
use Rattle.atomic_table.specs.Table.{Me}
use Rattle.ck_turn.specs.declared.view.View.{View}
use Rattle.ck_turn.specs.declared.view.Phase.TheVariants.{Out, Inside}
use Rattle.ck_turn.specs.Turnstile.{Lock, Mark, mark_of}

-- its turnstile, whether it is the first pass, which is the one that `new` gave, how many passes were split from it and how many joined into it, whether it is inside, and the entries that it has seen
pub record PassState (E O : Type 0) : Type 0 where
  pub turnstile : Mark O
  pub first : Bool
  pub splits : ℕ
  pub joins : ℕ
  pub inside : Bool
  pub seen : List E

module _ {E O : Type 0} where
  abbrev pub IsPassOf : Lock O → PassState E O → Type 0
  IsPassOf lock pass = pass.turnstile ≡ mark_of lock

  -- what `new` gives
  abbrev pub first_pass : Lock O → PassState E O
  first_pass lock = record { turnstile = mark_of lock; first = true; splits = 0; joins = 0; inside = false; seen = [] }

  -- what `split` gives
  abbrev pub second_pass : PassState E O → PassState E O
  second_pass pass = record { turnstile = pass.turnstile; first = false; splits = 0; joins = 0; inside = false; seen = pass.seen }

-- the longer of two lists, and the first where they are as long
abbrev pub longer : {E : Type 0} → List E → List E → List E
longer xs ys = if nat_lt (length xs) (length ys) then ys else xs

-- A pass that a caller has is outside with nothing in hand, or inside with the empty slot
abbrev pub IsAtRest : {E O T : Type 0} → Me (Option T) (View E O) → Type 0
IsAtRest me = ((me.0.phase ≡ Out) × (me.1 ≡ [])) ⊎ ((me.0.phase ≡ Inside) × (me.1 ≡ (0, None) ∷ []))
