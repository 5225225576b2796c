-- What a call that makes room comes to, where what it asks for is known.
use Rattle.std.proofs.Common.{◌≡◌, ℕ, zero, suc, ◌+◌, ◌-◌, ◌&&◌, Bool, true, false, List, [], ◌∷◌, ◌++◌, length, Some, None, nat_le, if◌then◌else◌, refl, sym, ap, ◌∙◌, arith, length-append}
use Rattle.std.specs.Option.{option_map_or}
use Rattle.std.specs.FinMap as map
use Rattle.ck_model.specs.declared.checkpoint.Kind.{Kind}
use Rattle.ck_model.specs.declared.reply.Reply.{Reply}
use Rattle.ck_model.specs.declared.reply.Reply.TheVariants.{NoSpace}
use Rattle.ck_model.specs.declared.reply.SpaceOf.TheVariants.{Blocks, Records}
use Rattle.ck_model.specs.Cells.{Cells, differences}
use Rattle.ck_model.specs.World.{World, Checkpoint, shown_by}
use Rattle.ck_model.specs.Space.{fits, no_space, given_up, without_picks, records_in, difference_count}
use Rattle.ck_model.specs.CheckpointCalls.{kind_of, frozen_world}
use Rattle.ck_model.specs.Step.{Outcome, with_room}
use Rattle.ck_model.proofs.DifferenceLaws.{len-differences_shown, len-shown_differences}
use Rattle.ck_plain.specs.Outcome.{with_files}
use Rattle.ck_plain.specs.Room.{Ask, held_beside, records_beside, records_after, has_room, space_lack, pick_among, without_id, left_of, picks_for}

-- the world with these checkpoints
abbrev pub beside : World → List Checkpoint → World
beside w checkpoints = record w { checkpoints = checkpoints }

-- this is what a call with this effect asks for
pub record AsksFor (ask : Ask) (w : World) (effect : World → World) (new : ℕ) : Type 0 where
  pub fit : (checkpoints : List Checkpoint) → fits (beside w checkpoints) (effect (beside w checkpoints)) new ≡ has_room ask checkpoints
  pub lack : (checkpoints : List Checkpoint) → no_space (beside w checkpoints) (effect (beside w checkpoints)) new ≡ space_lack ask checkpoints

pub asks : (ask : Ask) (w : World) (effect : World → World) (new : ℕ) → w.limits ≡ ask.limits → w.primary ≡ ask.primary → new ≡ ask.blocks
    → ((checkpoints : List Checkpoint) → records_in (effect (beside w checkpoints)) ≡ records_after ask checkpoints) → AsksFor ask w effect new
asks ask w effect new limits primary blocks records = record {
  fit = λ cs i. nat_le (held_beside (primary i) cs + blocks i) (limits i).blocks && nat_le (records cs i) (limits i).records;
  lack = λ cs i.
      if nat_le (held_beside (primary i) cs + blocks i) (limits i).blocks
      then NoSpace Records (records_beside (primary i) cs) (records cs i - records_beside (primary i) cs) (limits i).records
      else NoSpace Blocks (held_beside (primary i) cs) (blocks i) (limits i).blocks;
}

given_up-is : (ask : Ask) (w : World) (effect : World → World) (new : ℕ) → AsksFor ask w effect new
    → (most : ℕ) (checkpoints : List Checkpoint) → given_up most effect new (beside w checkpoints) ≡ picks_for most ask checkpoints
given_up-is ask w effect new asked zero checkpoints = refl
given_up-is ask w effect new asked (suc most) checkpoints =
    λ i. if asked.fit checkpoints i then 0
    else option_map_or (λ id. given_up-is ask w effect new asked most (without_id checkpoints id) i + 1) (pick_among checkpoints) 0

without_picks-is : (given : ℕ) (w : World) (checkpoints : List Checkpoint) → without_picks given (beside w checkpoints) ≡ beside w (left_of given checkpoints)
without_picks-is zero w checkpoints = refl
without_picks-is (suc given) w checkpoints =
    elim (pick_among checkpoints) as (λ o. option_map_or (λ id. without_picks given (beside w (without_id checkpoints id))) o (beside w checkpoints)
    ≡ beside w (option_map_or (λ id. left_of given (without_id checkpoints id)) o checkpoints)) [
      | None ↦ refl
      | Some id ↦ without_picks-is given w (without_id checkpoints id)
    ]

-- the outcome with so many given up and these left
abbrev outcome_at : World → (World → World) → ℕ → Reply → ℕ → World → Outcome
outcome_at w effect new reply given left =
    if fits left (effect left) new
    then record { reply = reply; given = given; next = effect left }
    else record { reply = no_space left (effect left) new; given = given; next = left }

-- so many are given up, and these are left
pub record Gives (ask : Ask) (w : World) (given : ℕ) (left : List Checkpoint) : Type 0 where
  pub count : given ≡ picks_for (length w.checkpoints) ask w.checkpoints
  pub rest : left ≡ left_of given w.checkpoints

with_room-at : (ask : Ask) (w : World) (effect : World → World) (new : ℕ) (reply : Reply) (given : ℕ) (left : List Checkpoint) → AsksFor ask w effect new → Gives ask w given left
    → with_room w effect new reply ≡ outcome_at w effect new reply given (beside w left)
with_room-at ask w effect new reply given left asked gives =
    let count : given_up (length w.checkpoints) effect new w ≡ given = given_up-is ask w effect new asked (length w.checkpoints) w.checkpoints ∙ sym gives.count in
    ap (λ n. outcome_at w effect new reply n (without_picks n w)) count
    ∙ ap (outcome_at w effect new reply given) (without_picks-is given w w.checkpoints ∙ ap (beside w) (sym gives.rest))

-- a call that fits then has its effect
pub with_room-fits : (ask : Ask) (w : World) (effect : World → World) (new : ℕ) (reply : Reply) (given : ℕ) (left : List Checkpoint) → AsksFor ask w effect new → Gives ask w given left
    → has_room ask left ≡ true → with_room w effect new reply ≡ record { reply = reply; given = given; next = effect (beside w left) }
with_room-fits ask w effect new reply given left asked gives fit =
    with_room-at ask w effect new reply given left asked gives
    ∙ ap (λ b. if b then record { reply = reply; given = given; next = effect (beside w left) } else record { reply = no_space (beside w left) (effect (beside w left)) new; given = given; next = beside w left })
    (asked.fit left ∙ fit)

-- and one that doesn't fit is told why
pub with_room-full : (ask : Ask) (w : World) (effect : World → World) (new : ℕ) (reply : Reply) (given : ℕ) (left : List Checkpoint) → AsksFor ask w effect new → Gives ask w given left
    → has_room ask left ≡ false → with_room w effect new reply ≡ record { reply = space_lack ask left; given = given; next = beside w left }
with_room-full ask w effect new reply given left asked gives full =
    with_room-at ask w effect new reply given left asked gives
    ∙ ap (λ b. if b then record { reply = reply; given = given; next = effect (beside w left) } else record { reply = no_space (beside w left) (effect (beside w left)) new; given = given; next = beside w left })
    (asked.fit left ∙ full)
    ∙ ap (λ (r : Reply). record { reply = r; given = given; next = beside w left }) (asked.lack left)

-- a checkpoint that shows what the primary map has takes one record, and no key at which maps differ
difference_count-frozen : (kind : Kind) (primary : Cells) (new : Checkpoint) → new.cells ≡ shown_by kind primary
    → (checkpoints : List Checkpoint) → difference_count primary (checkpoints ++ new ∷ []) ≡ difference_count primary checkpoints
difference_count-frozen kind primary new shows [] =
    omega (arith, ap (λ (cells : Cells). map.len (differences cells primary)) shows, len-shown_differences kind primary)
difference_count-frozen kind primary new shows (c ∷ []) =
    omega (arith, ap (λ (cells : Cells). map.len (differences cells primary)) shows, len-shown_differences kind primary, ap (λ (cells : Cells). map.len (differences c.cells cells)) shows, len-differences_shown kind c.cells primary)
difference_count-frozen kind primary new shows (c ∷ d ∷ checkpoints) =
    ap (λ n. map.len (differences c.cells d.cells) + n) (difference_count-frozen kind primary new shows (d ∷ checkpoints))

records_in-frozen_world : (name : List ℕ) (nodata removable : Bool) (at : ℕ) (w : World) (checkpoints : List Checkpoint)
    → records_in (frozen_world name nodata removable at (beside w checkpoints)) ≡ records_beside w.primary checkpoints + 1
records_in-frozen_world name nodata removable at w checkpoints =
    let new : Checkpoint = record { id = w.next.id; name = name; kind = kind_of nodata; removable = removable; ctime = at; cells = shown_by (kind_of nodata) w.primary } in
    omega (arith, difference_count-frozen (kind_of nodata) w.primary new refl checkpoints, length-append checkpoints (new ∷ []))

-- what a call that changes files asks for
abbrev pub files_ask : World → Cells → ℕ → Ask
files_ask w primary new = record { limits = w.limits; primary = w.primary; next = primary; records = 0; blocks = new }

pub files-asked : (w changed : World) (new : ℕ) → AsksFor (files_ask w changed.primary new) w (with_files changed) new
files-asked w changed new =
    asks (files_ask w changed.primary new) w (with_files changed) new refl refl refl (λ checkpoints. none_more (records_beside changed.primary checkpoints))
  where
    none_more : (n : ℕ) → n ≡ n + 0
    none_more n = omega arith

-- what a new checkpoint asks for
abbrev pub frozen_ask : World → Ask
frozen_ask w = record { limits = w.limits; primary = w.primary; next = w.primary; records = 1; blocks = 0 }

pub frozen-asked : (name : List ℕ) (nodata removable : Bool) (at : ℕ) (w : World) → AsksFor (frozen_ask w) w (frozen_world name nodata removable at) 0
frozen-asked name nodata removable at w =
    asks (frozen_ask w) w (frozen_world name nodata removable at) 0 refl refl refl (records_in-frozen_world name nodata removable at w)
