-- The world without the checkpoint that is given up first.
use Rattle.std.proofs.Common.{◌≡◌, ℕ, suc, zero, true, false, not, ◌&&◌, IfSome, Some, None, subst, sym, refl, ap, ◌∙◌, ◌+◌, length, if◌then◌else◌, arith}
use Rattle.std.specs.Option.{option_map_or}
use Rattle.std.specs.FinMap as map
use Rattle.ck_model.specs.declared.checkpoint.Fileset.{Fileset}
use Rattle.ck_model.specs.World.{World, Mounts, without_checkpoint}
use Rattle.ck_model.specs.declared.reply.Reply.{Reply}
use Rattle.ck_model.specs.Space.{fits, given_up, no_space, pick, without_picks}
use Rattle.ck_model.specs.Step.{Outcome, with_room}
use Rattle.ck_model.specs.Table.{Table, IsTable}
use Rattle.ck_model.specs.Chain.{is_live}
use Rattle.ck_model.specs.Values.{Store}
use Rattle.ck_model.specs.TableWorld.{world_on}
use Rattle.ck_model.proofs.CaseLaws.{and_left}
use Rattle.ck_table.specs.Gone.{with_gone}
use Rattle.ck_table.proofs.WorldLaws.{length-with_gone, world-with_gone}
use Rattle.ck_reclaim.specs.Removable.{is_removable, pick_of}
use Rattle.ck_reclaim.proofs.PickLaws.{pick-is, pick_removable}

-- one that may be given up isn't gone
pub removable_live : (t : Table) (id : ℕ) → is_removable t id ≡ true → is_live t id ≡ true
removable_live t id h = elim (map.get t.filesets id) as (λ o. option_map_or (λ (f : Fileset). not f.gone && f.removable) o false ≡ true → option_map_or (λ (f : Fileset). not f.gone) o false ≡ true) [
  | None ↦ λ no. no
  | Some f ↦ λ both. and_left (not f.gone) f.removable both
] h

pub picked_live : (t : Table) (id : ℕ) → pick_of t ≡ Some id → is_live t id ≡ true
picked_live t id picked = removable_live t id (subst (λ o. IfSome o (λ x. is_removable t x ≡ true)) picked (pick_removable t))

module _ (store : Store) (mounts : Mounts) (t : Table) (lawful : IsTable t) where
  -- so many picks and one more are given up where the first one is gone and so many are given up then
  pub given-next : (id given : ℕ) → pick_of t ≡ Some id → without_picks (suc given) (world_on store mounts t) ≡ without_picks given (world_on store mounts (with_gone t id))
  given-next id given picked =
      ap (λ o. option_map_or (λ x. without_picks given (without_checkpoint (world_on store mounts t) x)) o (world_on store mounts t)) (sym (pick-is store mounts t lawful) ∙ picked)
      ∙ ap (without_picks given) (sym (world-with_gone store mounts t id (picked_live t id picked)))

  -- the first one
  pub given-one : (id : ℕ) → pick_of t ≡ Some id → without_picks 1 (world_on store mounts t) ≡ world_on store mounts (with_gone t id)
  given-one id picked = given-next id 0 picked

  -- where none may be given up, none is
  pub given-none : (given : ℕ) → pick_of t ≡ None → without_picks given (world_on store mounts t) ≡ world_on store mounts t
  given-none zero none = refl
  given-none (suc given) none =
      ap (λ o. option_map_or (λ x. without_picks given (without_checkpoint (world_on store mounts t) x)) o (world_on store mounts t)) (sym (pick-is store mounts t lawful) ∙ none)

-- where none is picked, none is given up
pub given-still : (given : ℕ) (w : World) → pick w ≡ None → without_picks given w ≡ w
given-still zero w none = refl
given-still (suc given) w none = ap (λ o. option_map_or (λ id. without_picks given (without_checkpoint w id)) o w) none

-- some picks and then more are given up together
pub given-more : (first more : ℕ) (w : World) → without_picks (first + more) w ≡ without_picks more (without_picks first w)
given-more zero more w = let same : 0 + more ≡ more = omega arith in ap (λ n. without_picks n w) same
given-more (suc first) more w =
    let same : suc first + more ≡ suc (first + more) = omega arith in
    ap (λ n. without_picks n w) same
    ∙ elim (pick w) as (λ o. pick w ≡ o → option_map_or (λ id. without_picks (first + more) (without_checkpoint w id)) o w ≡ without_picks more (option_map_or (λ id. without_picks first (without_checkpoint w id)) o w)) [
      | None ↦ λ none. sym (given-still more w none)
      | Some id ↦ λ _. given-more first more (without_checkpoint w id)
    ] refl

-- ---- room for a call

abbrev pub outcome_as : Reply → ℕ → World → Outcome
outcome_as reply given next = record { reply = reply; given = given; next = next }

-- the outcome once so many picks are given up
abbrev given_outcome : World → (World → World) → ℕ → Reply → ℕ → Outcome
given_outcome w effect new reply given =
    let left = without_picks given w in
    if fits left (effect left) new
    then outcome_as reply given (effect left)
    else outcome_as (no_space left (effect left) new) given left

abbrev pub one_more : (outcome : Outcome) → Outcome
one_more outcome = record outcome { given = outcome.given + 1 }

-- a call that fits gives up nothing
pub room-fits : (w : World) (effect : World → World) (new : ℕ) (reply : Reply) → fits w (effect w) new ≡ true → with_room w effect new reply ≡ outcome_as reply 0 (effect w)
room-fits w effect new reply fit =
    ap (given_outcome w effect new reply) (none_given (length w.checkpoints))
    ∙ ap (λ b. if b then outcome_as reply 0 (effect w) else outcome_as (no_space w (effect w) new) 0 w) fit
  where
    none_given : (most : ℕ) → given_up most effect new w ≡ 0
    none_given zero = refl
    none_given (suc most) = ap (λ b. if b then 0 else option_map_or (λ id. given_up most effect new (without_checkpoint w id) + 1) (pick w) 0) fit

-- nor does one that doesn't fit where there is no pick
pub room-none : (w : World) (effect : World → World) (new : ℕ) (reply : Reply) → fits w (effect w) new ≡ false → pick w ≡ None → with_room w effect new reply ≡ outcome_as (no_space w (effect w) new) 0 w
room-none w effect new reply full none =
    ap (given_outcome w effect new reply) (none_given (length w.checkpoints))
    ∙ ap (λ b. if b then outcome_as reply 0 (effect w) else outcome_as (no_space w (effect w) new) 0 w) full
  where
    none_given : (most : ℕ) → given_up most effect new w ≡ 0
    none_given zero = refl
    none_given (suc most) =
        ap (λ b. if b then 0 else option_map_or (λ id. given_up most effect new (without_checkpoint w id) + 1) (pick w) 0) full
        ∙ ap (λ o. option_map_or (λ id. given_up most effect new (without_checkpoint w id) + 1) o 0) none

-- where a call doesn't fit the table's world, its outcome is that of the table with the pick gone, and one more is given up
pub room-next : (store : Store) (mounts : Mounts) (t : Table) → IsTable t → (id : ℕ) → pick_of t ≡ Some id → (effect : World → World) (new : ℕ) (reply : Reply)
    → fits (world_on store mounts t) (effect (world_on store mounts t)) new ≡ false
    → with_room (world_on store mounts t) effect new reply ≡ one_more (with_room (world_on store mounts (with_gone t id)) effect new reply)
room-next store mounts t lawful id picked effect new reply full =
    let w = world_on store mounts t in
    let v = world_on store mounts (with_gone t id) in
    let most = length v.checkpoints in
    let live = picked_live t id picked in
    let long : length w.checkpoints ≡ suc most = let fewer = length-with_gone store t id live in omega (arith, fewer) in
    let same : without_checkpoint w id ≡ v = sym (world-with_gone store mounts t id live) in
    let given : given_up (length w.checkpoints) effect new w ≡ given_up most effect new v + 1 =
    ap (λ n. given_up n effect new w) long
    ∙ ap (λ b. if b then 0 else option_map_or (λ x. given_up most effect new (without_checkpoint w x) + 1) (pick w) 0) full
    ∙ ap (λ o. option_map_or (λ x. given_up most effect new (without_checkpoint w x) + 1) o 0) (sym (pick-is store mounts t lawful) ∙ picked)
    ∙ ap (λ x. given_up most effect new x + 1) same in
    ap (given_outcome w effect new reply) given
    ∙ next (given_up most effect new v)
  where
    next : (given : ℕ) → given_outcome (world_on store mounts t) effect new reply (given + 1) ≡ one_more (given_outcome (world_on store mounts (with_gone t id)) effect new reply given)
    next given =
        let more : given + 1 ≡ suc given = omega arith in
        let left = without_picks given (world_on store mounts (with_gone t id)) in
        let is : without_picks (given + 1) (world_on store mounts t) ≡ left = ap (λ n. without_picks n (world_on store mounts t)) more ∙ given-next store mounts t lawful id given picked in
        ap (λ x. if fits x (effect x) new then outcome_as reply (given + 1) (effect x) else outcome_as (no_space x (effect x) new) (given + 1) x) is
        ∙ elim (fits left (effect left) new) as (λ b. (if b then outcome_as reply (given + 1) (effect left) else outcome_as (no_space left (effect left) new) (given + 1) left)
        ≡ one_more (if b then outcome_as reply given (effect left) else outcome_as (no_space left (effect left) new) given left)) [ true ↦ refl | false ↦ refl ]
