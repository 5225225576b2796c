-- How many picks are given up, and what is left then.
use Rattle.std.proofs.Common.{◌≡◌, ℕ, zero, suc, ◌+◌, ◌-◌, ◌<◌, true, false, List, Option, Some, None, if◌then◌else◌, refl, ap, ◌∙◌, arith}
use Rattle.std.specs.Option.{option_map_or}
use Rattle.ck_model.specs.World.{Checkpoint}
use Rattle.ck_plain.specs.Room.{Ask, has_room, pick_among, without_id, left_of, picks_for}

-- one pick more, where there is one
abbrev after_pick : ℕ → Ask → List Checkpoint → Option ℕ → ℕ
after_pick most ask checkpoints picked = option_map_or (λ id. picks_for most ask (without_id checkpoints id) + 1) picked 0

pub picks_for-fits : (most : ℕ) (ask : Ask) (checkpoints : List Checkpoint) → has_room ask checkpoints ≡ true → picks_for most ask checkpoints ≡ 0
picks_for-fits zero ask checkpoints h = refl
picks_for-fits (suc most) ask checkpoints h = ap (λ b. if b then 0 else after_pick most ask checkpoints (pick_among checkpoints)) h

pub picks_for-none : (most : ℕ) (ask : Ask) (checkpoints : List Checkpoint) → pick_among checkpoints ≡ None → picks_for most ask checkpoints ≡ 0
picks_for-none zero ask checkpoints h = refl
picks_for-none (suc most) ask checkpoints h =
    ap (λ o. if has_room ask checkpoints then 0 else after_pick most ask checkpoints o) h
    ∙ elim (has_room ask checkpoints) as (λ b. ◌≡◌ {A = ℕ} (if b then 0 else after_pick most ask checkpoints None) 0) [ true ↦ refl | false ↦ refl ]

pub picks_for-some : (most given : ℕ) (ask : Ask) (checkpoints : List Checkpoint) (id : ℕ) → given < most → has_room ask checkpoints ≡ false → pick_among checkpoints ≡ Some id
    → picks_for (most - given) ask checkpoints ≡ picks_for (most - (given + 1)) ask (without_id checkpoints id) + 1
picks_for-some most given ask checkpoints id within full picked =
    let one_more : most - given ≡ suc (most - (given + 1)) = omega arith in
    let left = most - (given + 1) in
    ap (λ n. picks_for n ask checkpoints) one_more
    ∙ ap (λ b. if b then 0 else after_pick left ask checkpoints (pick_among checkpoints)) full
    ∙ ap (after_pick left ask checkpoints) picked

pub left_of-some : (given : ℕ) (checkpoints : List Checkpoint) (id : ℕ) → pick_among checkpoints ≡ Some id → left_of (suc given) checkpoints ≡ left_of given (without_id checkpoints id)
left_of-some given checkpoints id h = ap (λ o. option_map_or (λ id. left_of given (without_id checkpoints id)) o checkpoints) h
