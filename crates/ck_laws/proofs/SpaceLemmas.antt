-- What the checkpoints that are given up for room leave.
use Rattle.std.proofs.Common.{◌≡◌, ℕ, zero, suc, Some, None, List, refl, ap}
use Rattle.std.specs.Option.{option_map_or}
use Rattle.ck_model.specs.World.{World, Checkpoint, without_checkpoint}
use Rattle.ck_model.specs.Space.{pick, without_picks}
use Rattle.ck_laws.proofs.WorldLemmas.{Remain, Remain-itself, Remain-filter, AddsNone}

-- all but the checkpoints stays
pub without_picks-rest : (given : ℕ) (w : World) → without_picks given w ≡ record w { checkpoints = (without_picks given w).checkpoints }
without_picks-rest zero w = refl
without_picks-rest (suc given) w =
    elim (pick w) as (λ o. option_map_or (λ id. without_picks given (without_checkpoint w id)) o w ≡ record w { checkpoints = (option_map_or (λ id. without_picks given (without_checkpoint w id)) o w).checkpoints }) [
      | None ↦ refl
      | Some id ↦ without_picks-rest given (without_checkpoint w id)
    ]

pub Remain-without_picks : (given : ℕ) (w : World) {cs : List Checkpoint} → Remain cs w.checkpoints → Remain cs (without_picks given w).checkpoints
Remain-without_picks zero w h = h
Remain-without_picks (suc given) w {cs} h =
    elim (pick w) as (λ o. Remain cs (option_map_or (λ id. without_picks given (without_checkpoint w id)) o w).checkpoints) [
      | None ↦ h
      | Some id ↦ Remain-without_picks given (without_checkpoint w id) (Remain-filter _ h)
    ]

pub without_picks-adds : (given : ℕ) (w : World) → AddsNone w (without_picks given w)
without_picks-adds given w = record {
  remain = Remain-without_picks given w (Remain-itself w.checkpoints);
  id = ap (λ x. x.next.id) (without_picks-rest given w);
}
