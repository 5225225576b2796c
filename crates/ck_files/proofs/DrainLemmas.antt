-- What is left to remove where no checkpoint is gone: nothing.
use Rattle.std.proofs.Common.{◌≡◌, ℕ, ◌+◌, Bool, false, List, [], ◌∷◌, Some, None, if◌then◌else◌, refl, ap, arith}
use Rattle.std.specs.Option.{option_map_or}
use Rattle.std.specs.FinMap as map
use Rattle.ck_model.specs.declared.checkpoint.Fileset.{Fileset}
use Rattle.ck_model.specs.Table.{Table, newer}
use Rattle.ck_model.specs.Chain.{is_gone}
use Rattle.ck_model.specs.Placed.{NoneGone}
use Rattle.ck_remove.specs.Gone.{entry_count, left_at, left_in, left_of}

stays : (t : Table) → NoneGone t → (fs : ℕ) → is_gone t fs ≡ false
stays t none fs = elim (map.get t.filesets fs) as (λ o. map.get t.filesets fs ≡ o → option_map_or (λ (f : Fileset). f.gone) o false ≡ false) [
  | None ↦ λ _. refl
  | Some f ↦ λ there. none fs f there
] refl

none_in : (t : Table) → NoneGone t → (ids : List ℕ) → left_in t ids ≡ 0
none_in t none [] = refl
none_in t none (fs ∷ ids) =
    let here : left_at t fs ≡ 0 = ap (λ (b : Bool). if b then 1 + entry_count t fs else 0) (stays t none fs) in
    let rest = none_in t none ids in
    omega (arith, here, rest)

pub none_to_remove : (t : Table) → NoneGone t → left_of t ≡ 0
none_to_remove t none = none_in t none (newer t 0)
