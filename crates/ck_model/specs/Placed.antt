-- The checkpoints of a table in their order.
use Rattle.std.specs.Prelude.{◌≡◌, ℕ, List, [], ◌∷◌, map as list_map, filter, nat_lt, ◌≤◌, true, false, Some, ◌⊎◌}
use Rattle.std.specs.Bool.{⊤}
use Rattle.std.specs.FinMap as map
use Rattle.ck_model.specs.declared.key.Key.{Key}
use Rattle.ck_model.specs.declared.held.Held.TheVariants.{Extent}
use Rattle.ck_model.specs.declared.checkpoint.Fileset.{Fileset}
use Rattle.ck_model.specs.Table.{newer, Table, column}
use Rattle.ck_model.specs.Chain.{keeps_data}

-- the ids of these entries above a number
abbrev pub above : {X : Type 0} → ℕ → List (ℕ × X) → List ℕ
above fs es = filter (λ id. nat_lt fs id) (list_map (λ e. e.0) es)

-- of each of these, what is newer are those behind it
abbrev pub Follow : {X : Type 0} → (ℕ → List ℕ) → List (ℕ × X) → Type 0
Follow newer [] = ⊤
Follow newer (e ∷ es) = (newer e.0 ≡ list_map (λ x. x.0) es) × Follow newer es

-- no checkpoint is gone
abbrev pub NoneGone : Table → Type 0
NoneGone t = (id : ℕ) (fileset : Fileset) → map.get t.filesets id ≡ Some fileset → fileset.gone ≡ false

-- a checkpoint, and those behind it, as they stand in a table
pub record IsPlaced (t : Table) (e : ℕ × Fileset) (es : List (ℕ × Fileset)) : Type 0 where
  pub newer : newer t e.0 ≡ list_map (λ x. x.0) es
  pub some : 1 ≤ e.0
  pub stands : map.get t.filesets e.0 ≡ Some e.1

abbrev pub ArePlaced : Table → List (ℕ × Fileset) → Type 0
ArePlaced t [] = ⊤
ArePlaced t (e ∷ es) = IsPlaced t e es × ArePlaced t es

-- ---- data blocks

-- only where data is kept do checkpoints name data blocks
abbrev pub AllStripped : Table → Type 0
AllStripped t = (fs : ℕ) (key : Key) (stamp block : ℕ) → column t key fs ≡ Some (Extent stamp block) → (fs ≡ 0) ⊎ (keeps_data t fs ≡ true)
