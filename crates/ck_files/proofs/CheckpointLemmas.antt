-- A checkpoint that is removed, or keeps no data from now on: the reply, and up to where nothing is left to strip.
use Rattle.std.proofs.Common.{◌≡◌, ℕ, ◌-◌, ◌<◌, ◌≤◌, Bool, true, List, Some, inl, inr, if◌then◌else◌, sym, ap, subst, ◌∙◌, arith}
use Rattle.std.proofs.lemmas.Bool.{cases_lt}
use Rattle.ck_model.specs.declared.reply.Reply.TheVariants.{Delayed, Done}
use Rattle.ck_model.specs.Chain.{is_live, keeps_data}
use Rattle.ck_model.specs.Rules.{IsSound}
use Rattle.ck_model.specs.Step.{converted}
use Rattle.ck_model.specs.Table.{Table, IsTable}
use Rattle.ck_model.specs.TableWorld.{world_on}
use Rattle.ck_model.specs.Values.{Store}
use Rattle.ck_model.specs.World.{Mounts}
use Rattle.ck_table.specs.Flags.{with_nodata}
use Rattle.ck_table.specs.Gone.{with_gone}
use Rattle.ck_table.specs.Names as names
use Rattle.ck_table.proofs.WorldLaws.{converted-is}
use Rattle.ck_nodata.specs.declared.item.StripItem.{StripItem}
use Rattle.ck_nodata.specs.StripItem.{IsStrippedTo}
use Rattle.ck_nodata.proofs.PlaceLaws.{back_gone, back_nodata, stripped_gone, stripped_nodata}
use Rattle.ck_files.specs.Room.{answered_with}

-- ---- the reply

-- the conversion is delayed where data is kept there still
pub converted-to : (store : Store) (mounts : Mounts) (t : Table) → IsTable t → IsSound t → (name : List ℕ) (id : ℕ) → names.id_named t name ≡ Some id → names.is_named t name id ≡ true
    → (u : Table) → u ≡ with_nodata t id → (keeps : Bool) → keeps ≡ keeps_data u id
    → converted (world_on store mounts t) name ≡ answered_with (if keeps then Delayed else Done) (world_on store mounts u)
converted-to store mounts t lawful sound name id is named u same keeps kept =
    let delayed = sym (kept ∙ ap (λ (x : Table). keeps_data x id) same) in
    converted-is store mounts t lawful name sound id is named
    ∙ (λ i. answered_with (if delayed i then Delayed else Done) (world_on store mounts (sym same i)))

-- ---- the place

module _ (t : Table) (id : ℕ) (live : is_live t id ≡ true) (old new : StripItem) (done : IsStrippedTo t old) where
  -- it is set back to the one that is gone
  pub place_gone : (id < old.id → new ≡ record old { id = id }) → (old.id ≤ id → new ≡ old) → IsStrippedTo (with_gone t id) new
  place_gone back same = elim (cases_lt id old.id) [
    | inl less ↦ back_gone t id live old done new (omega (arith, less)) (ap (λ (i : StripItem). i.id) (back less))
    | inr most ↦ elim (cases_lt old.id id) [
      | inl below ↦ subst (λ i. IsStrippedTo (with_gone t id) i) (sym (same most)) (stripped_gone t id live old done below)
      | inr past ↦
          let at = ap (λ (i : StripItem). i.id) (same most) in
          back_gone t id live old done new past (omega (arith, at, most, past))
    ]
  ]

  -- it is set back before the one that keeps no data
  pub place_nodata : 1 ≤ id → (id - 1 < old.id → new ≡ record old { id = id - 1 }) → (old.id ≤ id - 1 → new ≡ old) → IsStrippedTo (with_nodata t id) new
  place_nodata some back same = elim (cases_lt (id - 1) old.id) [
    | inl less ↦
        let at = ap (λ (i : StripItem). i.id) (back less) in
        back_nodata t id live old done new (omega (arith, some, less)) (omega (arith, some, at))
    | inr most ↦ subst (λ i. IsStrippedTo (with_nodata t id) i) (sym (same most)) (stripped_nodata t id live old done (omega (arith, some, most)))
  ]
