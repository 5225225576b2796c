-- What is found of what is left to strip, and a checkpoint of which nothing is left.
use Rattle.std.proofs.Common.{◌≡◌, ℕ, zero, suc, ◌<◌, ◌≤◌, true, false, ◌⊎◌, inl, inr, Option, Some, None, IfSome, IsSome, is_some, refl, sym, ap, subst, ◌∙◌, arith}
use Rattle.std.proofs.lemmas.Bool.{false≢true}
use Rattle.ck_model.specs.declared.key.Key.{Key}
use Rattle.ck_model.specs.Table.{Table, IsTable}
use Rattle.ck_model.specs.Chain.{is_live}
use Rattle.ck_model.proofs.CaseLaws.{some_is}
use Rattle.ck_nodata.specs.declared.item.StripItem.{StripItem}
use Rattle.ck_nodata.specs.StripItem.{IsStrippedTo, is_unstripped, strip_in, strip_work_of, unstripped_count}
use Rattle.ck_nodata.specs.Stripped.{IsThrough}
use Rattle.ck_nodata.proofs.HeldLaws.{none_where_zero, zero_where_none}
use Rattle.ck_nodata.proofs.PlaceLemmas.{none_is, none_lower, same_in}
use Rattle.ck_nodata.proofs.WorkLemmas.{none_left, strip_in_is, through_where_none, work_is}

-- what is found is left to strip
pub work_left : (t : Table) (item : StripItem) → strip_work_of t ≡ Some item → is_unstripped t item.id item.key ≡ true
work_left t item found = subst (λ o. IfSome o (λ (i : StripItem). is_unstripped t i.id i.key ≡ true)) found (work_is t)

-- where none is found, none is left
pub none_without_work : (t : Table) → IsTable t → strip_work_of t ≡ None → unstripped_count t ≡ 0
none_without_work t lawful none = zero_where_none t (none_left t lawful none)

-- where one is left, there are some
pub some_left : (t : Table) (fs : ℕ) (key : Key) → is_unstripped t fs key ≡ true → 0 < unstripped_count t
some_left t fs key left = elim (unstripped_count t) as (λ n. unstripped_count t ≡ n → 0 < n) [
  | zero ↦ λ none. absurd (false≢true (sym (none_where_zero t none fs key) ∙ left))
  | suc n ↦ λ _. omega arith
] refl

-- also where one is found of one checkpoint
pub some_found : (t : Table) (fs : ℕ) (after : Option Key) → IsSome (strip_in t fs after) → 0 < unstripped_count t
some_found t fs after found =
    let item = some_is (strip_in t fs after) found in
    some_left t item.0.id item.0.key (subst (λ o. IfSome o (λ (i : StripItem). is_unstripped t i.id i.key ≡ true)) item.1 (strip_in_is t fs after))

-- ---- nothing is left of one checkpoint

module _ (t : Table) (fs : ℕ) where
  -- none is found of it
  pub over_bare : is_some (strip_in t fs None) ≡ false → (is_live t fs ≡ false) ⊎ IsThrough t fs
  over_bare none = elim (is_live t fs) as (λ b. is_live t fs ≡ b → (is_live t fs ≡ false) ⊎ IsThrough t fs) [
    | true ↦ λ live. inr (through_where_none t fs live (none_is (strip_in t fs None) none))
    | false ↦ λ gone. inl gone
  ] refl

  -- it is older than the one up to which nothing is left
  pub over_before : (last : StripItem) → IsStrippedTo t last → fs < last.id → (is_live t fs ≡ false) ⊎ IsThrough t fs
  over_before last done lower = over_bare (ap is_some (none_lower t last done fs lower))

  -- it is that one, and none is found behind
  pub over_behind : (last : StripItem) → IsStrippedTo t last → fs ≡ last.id → is_some (strip_in t fs (Some last.key)) ≡ false → (is_live t fs ≡ false) ⊎ IsThrough t fs
  over_behind last done same none =
      over_bare (ap (λ n. is_some (strip_in t n None)) same ∙ ap is_some (sym (same_in t last done)) ∙ ap (λ n. is_some (strip_in t n (Some last.key))) (sym same) ∙ none)
