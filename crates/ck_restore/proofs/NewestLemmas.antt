-- The filesets behind one, walked one after the other.
use Rattle.std.proofs.Common.{◌≡◌, ℕ, ◌<◌, ◌≤◌, true, false, ◌||◌, [], ◌∷◌, Option, Some, None, is_some, IsSome, IfSome, IfNone, nat_lt, nat_eq, refl, sym, ap, ◌∙◌, arith}
use Rattle.std.specs.List.{list_any}
use Rattle.std.specs.FinMap as map
use Rattle.std.proofs.lemmas.Bool.{and_from, and_parts, eq-eqb, lt-ltb, or_left}
use Rattle.std.proofs.lemmas.Bool.Decides.{nat_tests}
use Rattle.ck_model.specs.Table.{Table, newer}
use Rattle.ck_table.proofs.IdLaws.{newer-has}
use Rattle.ck_restore.specs.Entries.{IsNewest, IsNextBelow}

-- the next newer one stands
pub next_stands : (t : Table) (at fs : ℕ) → newer t at ≡ fs ∷ newer t fs → IsSome (map.get t.filesets fs)
next_stands t at fs is =
    let here : list_any (nat_eq fs) (newer t at) ≡ true = ap (list_any (nat_eq fs)) is ∙ or_left (nat_eq fs fs) (list_any (nat_eq fs) (newer t fs)) (eq-eqb fs fs refl) in
    (and_parts (nat_lt at fs) (is_some (map.get t.filesets fs)) (sym (newer-has t at fs) ∙ here)).1

-- and no other stands before it
pub next_first : (t : Table) (at first fs : ℕ) → newer t at ≡ first ∷ newer t first → at < fs → IsSome (map.get t.filesets fs) → first ≤ fs
next_first t at first fs is more stands =
    let among : list_any (nat_eq fs) (first ∷ newer t first) ≡ true = ap (list_any (nat_eq fs)) (sym is) ∙ newer-has t at fs ∙ and_from (nat_lt at fs) (is_some (map.get t.filesets fs)) (lt-ltb at fs more) stands in
    elim (nat_eq fs first) as (λ b. nat_eq fs first ≡ b → (b || list_any (nat_eq fs) (newer t first)) ≡ true → first ≤ fs) [
      | true ↦ λ same _. let e : fs ≡ first = grind (arith, nat_tests) in omega arith
      | false ↦ λ _ behind.
          let later = (and_parts (nat_lt first fs) (is_some (map.get t.filesets fs)) (sym (newer-has t first fs) ∙ behind)).0 in
          let e : first < fs = grind (arith, nat_tests) in omega arith
    ] refl among

-- where none is newer, none stands behind
pub none_behind : (t : Table) (at fs : ℕ) → newer t at ≡ [] → at < fs → IsSome (map.get t.filesets fs) → ⊥
none_behind t at fs none more stands =
    let among : list_any (nat_eq fs) [] ≡ true = ap (list_any (nat_eq fs)) (sym none) ∙ newer-has t at fs ∙ and_from (nat_lt at fs) (is_some (map.get t.filesets fs)) (lt-ltb at fs more) stands in
    cc

-- ---- the newest one

-- the last fileset that was met above the checkpoint, if one was
pub record IsReached (t : Table) (id at : ℕ) (found : Option ℕ) : Type 0 where
  pub met : IfSome found (λ fs. (fs ≡ at) × (id < fs) × IsSome (map.get t.filesets fs))
  pub least : IfNone found (at ≡ id)
  pub above : id ≤ at

pub reached_first : (t : Table) (id : ℕ) → IsReached t id id None
reached_first t id = record { met = tt; least = refl; above = omega arith }

pub reached_next : (t : Table) (id at fs : ℕ) (found : Option ℕ) → IsReached t id at found → at < fs → newer t at ≡ fs ∷ newer t fs → IsReached t id fs (Some fs)
reached_next t id at fs found reached more is =
    let above = reached.above in
    record { met = (refl, omega arith, next_stands t at fs is); least = tt; above = omega arith }

pub reached_newest : (t : Table) (id at : ℕ) (found : Option ℕ) → IsReached t id at found → newer t at ≡ [] → IfSome found (IsNewest t id)
reached_newest t id at None reached last = tt
reached_newest t id at (Some fs) reached last = record { above = reached.met.1; stands = reached.met.2; last = ap (newer t) reached.met.0 ∙ last }

pub reached_none : (t : Table) (id at : ℕ) (found : Option ℕ) → IsReached t id at found → newer t at ≡ [] → IfNone found (newer t id ≡ [])
reached_none t id at None reached last = ap (newer t) (sym reached.least) ∙ last
reached_none t id at (Some fs) reached last = tt

-- ---- the next older one

pub below_some : (t : Table) (at id fs : ℕ) → at < fs → fs < id → newer t at ≡ fs ∷ newer t fs → IsNextBelow t at id (Some fs)
below_some t at id fs more lower is = record { above = more; below = lower; least = λ x behind _ stands. next_first t at fs x is behind stands }

pub below_past : (t : Table) (at id fs : ℕ) → id ≤ fs → newer t at ≡ fs ∷ newer t fs → IsNextBelow t at id None
below_past t at id fs past is = record { above = tt; below = tt; least = λ x behind lower stands. let least = next_first t at fs x is behind stands in absurd (omega arith) }

pub below_none : (t : Table) (at id : ℕ) → newer t at ≡ [] → IsNextBelow t at id None
below_none t at id is = record { above = tt; below = tt; least = λ x behind lower stands. absurd (none_behind t at x is behind stands) }
