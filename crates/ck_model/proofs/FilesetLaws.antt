-- The checkpoints of a table in their order: of each, the newer ones, and how often an id stands among them.
use Rattle.std.proofs.Common.{◌≡◌, ℕ, ◌+◌, ◌<◌, ◌≤◌, Bool, true, false, cond, T, ◌&&◌, IsSome, is_some, if◌then◌else◌, List, [], ◌∷◌, map as list_map, Option, Some, None, nat_lt, nat_eq, refl, sym, ap, subst, ◌∙◌, ◌⊎◌, inl, inr, arith}
use Rattle.std.specs.declared.cmp.Ordering.{Ordering}
use Rattle.std.specs.declared.cmp.Ordering.TheVariants.{Less, Equal, Greater}
use Rattle.std.specs.Ordering.{nat_cmp, is_lt, is_eq, eq_by_cmp}
use Rattle.std.specs.Cmp.{IsTotalOrder}
use Rattle.std.specs.List.{AllByRecursion}
use Rattle.std.specs.FinMap.{IsAntisymmetric, nat_cmp-IsAntisymmetric, is_sorted, entries_sorted, find}
use Rattle.std.specs.FinMap.Entries.{below_all}
use Rattle.std.specs.FinMap as map
use Rattle.std.proofs.lemmas.Bool.Decides.{nat_tests}
use Rattle.std.proofs.lemmas.Cmp.{tied_itself, nat_cmp_total}
use mathlib.Core.Bool.{false≢true}
use Rattle.ck_model.specs.Table.{Table, newer}
use Rattle.ck_model.specs.Rows.{times}
use Rattle.ck_model.specs.Placed.{above, Follow}
use Rattle.ck_model.proofs.CaseLaws.{head_of}

below_head : (x y : ℕ) (b : Bool) → T (is_lt (nat_cmp x y) && b) → (x < y) × T b
below_head x y b h = grind (arith, nat_tests)

pub all_above : {X : Type 0} (x fs : ℕ) (es : List (ℕ × X)) → T (below_all nat_cmp x es) → fs ≤ x → above fs es ≡ list_map (λ e. e.0) es
all_above x fs [] h le = refl
all_above x fs (e ∷ es) h le =
    let head = below_head x e.0 (below_all nat_cmp x es) h in
    let rest = all_above x fs es head.1 le in
    let lt : fs < e.0 = omega (arith, head.0) in
    grind (arith, nat_tests, rest)

-- an entry before them is newer than none of them
follow_behind : {X : Type 0} (x : ℕ × X) (all es : List (ℕ × X)) → T (below_all nat_cmp x.0 es) → Follow (λ id. above id all) es → Follow (λ id. above id (x ∷ all)) es
follow_behind x all [] h follow = tt
follow_behind x all (e ∷ es) h follow =
    let head = below_head x.0 e.0 (below_all nat_cmp x.0 es) h in
    let drops : nat_lt e.0 x.0 ≡ false = let lt = head.0 in grind (arith, nat_tests) in
    (ap (λ b. cond b (x.0 ∷ above e.0 all) (above e.0 all)) drops ∙ follow.0, follow_behind x all es head.1 follow.1)

follow_all : {X : Type 0} (es : List (ℕ × X)) → T (is_sorted nat_cmp es) → Follow (λ id. above id es) es
follow_all [] s = tt
follow_all (e ∷ es) s =
    let parts = head_of (below_all nat_cmp e.0 es) (is_sorted nat_cmp es) s in
    let self : nat_lt e.0 e.0 ≡ false = grind (arith, nat_tests) in (
      ap (λ b. cond b (e.0 ∷ above e.0 es) (above e.0 es)) self ∙ all_above e.0 e.0 es parts.0 (omega arith),
      follow_behind e es es parts.0 (follow_all es parts.1),
    )

pub follow_newer : (t : Table) → Follow (newer t) (map.entries t.filesets)
follow_newer t = follow_all (map.entries t.filesets) (entries_sorted t.filesets)

-- ---- what all entries of a list in order have

apart : (r : Ordering) → T (is_lt r) → is_eq r ≡ false
apart Less h = refl
apart Equal h = absurd h
apart Greater h = absurd h

is_equal : (r : Ordering) → is_eq r ≡ true → r ≡ Equal
is_equal Less h = cc
is_equal Equal h = refl
is_equal Greater h = cc

module _ {K X : Type 0} {R : K → K → Ordering} (total : IsTotalOrder R) (exact : IsAntisymmetric R) where
  pub not_below : (x : K) (es : List (K × X)) → T (below_all R x es) → find R x es ≡ None
  not_below x [] h = refl
  not_below x (e ∷ es) h =
      let parts = head_of (is_lt (R x e.0)) (below_all R x es) h in
      ap (λ b. cond b (Some e.1) (find R x es)) (apart (R x e.0) parts.0) ∙ not_below x es parts.1

  some_not_none : (v : X) → ◌≡◌ {A = Option X} None (Some v) → ⊥
  some_not_none v h = false≢true (ap is_some h)

  found_behind : (e : K × X) (es : List (K × X)) (k : K) (v : X) → T (below_all R e.0 es) → find R k es ≡ Some v → find R k (e ∷ es) ≡ Some v
  found_behind e es k v below found =
      elim (eq_by_cmp R k e.0) as (λ b. eq_by_cmp R k e.0 ≡ b → cond b (Some e.1) (find R k es) ≡ Some v) [
        | true ↦ λ tied. let same : k ≡ e.0 = exact k e.0 (is_equal (R k e.0) tied) in
            absurd (some_not_none v (sym (not_below e.0 es below) ∙ ap (λ x. find R x es) (sym same) ∙ found))
        | false ↦ λ _. found
      ] refl

  -- what holds of whatever is found holds of all
  pub all_found : (P : K × X → Type 0) (es : List (K × X)) → T (is_sorted R es) → ((k : K) (v : X) → find R k es ≡ Some v → P (k, v)) → AllByRecursion P es
  all_found P [] s h = tt
  all_found P (e ∷ es) s h =
      let parts = head_of (below_all R e.0 es) (is_sorted R es) s in (
        h e.0 e.1 (ap (λ r. cond (is_eq r) (Some e.1) (find R e.0 es)) (tied_itself total e.0)),
        all_found P es parts.1 (λ k v found. h k v (found_behind e es k v parts.0 found)),
      )

-- ---- how often an id stands among them

-- one that isn't there
pub times-none : {X : Type 0} (g : ℕ) (es : List (ℕ × X)) → find nat_cmp g es ≡ None → times g (list_map (λ e. e.0) es) ≡ 0
times-none g [] h = refl
times-none {X} g (e ∷ es) h =
    elim (cases_eq g e.0) [
      | inl same ↦ let found : find nat_cmp g (e ∷ es) ≡ Some e.1 = let tied : eq_by_cmp nat_cmp g e.0 ≡ true = grind (arith, nat_tests, same) in ap (λ b. cond b (Some e.1) (find nat_cmp g es)) tied in
          absurd (false≢true (ap is_some (sym h ∙ found)))
      | inr other ↦ let apart : eq_by_cmp nat_cmp g e.0 ≡ false = grind (arith, nat_tests, other) in
          let differ : nat_eq g e.0 ≡ false = other in
          let rest = times-none g es (sym (ap (λ b. cond b (Some e.1) (find nat_cmp g es)) apart) ∙ h) in
          ap (λ b. (if b then 1 else 0) + times g (list_map (λ x. x.0) es)) differ ∙ omega (arith, rest)
    ]
  where
    cases_eq : (x y : ℕ) → (nat_eq x y ≡ true) ⊎ (nat_eq x y ≡ false)
    cases_eq x y = elim (nat_eq x y) as (λ b. nat_eq x y ≡ b → (nat_eq x y ≡ true) ⊎ (nat_eq x y ≡ false)) [ true ↦ λ h. inl h | false ↦ λ h. inr h ] refl

-- the id of one that is there stands once
pub times-once : {X : Type 0} (g : ℕ) (es : List (ℕ × X)) → T (is_sorted nat_cmp es) → IsSome (find nat_cmp g es) → times g (list_map (λ e. e.0) es) ≡ 1
times-once g [] s h = absurd (false≢true h)
times-once g (e ∷ es) s h =
    let parts = head_of (below_all nat_cmp e.0 es) (is_sorted nat_cmp es) s in
    elim (nat_eq g e.0) as (λ b. nat_eq g e.0 ≡ b → (if b then 1 else 0) + times g (list_map (λ x. x.0) es) ≡ 1) [
      | true ↦ λ same. let is : g ≡ e.0 = grind (arith, nat_tests) in
          let rest = times-none g es (ap (λ x. find nat_cmp x es) is ∙ not_below nat_cmp_total nat_cmp-IsAntisymmetric e.0 es parts.0) in
          omega (arith, rest)
      | false ↦ λ other. let apart : eq_by_cmp nat_cmp g e.0 ≡ false = grind (arith, nat_tests) in
          let rest = times-once g es parts.1 (subst (λ b. IsSome (cond b (Some e.1) (find nat_cmp g es))) apart h) in
          omega (arith, rest)
    ] refl
