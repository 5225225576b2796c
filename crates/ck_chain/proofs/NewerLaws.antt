-- The ids of newer filesets, split at one of them.
use Rattle.std.proofs.Common.{◌≡◌, ℕ, ◌<◌, ◌≤◌, Bool, false, cond, T, ◌&&◌, IsSome, List, [], ◌∷◌, ◌++◌, map, filter, Some, None, refl, subst, arith, inl, inr}
use Rattle.std.specs.Ordering.{nat_cmp, is_lt, eq_by_cmp}
use Rattle.std.specs.FinMap.{is_sorted, entries_sorted, find}
use Rattle.std.specs.FinMap.Entries.{below_all}
use Rattle.std.specs.FinMap as map
use mathlib.Core.Bool.{false≢true}
use Rattle.std.proofs.lemmas.Bool.{cases_lt}
use Rattle.std.proofs.lemmas.Bool.Decides.{nat_tests}
use Rattle.ck_model.specs.Table.{Table, newer}
use Rattle.ck_model.specs.Placed.{above}
use Rattle.ck_model.proofs.FilesetLaws.{all_above}
use Rattle.ck_chain.specs.Needless.{in_between}

below_head : (x y : ℕ) (b : Bool) → T (is_lt (nat_cmp x y) && b) → (x < y) × T b
below_head x y b h = grind (arith, nat_tests)

sorted_tail : {X : Type 0} (e : ℕ × X) (es : List (ℕ × X)) → T (is_sorted nat_cmp (e ∷ es)) → T (is_sorted nat_cmp es)
sorted_tail e es s = grind (arith, nat_tests)

sorted_head : {X : Type 0} (e : ℕ × X) (es : List (ℕ × X)) → T (is_sorted nat_cmp (e ∷ es)) → T (below_all nat_cmp e.0 es)
sorted_head e es s = grind (arith, nat_tests)

-- the ids of these entries above low and below high
abbrev between : {X : Type 0} → ℕ → ℕ → List (ℕ × X) → List ℕ
between low high es = filter (in_between low high) (map (λ e. e.0) es)

none_between : {X : Type 0} (low high x : ℕ) (es : List (ℕ × X)) → T (below_all nat_cmp x es) → high ≤ x → between low high es ≡ []
none_between low high x [] h le = refl
none_between low high x (e ∷ es) h le =
    let head = below_head x e.0 (below_all nat_cmp x es) h in
    let rest = none_between low high x es head.1 le in
    let lt : high < e.0 = omega (arith, head.0) in
    grind (arith, nat_tests, rest)

not_found : {X : Type 0} (x : ℕ) (es : List (ℕ × X)) (f : ℕ) → T (below_all nat_cmp x es) → f ≤ x → find nat_cmp f es ≡ None
not_found x [] f h le = refl
not_found x (e ∷ es) f h le =
    let head = below_head x e.0 (below_all nat_cmp x es) h in
    let rest = not_found x es f head.1 le in
    let lt : f < e.0 = omega (arith, head.0) in
    grind (arith, nat_tests, rest)

split_later : {X : Type 0} (fs f : ℕ) (e : ℕ × X) (es : List (ℕ × X)) → (IsSome (find nat_cmp f es) → above fs es ≡ between fs f es ++ f ∷ above f es) → IsSome (find nat_cmp f (e ∷ es)) → e.0 < f → above fs (e ∷ es) ≡ between fs f (e ∷ es) ++ f ∷ above f (e ∷ es)
split_later fs f e es ih found less =
    let apart : eq_by_cmp nat_cmp f e.0 ≡ false = grind (arith, nat_tests) in
    let here : IsSome (find nat_cmp f es) = subst (λ b. IsSome (cond b (Some e.1) (find nat_cmp f es))) apart found in
    let rest = ih here in
    grind (arith, nat_tests, rest)

split_past : {X : Type 0} (fs f : ℕ) (e : ℕ × X) (es : List (ℕ × X)) → T (below_all nat_cmp e.0 es) → IsSome (find nat_cmp f (e ∷ es)) → f < e.0 → above fs (e ∷ es) ≡ between fs f (e ∷ es) ++ f ∷ above f (e ∷ es)
split_past fs f e es below found past =
    let apart : eq_by_cmp nat_cmp f e.0 ≡ false = grind (arith, nat_tests) in
    let here : IsSome (find nat_cmp f es) = subst (λ b. IsSome (cond b (Some e.1) (find nat_cmp f es))) apart found in
    absurd (false≢true (subst IsSome (not_found e.0 es f below (omega arith)) here))

split_here : {X : Type 0} (fs f : ℕ) (e : ℕ × X) (es : List (ℕ × X)) → T (below_all nat_cmp e.0 es) → fs < f → e.0 ≡ f → above fs (e ∷ es) ≡ between fs f (e ∷ es) ++ f ∷ above f (e ∷ es)
split_here fs f e es below lt same =
    let none = none_between fs f e.0 es below (omega arith) in
    let all_fs = all_above e.0 fs es below (omega arith) in
    let all_f = all_above e.0 f es below (omega arith) in
    grind (arith, nat_tests, none, all_fs, all_f, same)

split_above : {X : Type 0} (fs f : ℕ) (es : List (ℕ × X)) → T (is_sorted nat_cmp es) → fs < f → IsSome (find nat_cmp f es) → above fs es ≡ between fs f es ++ f ∷ above f es
split_above fs f [] s lt found = absurd (false≢true found)
split_above fs f (e ∷ es) s lt found =
    let below = sorted_head e es s in
    elim (cases_lt e.0 f) [
      | inl less ↦ split_later fs f e es (split_above fs f es (sorted_tail e es s) lt) found less
      | inr ge ↦ elim (cases_lt f e.0) [
        | inl past ↦ split_past fs f e es below found past
        | inr le ↦ split_here fs f e es below lt (omega arith)
      ]
    ]

pub newer_split : (t : Table) (fs f : ℕ) → fs < f → IsSome (map.get t.filesets f) → newer t fs ≡ filter (in_between fs f) (map.keys t.filesets) ++ f ∷ newer t f
newer_split t fs f lt stands = split_above fs f (map.entries t.filesets) (entries_sorted t.filesets) lt (subst IsSome (map.get-entries t.filesets f) stands)
