-- The place of a cut in a list of entries in order.
use Rattle.std.proofs.Common.{◌≡◌, ℕ, zero, suc, ◌<◌, ◌≤◌, Bool, true, false, cond, not, ◌&&◌, T, List, [], ◌∷◌, length, get_or, refl, sym, ap, subst, ◌∙◌, arith, inl, inr}
use Rattle.std.specs.declared.cmp.Ordering.{Ordering}
use Rattle.std.specs.declared.cmp.Ordering.TheVariants.{Less, Equal, Greater}
use Rattle.std.specs.Ordering.{nat_cmp, is_lt, is_gt, ordering_reverse, ordering_then}
use Rattle.std.specs.FinMap.{is_sorted}
use Rattle.std.specs.FinMap.Entries.{below_all}
use Rattle.std.proofs.lemmas.Bool.{cases_lt}
use Rattle.std.proofs.lemmas.Bool.Decides.{nat_tests}
use Rattle.std.specs.Cmp.Lexicographic.{slice_cmp}
use Rattle.ck_model.specs.declared.key.Key.{Key}
use Rattle.ck_model.specs.Key.{spelled, entry_cmp, entry_cmp_total}
use Rattle.ck_slots.specs.declared.search.Cut.{Cut}
use Rattle.ck_slots.specs.declared.search.Cut.TheVariants.{Fileset, Before, Behind}
use Rattle.ck_slots.specs.Cut.{front, stands_before}

pub both_of : (a b : Bool) → T (a && b) → T a × T b
both_of true true h = (tt, tt)
both_of true false h = absurd h
both_of false b h = absurd h

pub less : (r : Ordering) → T (is_lt r) → r ≡ Less
less Less h = refl
less Equal h = absurd h
less Greater h = absurd h

greater : (r : Ordering) → is_gt r ≡ true → r ≡ Greater
greater Less h = cc
greater Equal h = cc
greater Greater h = refl

-- what passes the test stands before what doesn't
abbrev pub Falls : {K : Type 0} → (K → K → Ordering) → (K → Bool) → Type 0
Falls {K} R test = (x y : K) → R x y ≡ Less → test y ≡ true → test x ≡ true

module _ {K X : Type 0} (R : K → K → Ordering) where
  pub below_at : (x : K) (es : List (K × X)) (at : ℕ) (d : K × X) → T (below_all R x es) → at < length es → R x (get_or es at d).0 ≡ Less
  below_at x [] at d below within = absurd (omega arith)
  below_at x (e ∷ es) zero d below within = less _ (both_of (is_lt (R x e.0)) (below_all R x es) below).0
  below_at x (e ∷ es) (suc at) d below within = below_at x es at d (both_of (is_lt (R x e.0)) (below_all R x es) below).1 (omega arith)

  pub front_above : (test : K → Bool) → Falls R test → (es : List (K × X)) (at : ℕ) (d : K × X) → T (is_sorted R es) → at < length es → test (get_or es at d).0 ≡ true → at < front test es
  front_above test falls [] at d sorted within passes = absurd (omega arith)
  front_above test falls (e ∷ es) zero d sorted within passes = subst (λ b. 0 < cond b (suc (front test es)) 0) (sym passes) (omega arith)
  front_above test falls (e ∷ es) (suc at) d sorted within passes =
      let parts = both_of (below_all R e.0 es) (is_sorted R es) sorted in
      let inside : at < length es = omega arith in
      let rest : at < front test es = front_above test falls es at d parts.1 inside passes in
      let head : test e.0 ≡ true = falls e.0 (get_or es at d).0 (below_at e.0 es at d parts.0 inside) passes in
      subst (λ b. suc at < cond b (suc (front test es)) 0) (sym head) (omega arith)

pub front_below : {K X : Type 0} (test : K → Bool) (es : List (K × X)) (at : ℕ) (d : K × X) → at < length es → test (get_or es at d).0 ≡ false → front test es ≤ at
front_below test [] at d within fails = absurd (omega arith)
front_below test (e ∷ es) zero d within fails = subst (λ b. cond b (suc (front test es)) 0 ≤ 0) (sym fails) (omega arith)
front_below test (e ∷ es) (suc at) d within fails =
    let rest : front test es ≤ at = front_below test es at d (omega arith) fails in
    elim (test e.0) as (λ b. cond b (suc (front test es)) 0 ≤ suc at) [ true ↦ omega arith | false ↦ omega arith ]

-- ---- the cuts

pub fileset_rises : (x y : ℕ × Key) → entry_cmp x y ≡ Less → x.0 ≤ y.0
fileset_rises x y h = elim (cases_lt y.0 x.0) [
  | inl lt ↦
      let clash : nat_cmp x.0 y.0 ≡ Greater = grind (arith, nat_tests) in
      let turned : ordering_then Greater (slice_cmp nat_cmp (spelled x.1) (spelled y.1)) ≡ Less = ap (λ o. ordering_then o (slice_cmp nat_cmp (spelled x.1) (spelled y.1))) (sym clash) ∙ h in
      cc
  | inr le ↦ le
]

before_greater : (key x y : ℕ × Key) → entry_cmp x y ≡ Less → entry_cmp key y ≡ Greater → entry_cmp key x ≡ Greater
before_greater key x y lt h =
    let back : entry_cmp y key ≡ Less = entry_cmp_total.antisymm y key ∙ ap ordering_reverse h in
    entry_cmp_total.antisymm key x ∙ ap ordering_reverse (entry_cmp_total.trans x y key lt back)

before_equal : (key x y : ℕ × Key) → entry_cmp x y ≡ Less → entry_cmp key y ≡ Equal → entry_cmp key x ≡ Greater
before_equal key x y lt h = entry_cmp_total.congr key y x h ∙ entry_cmp_total.antisymm y x ∙ ap ordering_reverse lt

behind_falls : (key x y : ℕ × Key) → entry_cmp x y ≡ Less → not (is_lt (entry_cmp key y)) ≡ true → not (is_lt (entry_cmp key x)) ≡ true
behind_falls key x y lt =
    elim (entry_cmp key y) as (λ o. entry_cmp key y ≡ o → not (is_lt o) ≡ true → not (is_lt (entry_cmp key x)) ≡ true) [
      | Less ↦ λ p h. cc
      | Equal ↦ λ p h. ap (λ o. not (is_lt o)) (before_equal key x y lt p)
      | Greater ↦ λ p h. ap (λ o. not (is_lt o)) (before_greater key x y lt p)
    ] refl

pub cut_falls : (cut : Cut) → Falls entry_cmp (stands_before cut)
cut_falls (Fileset fs) x y lt h =
    let rises : x.0 ≤ y.0 = fileset_rises x y lt in
    grind (arith, nat_tests)
cut_falls (Before fs key) x y lt h = ap is_gt (before_greater (fs, key) x y lt (greater _ h))
cut_falls (Behind fs key) x y lt h = behind_falls (fs, key) x y lt h

pub front_le : {K X : Type 0} (test : K → Bool) (es : List (K × X)) → front test es ≤ length es
front_le test [] = omega arith
front_le test (e ∷ es) =
    let rest : front test es ≤ length es = front_le test es in
    elim (test e.0) as (λ b. cond b (suc (front test es)) 0 ≤ suc (length es)) [ true ↦ omega arith | false ↦ omega arith ]
