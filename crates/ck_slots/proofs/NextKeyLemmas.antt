-- The first entry behind a cut has the next key of its fileset.
use Rattle.std.proofs.Common.{◌≡◌, ◌≢◌, ℕ, suc, ◌<◌, ◌≤◌, Bool, true, false, cond, not, ◌&&◌, T, List, [], ◌∷◌, Option, Some, None, length, get_or, filter, map as list_map, nat_eq, refl, sym, ap, subst, ◌∙◌, arith}
use mathlib.Core.Bool.{false≢true}
use Rattle.std.specs.declared.cmp.Ordering.TheVariants.{Less, Greater}
use Rattle.std.specs.Ordering.{nat_cmp, is_lt, ordering_reverse, ordering_then}
use Rattle.std.specs.Cmp.{nat_cmp_total}
use Rattle.std.specs.Cmp.Lexicographic.{slice_cmp}
use Rattle.std.specs.FinMap.{is_sorted}
use Rattle.std.specs.FinMap.Entries.{below_all}
use Rattle.std.proofs.lemmas.Bool.Decides.{nat_tests}
use Rattle.std.proofs.lemmas.Cmp.{tied_itself}
use Rattle.ck_model.specs.declared.key.Key.{Key}
use Rattle.ck_model.specs.declared.held.Held.{Held}
use Rattle.ck_model.specs.Key.{spelled, key_cmp, entry_cmp, key_cmp_total}
use Rattle.ck_slots.specs.Cut.{front, stands_before, cut_behind}
use Rattle.ck_slots.specs.NextKey.{keys_within, keys_behind}
use Rattle.ck_slots.proofs.Cuts.{both_of, less, below_at, fileset_rises}

abbrev pub is_after : Option Key → Key → Bool
is_after None q = true
is_after (Some key) q = is_lt (key_cmp key q)

-- the entry is the fileset's, at a key after this one
abbrev pub passes : ℕ → Option Key → ℕ × Key → Bool
passes fs after entry = nat_eq entry.0 fs && is_after after entry.1

-- one more entry at the front
none_step : (e : (ℕ × Key) × Held) (es : List ((ℕ × Key) × Held)) (fs : ℕ) → keys_within (e ∷ es) fs ≡ cond (nat_eq e.0.0 fs) (e.0.1 ∷ keys_within es fs) (keys_within es fs)
none_step e es fs = elim (nat_eq e.0.0 fs) as (λ b. list_map (λ (x : (ℕ × Key) × Held). x.0.1) (cond b (e ∷ filter (λ x. nat_eq x.0.0 fs) es) (filter (λ x. nat_eq x.0.0 fs) es)) ≡ cond b (e.0.1 ∷ keys_within es fs) (keys_within es fs)) [ true ↦ refl | false ↦ refl ]

and_true : (b : Bool) → (b && true) ≡ b
and_true true = refl
and_true false = refl

behind_step : (e : (ℕ × Key) × Held) (es : List ((ℕ × Key) × Held)) (fs : ℕ) (after : Option Key) → keys_behind (e ∷ es) fs after ≡ cond (passes fs after e.0) (e.0.1 ∷ keys_behind es fs after) (keys_behind es fs after)
behind_step e es fs None = none_step e es fs ∙ ap (λ b. cond b (e.0.1 ∷ keys_within es fs) (keys_within es fs)) (sym (and_true (nat_eq e.0.0 fs)))
behind_step e es fs (Some key) =
    ap (filter (λ q. is_lt (key_cmp key q))) (none_step e es fs)
    ∙ elim (nat_eq e.0.0 fs) as (λ b. filter (λ q. is_lt (key_cmp key q)) (cond b (e.0.1 ∷ keys_within es fs) (keys_within es fs)) ≡ cond (b && is_lt (key_cmp key e.0.1)) (e.0.1 ∷ keys_behind es fs (Some key)) (keys_behind es fs (Some key))) [ true ↦ refl | false ↦ refl ]

step_in : (e : (ℕ × Key) × Held) (es : List ((ℕ × Key) × Held)) (fs : ℕ) (after : Option Key) → passes fs after e.0 ≡ true → keys_behind (e ∷ es) fs after ≡ e.0.1 ∷ keys_behind es fs after
step_in e es fs after h = behind_step e es fs after ∙ ap (λ b. cond b (e.0.1 ∷ keys_behind es fs after) (keys_behind es fs after)) h

step_out : (e : (ℕ × Key) × Held) (es : List ((ℕ × Key) × Held)) (fs : ℕ) (after : Option Key) → passes fs after e.0 ≡ false → keys_behind (e ∷ es) fs after ≡ keys_behind es fs after
step_out e es fs after h = behind_step e es fs after ∙ ap (λ b. cond b (e.0.1 ∷ keys_behind es fs after) (keys_behind es fs after)) h

-- in one fileset the keys decide
same_fileset : (x y : ℕ × Key) → x.0 ≡ y.0 → entry_cmp x y ≡ key_cmp x.1 y.1
same_fileset x y same = ap (λ n. ordering_then (nat_cmp x.0 n) (slice_cmp nat_cmp (spelled x.1) (spelled y.1))) (sym same) ∙ ap (λ o. ordering_then o (slice_cmp nat_cmp (spelled x.1) (spelled y.1))) (tied_itself nat_cmp_total x.0)

-- by the two cases of the fileset
pass_by : (fs : ℕ) (after : Option Key) (y : ℕ × Key) (b : Bool) → (y.0 ≡ fs → is_after after y.1 ≡ b) → (y.0 ≢ fs → b ≡ false) → passes fs after y ≡ b
pass_by fs after y b same other =
    elim (nat_eq y.0 fs) as (λ t. nat_eq y.0 fs ≡ t → (t && is_after after y.1) ≡ b) [
      | true ↦ λ p. let here : y.0 ≡ fs = grind (arith, nat_tests) in same here
      | false ↦ λ p. let there : y.0 ≢ fs = grind (arith, nat_tests) in sym (other there)
    ] refl

-- an entry before or at the key isn't after it
before_out : (fs : ℕ) (x y : ℕ × Key) → x.0 ≡ fs → entry_cmp y x ≡ Less → passes fs (Some x.1) y ≡ false
before_out fs x y home lt = pass_by fs (Some x.1) y false (λ same.
    let turned : key_cmp x.1 y.1 ≡ Greater = key_cmp_total.antisymm x.1 y.1 ∙ ap ordering_reverse (sym (same_fileset y x (same ∙ sym home)) ∙ lt) in
    ap is_lt turned) (λ other. refl)

itself_out : (fs : ℕ) (x : ℕ × Key) → passes fs (Some x.1) x ≡ false
itself_out fs x = pass_by fs (Some x.1) x false (λ same. ap is_lt (tied_itself key_cmp_total x.1)) (λ other. refl)

after_all : (after : Option Key) (x y : Key) → is_after after x ≡ true → key_cmp x y ≡ Less → is_after after y ≡ true
after_all None x y h lt = refl
after_all (Some key) x y h lt = ap is_lt (key_cmp_total.trans key x y (less _ (subst T (sym h) tt)) lt)

after_of : (a b : Bool) → (a && b) ≡ true → b ≡ true
after_of true b h = h
after_of false b h = absurd (false≢true h)

-- behind an entry that passes, the same entries pass as behind its own key
later_same : (fs : ℕ) (after : Option Key) (x : ℕ × Key) (es : List ((ℕ × Key) × Held)) → x.0 ≡ fs → is_after after x.1 ≡ true → T (below_all entry_cmp x es) → keys_behind es fs after ≡ keys_behind es fs (Some x.1)
later_same fs None x [] home h below = refl
later_same fs (Some key) x [] home h below = refl
later_same fs after x (e ∷ es) home h below =
    let parts = both_of (is_lt (entry_cmp x e.0)) (below_all entry_cmp x es) below in
    let rest = later_same fs after x es home h parts.1 in
    let later : e.0.0 ≡ fs → key_cmp x.1 e.0.1 ≡ Less = λ same. sym (same_fileset x e.0 (home ∙ sym same)) ∙ less _ parts.0 in
    elim (nat_eq e.0.0 fs) as (λ t. nat_eq e.0.0 fs ≡ t → keys_behind (e ∷ es) fs after ≡ keys_behind (e ∷ es) fs (Some x.1)) [
      | true ↦ λ p.
          let here : e.0.0 ≡ fs = grind (arith, nat_tests) in
          let one : passes fs after e.0 ≡ true = ap (λ t. t && is_after after e.0.1) p ∙ after_all after x.1 e.0.1 h (later here) in
          let two : passes fs (Some x.1) e.0 ≡ true = ap (λ t. t && is_lt (key_cmp x.1 e.0.1)) p ∙ ap is_lt (later here) in
          step_in e es fs after one ∙ ap (λ ks. e.0.1 ∷ ks) rest ∙ sym (step_in e es fs (Some x.1) two)
      | false ↦ λ p.
          step_out e es fs after (ap (λ t. t && is_after after e.0.1) p) ∙ rest ∙ sym (step_out e es fs (Some x.1) (ap (λ t. t && is_lt (key_cmp x.1 e.0.1)) p))
    ] refl

-- no entry of a fileset stands behind one of a later fileset
later_none : (fs : ℕ) (after : Option Key) (x : ℕ × Key) (es : List ((ℕ × Key) × Held)) → fs < x.0 → T (below_all entry_cmp x es) → keys_behind es fs after ≡ []
later_none fs None x [] past below = refl
later_none fs (Some key) x [] past below = refl
later_none fs after x (e ∷ es) past below =
    let parts = both_of (is_lt (entry_cmp x e.0)) (below_all entry_cmp x es) below in
    let rises : x.0 ≤ e.0.0 = fileset_rises x e.0 (less _ parts.0) in
    let other : nat_eq e.0.0 fs ≡ false = grind (arith, nat_tests) in
    step_out e es fs after (ap (λ t. t && is_after after e.0.1) other) ∙ later_none fs after x es past parts.1

-- ---- the cut behind a key

cut_out : (fs : ℕ) (after : Option Key) (y : ℕ × Key) → stands_before (cut_behind fs after) y ≡ true → passes fs after y ≡ false
cut_out fs None y h = let other : nat_eq y.0 fs ≡ false = grind (arith, nat_tests) in ap (λ t. t && true) other
cut_out fs (Some key) y h = pass_by fs (Some key) y false (λ same.
    let key_first : entry_cmp (fs, key) y ≡ key_cmp key y.1 = same_fileset (fs, key) y (sym same) in
    elim (is_lt (key_cmp key y.1)) as (λ t. not t ≡ true → t ≡ false) [ true ↦ λ n. absurd (false≢true n) | false ↦ λ n. refl ] (ap (λ o. not (is_lt o)) (sym key_first) ∙ h)) (λ other. refl)

not_false : (t : Bool) → not t ≡ false → t ≡ true
not_false true h = refl
not_false false h = absurd (false≢true (sym h))

cut_after : (fs : ℕ) (after : Option Key) (y : ℕ × Key) → stands_before (cut_behind fs after) y ≡ false → y.0 ≡ fs → is_after after y.1 ≡ true
cut_after fs None y h home = refl
cut_after fs (Some key) y h home = ap is_lt (sym (same_fileset (fs, key) y (sym home))) ∙ not_false (is_lt (entry_cmp (fs, key) y)) h

cut_from : (fs : ℕ) (after : Option Key) (y : ℕ × Key) → stands_before (cut_behind fs after) y ≡ false → fs ≤ y.0
cut_from fs None y h = grind (arith, nat_tests)
cut_from fs (Some key) y h = fileset_rises (fs, key) y (less _ (subst T (sym (not_false (is_lt (entry_cmp (fs, key) y)) h)) tt))

pass_in : (fs : ℕ) (after : Option Key) (y : ℕ × Key) → y.0 ≡ fs → is_after after y.1 ≡ true → passes fs after y ≡ true
pass_in fs after y home h = let same : nat_eq y.0 fs ≡ true = grind (arith, nat_tests) in ap (λ t. t && is_after after y.1) same ∙ h

module _ (fs : ℕ) (after : Option Key) where
  abbrev test : ℕ × Key → Bool
  test = stands_before (cut_behind fs after)

  -- the entry at the cut is the fileset's, so its key is the next one
  pub next_at_cut : (es : List ((ℕ × Key) × Held)) (e : (ℕ × Key) × Held) → T (is_sorted entry_cmp es) → front test es < length es → get_or es (front test es) e ≡ e → e.0.0 ≡ fs → keys_behind es fs after ≡ e.0.1 ∷ keys_behind es fs (Some e.0.1)
  next_at_cut [] e sorted within is home = absurd (omega arith)
  next_at_cut (x ∷ es) e sorted within is home =
      let parts = both_of (below_all entry_cmp x.0 es) (is_sorted entry_cmp es) sorted in
      elim (test x.0) as (λ b. test x.0 ≡ b → cond b (suc (front test es)) 0 < suc (length es) → get_or (x ∷ es) (cond b (suc (front test es)) 0) e ≡ e → keys_behind (x ∷ es) fs after ≡ e.0.1 ∷ keys_behind (x ∷ es) fs (Some e.0.1)) [
        | true ↦ λ p within is.
            let inside : front test es < length es = omega arith in
            let lt : entry_cmp x.0 e.0 ≡ Less = ap (λ (y : (ℕ × Key) × Held). entry_cmp x.0 y.0) (sym is) ∙ below_at entry_cmp x.0 es (front test es) e parts.0 inside in
            step_out x es fs after (cut_out fs after x.0 p) ∙ next_at_cut es e parts.1 inside is home ∙ ap (λ ks. e.0.1 ∷ ks) (sym (step_out x es fs (Some e.0.1) (before_out fs e.0 x.0 home lt)))
        | false ↦ λ p within is.
            let here : x.0.0 ≡ fs = ap (λ (y : (ℕ × Key) × Held). y.0.0) is ∙ home in
            let later = cut_after fs after x.0 p here in
            step_in x es fs after (pass_in fs after x.0 here later)
            ∙ ap (λ ks. x.0.1 ∷ ks) (later_same fs after x.0 es here later parts.0 ∙ sym (step_out x es fs (Some x.0.1) (itself_out fs x.0)))
            ∙ ap (λ (y : (ℕ × Key) × Held). y.0.1 ∷ keys_behind (x ∷ es) fs (Some y.0.1)) is
      ] refl within is

  -- no entry stands at the cut, or one of another fileset, so no key is left
  pub none_at_cut : (es : List ((ℕ × Key) × Held)) (d : (ℕ × Key) × Held) → T (is_sorted entry_cmp es) → (front test es < length es → (get_or es (front test es) d).0.0 ≢ fs) → keys_behind es fs after ≡ []
  none_at_cut [] d sorted gap = later_none fs after (suc fs, d.0.1) [] (omega arith) tt
  none_at_cut (x ∷ es) d sorted gap =
      let parts = both_of (below_all entry_cmp x.0 es) (is_sorted entry_cmp es) sorted in
      elim (test x.0) as (λ b. test x.0 ≡ b → (cond b (suc (front test es)) 0 < suc (length es) → (get_or (x ∷ es) (cond b (suc (front test es)) 0) d).0.0 ≢ fs) → keys_behind (x ∷ es) fs after ≡ []) [
        | true ↦ λ p gap. step_out x es fs after (cut_out fs after x.0 p) ∙ none_at_cut es d parts.1 (λ within. gap (omega arith))
        | false ↦ λ p gap.
            let other : x.0.0 ≢ fs = gap (omega arith) in
            let from = cut_from fs after x.0 p in
            let past : fs < x.0.0 = omega arith in
            let apart : nat_eq x.0.0 fs ≡ false = grind (arith, nat_tests) in
            step_out x es fs after (ap (λ t. t && is_after after x.0.1) apart) ∙ later_none fs after x.0 es past parts.0
      ] refl gap
