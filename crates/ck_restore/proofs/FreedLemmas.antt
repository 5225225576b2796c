-- Data blocks that are given back, one step after another.
use Rattle.std.proofs.Common.{◌≡◌, ◌↔◌, ◌⊎◌, ℕ, Bool, true, false, ◌||◌, inl, inr, List, [], ◌∷◌, ◌++◌, Option, Some, None, nat_eq, refl, sym, ap, subst, ◌∙◌}
use Rattle.std.specs.List.{AllByRecursion, IsDistinct}
use Rattle.std.proofs.lemmas.Bool.{false≢true, eqb-true, eq-eqb, or_left, or_right, false_from_ne_true}
use Rattle.std.proofs.lemmas.List.{append-nil, append_assoc}
use Rattle.std.proofs.lemmas.List.Folds.{list_any-append}
use Rattle.ck_model.specs.Table.{Table, with_fileset}
use Rattle.ck_chain.specs.Named.{IsNamed}
use Rattle.ck_restore.specs.Freed.{AreReleased, Gains, GainsFreed, is_among, listed}

neither : (a b : Bool) → (a || b) ≡ false → (a ≡ false) × (b ≡ false)
neither true b h = cc
neither false b h = (refl, h)

-- one of either
either_list : (xs ys : List ℕ) (block : ℕ) → is_among (xs ++ ys) block ≡ true → (is_among xs block ≡ true) ⊎ (is_among ys block ≡ true)
either_list xs ys block h = go (is_among xs block) refl
  where
    go : (b : Bool) → is_among xs block ≡ b → (is_among xs block ≡ true) ⊎ (is_among ys block ≡ true)
    go true is = inl is
    go false is = inr (sym (list_any-append (nat_eq block) xs ys ∙ ap (λ b. b || is_among ys block) is) ∙ h)

in_first : (xs ys : List ℕ) (block : ℕ) → is_among xs block ≡ true → is_among (xs ++ ys) block ≡ true
in_first xs ys block h = list_any-append (nat_eq block) xs ys ∙ or_left (is_among xs block) (is_among ys block) h

in_second : (xs ys : List ℕ) (block : ℕ) → is_among ys block ≡ true → is_among (xs ++ ys) block ≡ true
in_second xs ys block h = list_any-append (nat_eq block) xs ys ∙ or_right (is_among xs block) (is_among ys block) h

none_of : (x : ℕ) (ys : List ℕ) → is_among ys x ≡ false → AllByRecursion (λ y. nat_eq x y ≡ false) ys
none_of x [] h = tt
none_of x (y ∷ ys) h =
    let here = neither (nat_eq x y) (is_among ys x) h in
    (here.0, none_of x ys here.1)

all_both : (x : ℕ) (xs ys : List ℕ) → AllByRecursion (λ y. nat_eq x y ≡ false) xs → is_among ys x ≡ false → AllByRecursion (λ y. nat_eq x y ≡ false) (xs ++ ys)
all_both x [] ys all none = none_of x ys none
all_both x (z ∷ zs) ys all none = (all.0, all_both x zs ys all.1 none)

distinct_both : (xs ys : List ℕ) → IsDistinct nat_eq xs → IsDistinct nat_eq ys → ((block : ℕ) → is_among xs block ≡ true → is_among ys block ≡ true → ⊥) → IsDistinct nat_eq (xs ++ ys)
unfolding IsDistinct
distinct_both [] ys one two apart = two
distinct_both (x ∷ xs) ys one two apart =
    let here : is_among (x ∷ xs) x ≡ true = or_left (nat_eq x x) (is_among xs x) (eq-eqb x x refl) in (
      all_both x xs ys one.0 (false_from_ne_true (is_among ys x) (λ there. apart x here there)),
      distinct_both xs ys one.1 two (λ block first second. apart block (or_right (nat_eq block x) (is_among xs block) first) second),
    )

distinct_none : IsDistinct nat_eq []
unfolding IsDistinct
distinct_none = tt

pub released_none : (t u : Table) → ((block : ℕ) → IsNamed u block ↔ IsNamed t block) → AreReleased t u []
released_none t u same = record {
  parted = λ block named. inl ((same block).1 named);
  gone = λ block none. absurd (false≢true none);
  kept = λ block named. (same block).0 named;
  once = distinct_none;
}

pub released_then : (a b c : Table) (xs ys : List ℕ) → AreReleased a b xs → AreReleased b c ys → AreReleased a c (xs ++ ys)
released_then a b c xs ys one two = record {
  parted = λ block named. elim (one.parted block named) [
    | inl still ↦ elim (two.parted block still) [
      | inl yet ↦ inl yet
      | inr listed ↦ inr (in_second xs ys block listed)
    ]
    | inr listed ↦ inr (in_first xs ys block listed)
  ];
  gone = λ block among. elim (either_list xs ys block among) [
    | inl first ↦ let was = one.gone block first in (was.0, λ named. was.1 (two.kept block named))
    | inr second ↦ let was = two.gone block second in (one.kept block was.0, was.1)
  ];
  kept = λ block named. one.kept block (two.kept block named);
  once = distinct_both xs ys one.once two.once (λ block first second. (one.gone block first).1 (two.gone block second).0);
}

-- a further change takes away no name and adds none
pub released_still : (a b c : Table) (xs : List ℕ) → AreReleased a b xs → ((block : ℕ) → IsNamed c block ↔ IsNamed b block) → AreReleased a c xs
released_still a b c xs one same = subst (AreReleased a c) (append-nil xs) (released_then a b c xs [] one (released_none b c same))

pub gains_none : (t u : Table) (xs : List ℕ) → ((block : ℕ) → IsNamed u block ↔ IsNamed t block) → Gains xs xs t u
gains_none t u xs same = record { gained = []; behind = sym (append-nil xs); released = released_none t u same }

pub gains_then : (a b c : Table) (xs ys zs : List ℕ) → Gains xs ys a b → Gains ys zs b c → Gains xs zs a c
gains_then a b c xs ys zs one two = record {
  gained = one.gained ++ two.gained;
  behind = two.behind ∙ ap (λ l. l ++ two.gained) one.behind ∙ append_assoc xs one.gained two.gained;
  released = released_then a b c one.gained two.gained one.released two.released;
}

-- a record that goes names no block
pub gains_unlinked : (t m : Table) (id : ℕ) (xs ys : List ℕ) → Gains xs ys t m → Gains xs ys t (with_fileset m id None)
gains_unlinked t m id xs ys gains = record {
  gained = gains.gained;
  behind = gains.behind;
  released = released_still t m (with_fileset m id None) gains.gained gains.released (λ block. (λ h. h, λ h. h));
}

-- what is released is exactly what nothing names any more
pub gains_freed : (a b : Table) (xs ys : List ℕ) → Gains xs ys a b → GainsFreed xs ys a b
gains_freed a b xs ys gains = record {
  gained = gains.gained;
  behind = gains.behind;
  freed = record {
    exact = λ block. (
      gains.released.gone block,
      λ both. elim (gains.released.parted block both.0) [ inl named ↦ absurd (both.1 named) | inr among ↦ among ],
    );
    once = gains.released.once;
  };
}

-- the block that is listed, where there is one
pub listed_is : (o : Option ℕ) (block : ℕ) → is_among (listed o) block ≡ true → o ≡ Some block
listed_is None block h = absurd (false≢true h)
listed_is (Some other) block h = go (nat_eq block other) refl h
  where
    go : (b : Bool) → nat_eq block other ≡ b → (b || false) ≡ true → Some other ≡ Some block
    go true is _ = ap (λ (n : ℕ). Some n) (sym (eqb-true block other is))
    go false is wrong = absurd (false≢true wrong)

pub is_listed : (o : Option ℕ) (block : ℕ) → o ≡ Some block → is_among (listed o) block ≡ true
is_listed o block is = ap (λ o. is_among (listed o) block) is ∙ or_left (nat_eq block block) false (eq-eqb block block refl)

pub listed_once : (o : Option ℕ) → IsDistinct nat_eq (listed o)
unfolding IsDistinct
listed_once None = tt
listed_once (Some block) = (tt, tt)
