-- The orders of keys and of what stands beside them, as tests for the same.
use Rattle.std.proofs.Common.{◌≡◌, ℕ, ◌&&◌, List, nat_eq, refl, sym, ap, ◌∙◌, arith}
use Rattle.std.specs.declared.cmp.Ordering.{Ordering}
use Rattle.std.specs.declared.cmp.Ordering.TheVariants.{Less, Equal, Greater}
use Rattle.std.specs.Ordering.{nat_cmp, is_eq, eq_by_cmp, ordering_then}
use Rattle.std.specs.Cmp.Lexicographic.{slice_cmp, pointwise, lists_ties}
use Rattle.std.proofs.lemmas.Bool.Decides.{nat_tests}
use Rattle.ck_model.specs.declared.key.Key.{Key}
use Rattle.ck_model.specs.declared.key.Key.TheVariants.{Name, Node, Block}
use Rattle.ck_model.specs.Key.{key_cmp, entry_cmp}
use Rattle.ck_model.specs.contracts.key.KeyOrd.TheImpl.{ghosts}

then_equal : (o : Ordering) → o ≡ ordering_then o Equal
then_equal Less = refl
then_equal Equal = refl
then_equal Greater = refl

-- the order that is derived of keys is theirs
pub derived_key : (x y : Key) → (ghosts).cmp x y ≡ key_cmp x y
derived_key (Name d n) (Name e m) = refl
derived_key (Name d n) (Node y) = refl
derived_key (Name d n) (Block y j) = refl
derived_key (Node x) (Name e m) = refl
derived_key (Node x) (Node y) = then_equal (nat_cmp x y)
derived_key (Node x) (Block y j) = refl
derived_key (Block x i) (Name e m) = refl
derived_key (Block x i) (Node y) = refl
derived_key (Block x i) (Block y j) = ap (ordering_then (nat_cmp x y)) (then_equal (nat_cmp i j))

-- and so are the orders of pairs with a key
abbrev pub place_order : ℕ × Key → ℕ × Key → Ordering
place_order x y = ordering_then (nat_cmp x.0 y.0) ((ghosts).cmp x.1 y.1)

pub same_places : (x y : ℕ × Key) → eq_by_cmp place_order x y ≡ eq_by_cmp entry_cmp x y
same_places x y = ap (λ o. is_eq (ordering_then (nat_cmp x.0 y.0) o)) (derived_key x.1 y.1)

abbrev pub version_order : Key × ℕ → Key × ℕ → Ordering
version_order x y = ordering_then ((ghosts).cmp x.0 y.0) (nat_cmp x.1 y.1)

pub both_equal : (o p : Ordering) → is_eq (ordering_then o p) ≡ (is_eq o && is_eq p)
both_equal Less p = refl
both_equal Equal p = refl
both_equal Greater p = refl

pub same_numbers : (x y : ℕ) → eq_by_cmp nat_cmp x y ≡ nat_eq x y
same_numbers x y = grind (arith, nat_tests)

pub same_lists : (x y : List ℕ) → eq_by_cmp (slice_cmp nat_cmp) x y ≡ pointwise nat_eq x y
same_lists x y = sym (lists_ties nat_cmp (λ a b. sym (same_numbers a b)) x y)

pub same_versions : (x y : Key × ℕ) → eq_by_cmp version_order x y ≡ (eq_by_cmp key_cmp x.0 y.0 && nat_eq x.1 y.1)
same_versions x y =
    both_equal ((ghosts).cmp x.0 y.0) (nat_cmp x.1 y.1)
    ∙ ap (λ o. is_eq o && eq_by_cmp nat_cmp x.1 y.1) (derived_key x.0 y.0)
    ∙ ap (λ b. eq_by_cmp key_cmp x.0 y.0 && b) (same_numbers x.1 y.1)
