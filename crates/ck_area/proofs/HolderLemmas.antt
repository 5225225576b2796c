-- The first entry behind a place, and the next newer fileset that has an entry at the same key.
use Rattle.std.proofs.Common.{◌≡◌, ℕ, ◌<◌, Bool, true, false, cond, T, ◌&&◌, ◌||◌, nat_lt, nat_eq, List, [], ◌∷◌, map as list_map, Option, Some, None, is_some, refl, sym, ap, subst, ◌∙◌, arith, inl, inr}
use Rattle.std.specs.declared.cmp.Ordering.{Ordering}
use Rattle.std.specs.declared.cmp.Ordering.TheVariants.{Less, Equal, Greater}
use Rattle.std.specs.Ordering.{nat_cmp, is_eq, is_gt, is_lt, eq_by_cmp, ordering_then, ordering_reverse}
use Rattle.std.proofs.lemmas.Bool.Decides.{nat_tests}
use Rattle.std.proofs.lemmas.Cmp.{tied_itself, nat_cmp_total}
use Rattle.std.specs.List.{list_any}
use Rattle.std.specs.Option.{option_or, option_map}
use Rattle.std.specs.FinMap.{is_sorted, entries_sorted}
use Rattle.std.specs.FinMap as map
use Rattle.std.specs.FinMap.Entries.{below_all}
use Rattle.ck_model.specs.declared.checkpoint.Fileset.{Fileset}
use Rattle.ck_model.specs.declared.key.Key.{Key}
use Rattle.ck_model.specs.declared.held.Held.{Held}
use Rattle.ck_model.specs.Table.{Table, column, newer}
use Rattle.ck_model.specs.Rules.{first_holder}
use Rattle.ck_model.specs.Placed.{above}
use Rattle.ck_model.specs.Key.{key_cmp, key_cmp_total, key_cmp_exact}
use Rattle.ck_model.specs.contracts.key.KeyOrd.TheImpl.{ghosts}
use Rattle.ck_model.specs.contracts.key.KeyPartialEq.TheImpl as same
use Rattle.ck_model.specs.contracts.key.KeyOrd.TheImpl.Laws as laws
use Rattle.ck_area.specs.Known.{column_order, IsFirstBehind, IsNewerHolder, IsNextHolder, is_home}
use Rattle.ck_area.proofs.OrderLemmas.{derived_key}

less_is : (a b : ℕ) → a < b → nat_cmp a b ≡ Less
less_is a b h = grind (arith, nat_tests)

greater_is : (a b : ℕ) → b < a → nat_cmp a b ≡ Greater
greater_is a b h = grind (arith, nat_tests)

is_less : (a b : ℕ) → nat_cmp a b ≡ Less → a < b
is_less a b h = grind (arith, nat_tests)

same_key : (key : Key) (o : Ordering) → ordering_then ((ghosts).cmp key key) o ≡ o
same_key key o = ap (λ r. ordering_then r o) (derived_key key key ∙ tied_itself key_cmp_total key)

none_unless : (o : Option Held) → (is_some o ≡ true → ⊥) → o ≡ None
none_unless None h = refl
none_unless (Some x) h = absurd (h refl)

equal : (o : Ordering) → is_eq o ≡ true → o ≡ Equal
equal Less h = cc
equal Equal h = refl
equal Greater h = cc

module _ (held : Key × ℕ → Option Held) (key : Key) (fs : ℕ) where
  pub none_behind : IsFirstBehind held (key, fs) None → IsNewerHolder (λ id. held (key, id)) fs None
  none_behind h id above = h (key, id) (same_key key (nat_cmp fs id) ∙ less_is fs id above)

  pub found_here : (found : Key) (id : ℕ) (value : Held) → IsFirstBehind held (key, fs) (Some ((found, id), value)) → found ≡ key → IsNewerHolder (λ n. held (key, n)) fs (Some (id, value))
  found_here found id value h same =
      let behind = subst (λ (k : Key). column_order (key, fs) (k, id) ≡ Less) same h.0 in (
        is_less fs id (sym (same_key key (nat_cmp fs id)) ∙ behind),
        subst (λ (k : Key). held (k, id) ≡ Some value) same h.1,
        λ n above below. none_unless (held (key, n)) (λ some.
            let first = subst (λ (k : Key). is_gt (column_order (k, id) (key, n)) ≡ false) same (h.2 (key, n) (same_key key (nat_cmp fs n) ∙ less_is fs n above) some) in
            let later : is_gt (column_order (key, id) (key, n)) ≡ true = ap is_gt (same_key key (nat_cmp id n) ∙ greater_is id n below) in
            absurd (cc (sym first ∙ later))),
      )

  beyond : (found : Key) (id n : ℕ) (o : Ordering) → key_cmp key found ≡ o → (found ≡ key → ⊥) → column_order (key, fs) (found, id) ≡ Less → is_gt (column_order (found, id) (key, n)) ≡ false → ⊥
  beyond found id n Less is other behind first =
      let back : key_cmp found key ≡ Greater = key_cmp_total.antisymm found key ∙ ap ordering_reverse is in
      let after : is_gt (column_order (found, id) (key, n)) ≡ true = ap (λ r. is_gt (ordering_then r (nat_cmp id n))) (derived_key found key ∙ back) in
      absurd (cc (sym first ∙ after))
  beyond found id n Equal is other behind first = other (sym (key_cmp_exact key found is))
  beyond found id n Greater is other behind first =
      let before : column_order (key, fs) (found, id) ≡ Greater = ap (λ r. ordering_then r (nat_cmp fs id)) (derived_key key found ∙ is) in
      absurd (cc (sym before ∙ behind))

  pub found_elsewhere : (found : Key) (id : ℕ) (value : Held) → IsFirstBehind held (key, fs) (Some ((found, id), value)) → (found ≡ key → ⊥) → IsNewerHolder (λ n. held (key, n)) fs None
  found_elsewhere found id value h other n above =
      none_unless (held (key, n)) (λ some.
      beyond found id n (key_cmp key found) refl other h.0 (h.2 (key, n) (same_key key (nat_cmp fs n) ∙ less_is fs n above) some))

-- the test for the same key
pub derived_same : (x y : Key) → (same.ghosts).eq x y ≡ eq_by_cmp key_cmp x y
derived_same x y = laws.matches_eq-law x y ∙ ap is_eq (derived_key x y)

pub same_keys : (x y : Key) → (same.ghosts).eq x y ≡ true → x ≡ y
same_keys x y h = key_cmp_exact x y (equal (key_cmp x y) (sym (derived_same x y) ∙ h))

pub other_keys : (x y : Key) → (same.ghosts).eq x y ≡ false → x ≡ y → ⊥
other_keys x y h is = let itself : (same.ghosts).eq x x ≡ true = derived_same x x ∙ ap is_eq (tied_itself key_cmp_total x) in absurd (cc (sym h ∙ ap ((same.ghosts).eq x) (sym is) ∙ itself))

-- ---- the next holder, in a table

lower_than : (a b : ℕ) → nat_lt a b ≡ true → a < b
lower_than a b h = grind (arith, nat_tests)

greater_than : (a b : ℕ) → a < b → nat_lt a b ≡ true
greater_than a b h = grind (arith, nat_tests)

abbrev pub is_member : {X : Type 0} → ℕ → List (ℕ × X) → Bool
is_member id es = list_any (eq_by_cmp nat_cmp id) (list_map (λ e. e.0) es)

tied_numbers : (a b : ℕ) → eq_by_cmp nat_cmp a b ≡ true → a ≡ b
tied_numbers a b h = grind (arith, nat_tests)

or_right : (a b : Bool) → b ≡ true → (a || b) ≡ true
or_right true b h = refl
or_right false b h = h

or_left : (a b : Bool) → a ≡ true → (a || b) ≡ true
or_left true b h = refl
or_left false b h = cc

and_parts : (a b : Bool) → T (a && b) → T a × T b
and_parts true b h = (tt, h)
and_parts false b h = absurd h

lower_number : (a b : ℕ) → T (is_lt (nat_cmp a b)) → a < b
lower_number a b h = grind (arith, nat_tests)

below_member : {X : Type 0} (x id : ℕ) (es : List (ℕ × X)) → T (below_all nat_cmp x es) → is_member id es ≡ true → x < id
below_member x id [] h member = cc
below_member x id (e ∷ es) h member =
    let parts = and_parts (is_lt (nat_cmp x e.0)) (below_all nat_cmp x es) h in
    elim (eq_by_cmp nat_cmp id e.0) as (λ b. eq_by_cmp nat_cmp id e.0 ≡ b → (b || is_member id es) ≡ true → x < id) [
      | true ↦ λ tied _. let lower = lower_number x e.0 parts.0 in let same = tied_numbers id e.0 tied in omega arith
      | false ↦ λ _ rest. below_member x id es parts.1 rest
    ] refl member

module _ {X : Type 0} (held other : ℕ → Option Held) (fs : ℕ) where
  first_none : (es : List (ℕ × X)) → ((id : ℕ) → is_member id es ≡ true → other id ≡ held id) → ((id : ℕ) → fs < id → other id ≡ None)
      → first_holder held (above fs es) ≡ option_map (λ entry. (0, entry)) (held 0)
  first_none [] agree none = refl
  first_none (e ∷ es) agree none =
      let rest = first_none es (λ id member. agree id (or_right (eq_by_cmp nat_cmp id e.0) (is_member id es) member)) none in
      let here = agree e.0 (or_left (eq_by_cmp nat_cmp e.0 e.0) (is_member e.0 es) (ap is_eq (tied_itself nat_cmp_total e.0))) in
      elim (nat_lt fs e.0) as (λ b. nat_lt fs e.0 ≡ b → first_holder held (cond b (e.0 ∷ above fs es) (above fs es)) ≡ option_map (λ entry. (0, entry)) (held 0)) [
        | true ↦ λ above_it.
            let empty : held e.0 ≡ None = sym here ∙ none e.0 (lower_than fs e.0 above_it) in
            ap (λ o. option_or (option_map (λ entry. (e.0, entry)) o) (first_holder held (above fs es))) empty ∙ rest
        | false ↦ λ _. rest
      ] refl

  first_some : (es : List (ℕ × X)) (id : ℕ) (value : Held) → T (is_sorted nat_cmp es) → ((n : ℕ) → is_member n es ≡ true → other n ≡ held n)
      → fs < id → other id ≡ Some value → ((n : ℕ) → fs < n → n < id → other n ≡ None) → is_member id es ≡ true
      → first_holder held (above fs es) ≡ Some (id, value)
  first_some [] id value sorted agree behind is none member = cc
  first_some (e ∷ es) id value sorted agree behind is none member =
      let parts = and_parts (below_all nat_cmp e.0 es) (is_sorted nat_cmp es) sorted in
      let here = agree e.0 (or_left (eq_by_cmp nat_cmp e.0 e.0) (is_member e.0 es) (ap is_eq (tied_itself nat_cmp_total e.0))) in
      let rest = first_some es id value parts.1 (λ n inside. agree n (or_right (eq_by_cmp nat_cmp n e.0) (is_member n es) inside)) behind is none in
      elim (eq_by_cmp nat_cmp id e.0) as (λ b. eq_by_cmp nat_cmp id e.0 ≡ b → (b || is_member id es) ≡ true → first_holder held (above fs (e ∷ es)) ≡ Some (id, value)) [
        | true ↦ λ tied _.
            let same : id ≡ e.0 = tied_numbers id e.0 tied in
            let value_here : held e.0 ≡ Some value = sym here ∙ ap other (sym same) ∙ is in
            let seen : nat_lt fs e.0 ≡ true = greater_than fs e.0 (omega arith) in
            ap (λ b. first_holder held (cond b (e.0 ∷ above fs es) (above fs es))) seen
            ∙ ap (λ o. option_or (option_map (λ entry. (e.0, entry)) o) (first_holder held (above fs es))) value_here
            ∙ ap (λ (n : ℕ). Some (n, value)) (sym same)
        | false ↦ λ _ inside.
            let lower : e.0 < id = below_member e.0 id es parts.0 inside in
            elim (nat_lt fs e.0) as (λ b. nat_lt fs e.0 ≡ b → first_holder held (cond b (e.0 ∷ above fs es) (above fs es)) ≡ Some (id, value)) [
              | true ↦ λ above_it.
                  let empty : held e.0 ≡ None = sym here ∙ none e.0 (lower_than fs e.0 above_it) lower in
                  ap (λ o. option_or (option_map (λ entry. (e.0, entry)) o) (first_holder held (above fs es))) empty ∙ rest inside
              | false ↦ λ _. rest inside
            ] refl
      ] refl member

home_of : (home : Bool) (o : Option Held) (value : Held) → cond home o None ≡ Some value → home ≡ true
home_of true o value h = refl
home_of false o value h = cc

or_second : (a b : Bool) → (a || b) ≡ true → a ≡ false → b ≡ true
or_second true b h apart = cc
or_second false b h apart = h

not_zero : (fs id : ℕ) → fs < id → nat_eq id 0 ≡ false
not_zero fs id h = grind (arith, nat_tests)

module _ (t : Table) (key : Key) (filesets : ℕ → Option Fileset) (held : ℕ → Option Held) (same : (id : ℕ) → filesets id ≡ map.get t.filesets id)
    (entries : (id : ℕ) → held id ≡ cond (is_home filesets id) (column t key id) None) where
  member_is : (id : ℕ) → is_some (filesets id) ≡ is_member id (map.entries t.filesets)
  member_is id = ap is_some (same id) ∙ map.contains_key-keys t.filesets id

  agree : (id : ℕ) → is_member id (map.entries t.filesets) ≡ true → held id ≡ column t key id
  agree id member =
      let home : is_home filesets id ≡ true = or_right (nat_eq id 0) (is_some (filesets id)) (member_is id ∙ member) in
      entries id ∙ ap (λ b. cond b (column t key id) None) home

  -- it is what the table says
  pub holder_in_table : (fs : ℕ) (holder : Option (ℕ × Held)) → IsNextHolder held fs holder → first_holder (column t key) (newer t fs) ≡ holder
  holder_in_table fs None h =
      first_none (column t key) held fs (map.entries t.filesets) agree h.0 ∙ ap (option_map (λ entry. (0, entry))) (sym (entries 0) ∙ h.1)
  holder_in_table fs (Some holder) h =
      elim h.1 [
        | inl newer_one ↦
            let home : is_home filesets holder.0 ≡ true = home_of (is_home filesets holder.0) (column t key holder.0) holder.1 (sym (entries holder.0) ∙ h.0) in
            let member : is_member holder.0 (map.entries t.filesets) ≡ true = sym (member_is holder.0) ∙ or_second (nat_eq holder.0 0) (is_some (filesets holder.0)) home (not_zero fs holder.0 newer_one.0) in
            first_some (column t key) held fs (map.entries t.filesets) holder.0 holder.1 (entries_sorted t.filesets) agree newer_one.0 h.0 newer_one.1 member
        | inr primary ↦
            let value : column t key 0 ≡ Some holder.1 = sym (entries 0) ∙ ap held (sym primary.0) ∙ h.0 in
            first_none (column t key) held fs (map.entries t.filesets) agree primary.1
            ∙ ap (option_map (λ entry. (0, entry))) value
            ∙ ap (λ (n : ℕ). Some (n, holder.1)) (sym primary.0)
      ]
