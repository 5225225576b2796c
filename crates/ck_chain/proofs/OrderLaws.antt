-- The next key of a fileset, and of a chain of filesets.
use Rattle.std.proofs.Common.{◌≡◌, ℕ, Bool, true, false, cond, ◌&&◌, ◌||◌, Option, Some, None, is_some, MatchOption, IfSome, List, [], ◌∷◌, filter, map as list_map, nat_eq, refl, sym, ap, subst, ◌∙◌, ◌⊎◌, inl, inr}
use Rattle.std.specs.Ordering.{eq_by_cmp, is_eq}
use Rattle.std.specs.Option.{option_or}
use Rattle.std.specs.FinMap.{find}
use Rattle.std.specs.FinMap.Entries.{find-where_key}
use Rattle.std.specs.FinMap as map
use Rattle.std.proofs.lemmas.Cmp.{tied_itself}
use mathlib.Core.Bool.{false≢true}
use Rattle.ck_model.specs.declared.key.Key.{Key}
use Rattle.ck_model.specs.declared.held.Held.{Held}
use Rattle.ck_model.specs.Key.{key_cmp, key_cmp_total, key_cmp_exact}
use Rattle.ck_model.specs.Table.{Table, column, keys_in, keys_after}
use Rattle.ck_model.specs.TableWorld.{is_among}
use Rattle.ck_model.specs.Rows.{row, row_of}
use Rattle.ck_model.proofs.CellLaws.{tied-is}
use Rattle.ck_model.proofs.RowLaws.{find-row_of}
use Rattle.ck_model.proofs.CaseLaws.{true_or_false}
use Rattle.ck_chain.specs.Order.{is_after, is_before, IsNext, is_behind}
use Rattle.ck_chain.proofs.KeyOrderLaws.{behind-itself, behind-once, after-trans, same_or_before}

one_of : (a b : Bool) → (a || b) ≡ true → (a ≡ true) ⊎ (b ≡ true)
one_of true b h = inl refl
one_of false b h = inr h

pub keys-row : {X : Type 0} (fs : ℕ) (es : List ((ℕ × Key) × X)) → list_map (λ e. e.0.1) (filter (λ e. nat_eq e.0.0 fs) es) ≡ list_map (λ x. x.0) (row fs es)
keys-row fs [] = refl
keys-row {X} fs (e ∷ es) =
    elim (nat_eq e.0.0 fs) as (λ b. list_map (λ (x : (ℕ × Key) × X). x.0.1) (cond b (e ∷ filter (λ x. nat_eq x.0.0 fs) es) (filter (λ x. nat_eq x.0.0 fs) es)) ≡ list_map (λ (x : Key × X). x.0) (cond b ((e.0.1, e.1) ∷ row fs es) (row fs es))) [
      | true ↦ ap (λ ks. e.0.1 ∷ ks) (keys-row fs es)
      | false ↦ keys-row fs es
    ]

pub filter-keys : {X : Type 0} (p : Key → Bool) (es : List (Key × X)) → filter p (list_map (λ x. x.0) es) ≡ list_map (λ x. x.0) (filter (λ x. p x.0) es)
filter-keys p [] = refl
filter-keys {X} p (e ∷ es) =
    elim (p e.0) as (λ b. cond b (e.0 ∷ filter p (list_map (λ x. x.0) es)) (filter p (list_map (λ x. x.0) es)) ≡ list_map (λ (x : Key × X). x.0) (cond b (e ∷ filter (λ x. p x.0) es) (filter (λ x. p x.0) es))) [
      | true ↦ ap (λ ks. e.0 ∷ ks) (filter-keys p es)
      | false ↦ filter-keys p es
    ]

pub among-keys : {X : Type 0} (q : Key) (es : List (Key × X)) → is_among q (list_map (λ x. x.0) es) ≡ is_some (find key_cmp q es)
among-keys q [] = refl
among-keys q (e ∷ es) =
    elim (eq_by_cmp key_cmp q e.0) as (λ b. (b || is_among q (list_map (λ x. x.0) es)) ≡ is_some (cond b (Some e.1) (find key_cmp q es))) [
      | true ↦ refl
      | false ↦ among-keys q es
    ]

-- of a fileset's keys, those that pass a test
pub among-passing : (t : Table) (fs : ℕ) (passes : Key → Bool) (q : Key) → is_among q (filter passes (keys_in t fs)) ≡ is_some (cond (passes q) (column t q fs) None)
among-passing t fs passes q =
    ap (λ ks. is_among q (filter passes ks)) (keys-row fs (map.entries t.entries))
    ∙ ap (is_among q) (filter-keys passes (row_of t fs))
    ∙ among-keys q (filter (λ x. passes x.0) (row_of t fs))
    ∙ ap is_some (find-where_key key_cmp passes q (λ x tied. ap passes (sym (key_cmp_exact q x tied))) (row_of t fs))
    ∙ ap (λ o. is_some (cond (passes q) o None)) (find-row_of t fs q)

-- which keys are behind one
among-after : (t : Table) (fs : ℕ) (after : Option Key) (q : Key) → is_among q (keys_after t fs after) ≡ is_some (cond (is_after after q) (column t q fs) None)
among-after t fs None q =
    ap (is_among q) (keys-row fs (map.entries t.entries)) ∙ among-keys q (row_of t fs) ∙ ap is_some (find-row_of t fs q)
among-after t fs (Some key) q = among-passing t fs (is_behind key) q

among-head : (k : Key) (ks : List Key) → is_among k (k ∷ ks) ≡ true
among-head k ks = ap (λ o. is_eq o || is_among k ks) (tied_itself key_cmp_total k)

both_of : (b : Bool) (o : Option Held) → is_some (cond b o None) ≡ true → (b ≡ true) × (is_some o ≡ true)
both_of true o h = (refl, h)
both_of false o h = absurd (false≢true h)

-- what a table says of the next key, in the words of tests
pub next_is : (t : Table) (fs : ℕ) (after : Option Key) (next : Option Key)
    → MatchOption next (keys_after t fs after ≡ []) (λ k. keys_after t fs after ≡ k ∷ keys_after t fs (Some k))
    → IsNext t (λ q. is_some (column t q fs)) after next
next_is t fs after None h = record {
  behind = tt;
  held = tt;
  between = λ q behind before. true_or_false (is_some (column t q fs)) (λ some.
      let there : is_some (cond (is_after after q) (column t q fs) None) ≡ true = ap (λ b. is_some (cond b (column t q fs) None)) behind ∙ some in
      false≢true (ap (is_among q) (sym h) ∙ among-after t fs after q ∙ there));
}
next_is t fs after (Some k) h =
    let here = both_of (is_after after k) (column t k fs) (sym (among-after t fs after k) ∙ ap (is_among k) h ∙ among-head k (keys_after t fs (Some k))) in
    record {
      behind = here.0;
      held = (fs, here.1);
      between = λ q behind before. true_or_false (is_some (column t q fs)) (λ some.
          let there : is_some (cond (is_after after q) (column t q fs) None) ≡ true = ap (λ b. is_some (cond b (column t q fs) None)) behind ∙ some in
          elim (one_of (eq_by_cmp key_cmp q k) (is_among q (keys_after t fs (Some k))) (ap (is_among q) (sym h) ∙ among-after t fs after q ∙ there)) [
            | inl tied ↦ false≢true (sym (behind-itself k) ∙ ap (λ x. is_behind x k) (sym (tied-is q k tied)) ∙ before)
            | inr rest ↦ false≢true (sym (behind-once q k before) ∙ (both_of (is_behind k q) (column t q fs) (sym (among-after t fs (Some k) q) ∙ rest)).0)
          ]);
    }

-- and that the fileset has an entry there
pub next_entry_is : (t : Table) (fs : ℕ) (after : Option Key) (next : Option Key)
    → MatchOption next (keys_after t fs after ≡ []) (λ k. keys_after t fs after ≡ k ∷ keys_after t fs (Some k))
    → IfSome next (λ k. is_some (column t k fs) ≡ true)
next_entry_is t fs after None h = tt
next_entry_is t fs after (Some k) h = (both_of (is_after after k) (column t k fs) (sym (among-after t fs after k) ∙ ap (is_among k) h ∙ among-head k (keys_after t fs (Some k)))).1

-- no entry in front of the others
pub first_without : (o rest : Option Held) → is_some o ≡ false → option_or o rest ≡ rest
first_without None rest h = refl
first_without (Some h) rest clash = cc

pub first_with : (a b : Bool) → (a && b) ≡ true → (a ≡ true) × (b ≡ true)
first_with true b h = (refl, h)
first_with false b h = cc

-- ---- the same next key for another test, and the next one but one

-- the key behind one that is behind another
pub further : (t : Table) (passes : Key → Bool) (after : Option Key) (key : Key) (next : Option Key) → is_after after key ≡ true → IsNext t passes (Some key) next → IfSome next (λ k. is_after after k ≡ true)
further t passes after key None at is = tt
further t passes after key (Some k) at is = after-trans after key k at is.behind

-- where a key doesn't pass either, none does up to the next
pub between_more : (t : Table) (passes : Key → Bool) (after : Option Key) (key : Key) (next : Option Key) → passes key ≡ false
    → ((q : Key) → is_after after q ≡ true → is_before (Some key) q ≡ true → passes q ≡ false)
    → IsNext t passes (Some key) next
    → (q : Key) → is_after after q ≡ true → is_before next q ≡ true → passes q ≡ false
between_more t passes after key next not old is q behind before =
    elim (is_behind q key) as (λ b. is_behind q key ≡ b → passes q ≡ false) [
      | true ↦ λ low. old q behind low
      | false ↦ λ level. elim (is_behind key q) as (λ b. is_behind key q ≡ b → passes q ≡ false) [
        | true ↦ λ high. is.between q high before
        | false ↦ λ same. ap passes (same_or_before q key level same) ∙ not
      ] refl
    ] refl

-- what holds of both keys holds of the one that was chosen
pub of_either : (P : Key → Type 0) (a b next : Option Key) → (next ≡ a) ⊎ (next ≡ b) → IfSome a P → IfSome b P → IfSome next P
of_either P a b next one first second = elim one [
  | inl is ↦ subst (λ o. IfSome o P) (sym is) first
  | inr is ↦ subst (λ o. IfSome o P) (sym is) second
]
