-- Which data blocks a table names, after an entry is written or goes.
use Rattle.std.proofs.Common.{◌≡◌, ◌≢◌, ℕ, true, false, cond, ◌⊎◌, inl, inr, Option, Some, None, nat_eq, refl, sym, ap, ◌∙◌, arith}
use Rattle.std.proofs.lemmas.Bool.Decides.{nat_tests}
use Rattle.ck_model.specs.declared.key.Key.{Key}
use Rattle.ck_model.specs.declared.held.Held.{Held}
use Rattle.ck_model.specs.Table.{Table, column, with_entry}
use Rattle.ck_model.specs.Rules.{IsOrderly, block_in}
use Rattle.ck_model.proofs.CaseLaws.{none_some}
use Rattle.ck_chain.specs.Named.{block_of, IsNamed, Naming}
use Rattle.ck_chain.specs.Needless.{tidied}
use Rattle.ck_chain.proofs.ColumnLaws.{column-with_entry, column-with_entry_other, same_or_other}
use Rattle.ck_chain.proofs.OrderlyLaws.{still_stood}
use Rattle.ck_chain.proofs.TidyLaws.{column-tidied}

pub naming_of : (o : Option Held) (block : ℕ) → block_of o ≡ Some block → Naming o block
naming_of None block h = cc
naming_of (Some held) block h = record { held = held; stands = refl; names = h }

pub named_entry : (t : Table) (fs : ℕ) (key : Key) (held : Held) (block : ℕ) → column t key fs ≡ Some held → block_in held ≡ Some block → IsNamed t block
named_entry t fs key held block at names = (fs, (key, ap block_of at ∙ names))

-- what is written somewhere is there
here : (t : Table) (fs : ℕ) (key : Key) (w : Option Held) → column (with_entry t fs key w) key fs ≡ w
here t fs key w = column-with_entry t fs key w fs ∙ grind (arith, nat_tests)

-- what was written somewhere, or stood there before
pub place_of : (t : Table) (fs : ℕ) (key : Key) (w : Option Held) (g : ℕ) (q : Key) → ((g ≡ fs) × (q ≡ key)) ⊎ (column (with_entry t fs key w) q g ≡ column t q g)
place_of t fs key w g q = elim (same_or_other q key) [
  | inr other ↦ inr (ap (λ (c : ℕ → Option Held). c g) (column-with_entry_other t fs key w q other))
  | inl same ↦
      let new : column (with_entry t fs key w) q g ≡ cond (nat_eq g fs) w (column t key g) = ap (λ u. column (with_entry t fs key w) u g) same ∙ column-with_entry t fs key w g in
      elim (nat_eq g fs) as (λ b. nat_eq g fs ≡ b → column (with_entry t fs key w) q g ≡ cond b w (column t key g) → ((g ≡ fs) × (q ≡ key)) ⊎ (column (with_entry t fs key w) q g ≡ column t q g)) [
        | true ↦ λ e is. let at : g ≡ fs = grind (arith, nat_tests) in inl (at, same)
        | false ↦ λ e is. inr (is ∙ sym (ap (λ u. column t u g) same))
      ] refl new
]

-- the written entry names its block
pub named_here : (t : Table) (fs : ℕ) (key : Key) (w : Option Held) (block : ℕ) → block_of w ≡ Some block → IsNamed (with_entry t fs key w) block
named_here t fs key w block names = (fs, (key, ap block_of (here t fs key w) ∙ names))

-- no block is named anew but by the written entry
pub named_written : (t : Table) (fs : ℕ) (key : Key) (w : Option Held) (block : ℕ) → IsNamed (with_entry t fs key w) block → IsNamed t block ⊎ (block_of w ≡ Some block)
named_written t fs key w block named = elim (place_of t fs key w named.0 named.1.0) [
  | inl at ↦ inr (sym (ap block_of (ap (λ u. column (with_entry t fs key w) u named.0) at.1 ∙ ap (column (with_entry t fs key w) key) at.0 ∙ here t fs key w)) ∙ named.1.1)
  | inr stays ↦ inl (named.0, (named.1.0, ap block_of (sym stays) ∙ named.1.1))
]

-- a block that is named stays so, but where its entry stood
pub named_else : (t : Table) (fs : ℕ) (key : Key) (w : Option Held) (block : ℕ) → IsNamed t block → IsNamed (with_entry t fs key w) block ⊎ (block_of (column t key fs) ≡ Some block)
named_else t fs key w block named = elim (place_of t fs key w named.0 named.1.0) [
  | inl at ↦ inr (sym (ap block_of (ap (λ u. column t u named.0) at.1 ∙ ap (column t key) at.0)) ∙ named.1.1)
  | inr stays ↦ inl (named.0, (named.1.0, ap block_of stays ∙ named.1.1))
]

-- where an entry goes, nothing names its block
pub named_without : (t : Table) (fs : ℕ) (key : Key) (block : ℕ) → IsOrderly t → block_of (column t key fs) ≡ Some block → IsNamed (with_entry t fs key None) block → ⊥
named_without t fs key block is was named =
    let old = naming_of (column t key fs) block was in
    let u = with_entry t fs key None in
    let left = naming_of (column u named.1.0 named.0) block named.1.1 in
    let one = is.unshared named.0 fs named.1.0 key left.held old.held block (still_stood t fs key named.0 named.1.0 left.held left.stands) old.stands left.names old.names in
    let gone : column u named.1.0 named.0 ≡ None = ap (λ k. column u k named.0) one.1 ∙ ap (column u key) one.0 ∙ here t fs key None in
    none_some left.held (sym gone ∙ left.stands)

-- tidying takes away no name
pub named_tidied : (t : Table) (f : ℕ) (key : Key) (block : ℕ) → IsNamed (tidied t f key) block → IsNamed t block
named_tidied t f key block named = elim (column-tidied t f key named.0 named.1.0) [
  | inl same ↦ (named.0, (named.1.0, ap block_of (sym same) ∙ named.1.1))
  | inr gone ↦ let wrong = sym (ap block_of gone.3) ∙ named.1.1 in absurd (none_some block wrong)
]

pub named_before_tidied : (t : Table) (f : ℕ) (key : Key) (block : ℕ) → IsNamed t block → IsNamed (tidied t f key) block
named_before_tidied t f key block named = elim (column-tidied t f key named.0 named.1.0) [
  | inl same ↦ (named.0, (named.1.0, ap block_of same ∙ named.1.1))
  | inr gone ↦ let wrong = sym (ap block_of gone.2) ∙ named.1.1 in absurd (none_some block wrong)
]

-- no entry names the block, in other words
pub unnamed : (t : Table) (block : ℕ) → ((fs : ℕ) (key : Key) (held : Held) → column t key fs ≡ Some held → block_in held ≢ Some block) → IsNamed t block → ⊥
unnamed t block none named =
    let one = naming_of (column t named.1.0 named.0) block named.1.1 in
    none named.0 named.1.0 one.held one.stands one.names

pub no_names : (t : Table) (block : ℕ) → (IsNamed t block → ⊥) → (fs : ℕ) (key : Key) (held : Held) → column t key fs ≡ Some held → block_in held ≢ Some block
no_names t block free fs key held at names = free (named_entry t fs key held block at names)
