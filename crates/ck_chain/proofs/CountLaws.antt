-- How many records a table has, after an entry is written.
use Rattle.std.proofs.Common.{◌≡◌, ℕ, ◌+◌, ◌-◌, ◌≤◌, true, false, cond, Option, Some, None, is_some, IsSome, refl, sym, ap, ◌∙◌, inl, inr, arith}
use Rattle.std.specs.FinMap.{len-insert, len-remove, empty_of_len, get-empty}
use Rattle.std.specs.FinMap as map
use mathlib.Core.Bool.{false≢true}
use Rattle.std.proofs.lemmas.Bool.{cases_lt}
use Rattle.ck_model.specs.declared.key.Key.{Key}
use Rattle.ck_model.specs.declared.held.Held.{Held}
use Rattle.ck_model.specs.Key.{entry_cmp, entry_cmp_total}
use Rattle.ck_model.specs.Table.{Table, Entries, column, with_entry, record_count}
use Rattle.ck_chain.specs.Named.{one_of}

-- a table with an entry isn't empty
pub some_entry : (entries : Entries) (entry : ℕ × Key) → IsSome (map.get entries entry) → 1 ≤ map.len entries
some_entry entries entry h = elim (cases_lt 0 (map.len entries)) [
  | inl lt ↦ omega arith
  | inr le ↦
      let none : map.get entries entry ≡ None = ap (λ m. map.get m entry) (empty_of_len entries (omega arith)) ∙ get-empty entry_cmp entry in
      absurd (false≢true (sym (ap is_some none) ∙ h))
]

-- an entry is written or goes: it counts afterwards in place of the one before
pub record_count-with_entry : (t : Table) (fs : ℕ) (key : Key) (w : Option Held) → record_count (with_entry t fs key w) + one_of (column t key fs) ≡ record_count t + one_of w
record_count-with_entry t fs key None =
    let len : map.len (map.remove t.entries (fs, key)) ≡ cond (is_some (column t key fs)) (map.len t.entries - 1) (map.len t.entries) = len-remove entry_cmp_total t.entries (fs, key) in
    elim (is_some (column t key fs)) as (λ b. (b ≡ true → 1 ≤ map.len t.entries) → map.len (map.remove t.entries (fs, key)) ≡ cond b (map.len t.entries - 1) (map.len t.entries) → map.len (map.remove t.entries (fs, key)) + map.len t.filesets + cond b 1 0 ≡ map.len t.entries + map.len t.filesets + 0) [
      | true ↦ λ some is. let least = some refl in omega arith
      | false ↦ λ some is. omega arith
    ] (λ h. some_entry t.entries (fs, key) h) len
record_count-with_entry t fs key (Some held) =
    let len : map.len (map.insert t.entries (fs, key) held) ≡ cond (is_some (column t key fs)) (map.len t.entries) (map.len t.entries + 1) = len-insert entry_cmp_total t.entries (fs, key) held in
    elim (is_some (column t key fs)) as (λ b. map.len (map.insert t.entries (fs, key) held) ≡ cond b (map.len t.entries) (map.len t.entries + 1) → map.len (map.insert t.entries (fs, key) held) + map.len t.filesets + cond b 1 0 ≡ map.len t.entries + map.len t.filesets + 1) [
      | true ↦ λ is. omega arith
      | false ↦ λ is. omega arith
    ] len
