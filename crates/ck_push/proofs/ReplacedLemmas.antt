-- An entry is pushed and another set, in steps: what is there then, and the room that it takes.
use Rattle.std.proofs.Common.{◌≡◌, ◌≢◌, ◌⊎◌, ℕ, ◌+◌, ◌<◌, ◌≤◌, cond, not, inl, inr, Option, Some, None, is_some, IsSome, IfSome, refl, sym, ap, subst, ◌∙◌, arith}
use Rattle.std.proofs.lemmas.Bool.Decides.{nat_tests}
use Rattle.ck_model.specs.declared.key.Key.{Key}
use Rattle.ck_model.specs.declared.held.Held.{Held}
use Rattle.ck_model.specs.Table.{Table, IsSized, column, with_entry, record_count, spare_count}
use Rattle.ck_chain.specs.Named.{one_of}
use Rattle.ck_chain.proofs.ColumnLaws.{column-with_entry, write_twice, write_swap}
use Rattle.ck_chain.proofs.CountLaws.{record_count-with_entry}
use Rattle.ck_push.specs.Changed.{with_push, replaced}
use Rattle.ck_push.specs.Growth.{one_if}

-- the table with what is pushed
abbrev pub after_push : Table → Key → Option (ℕ × Held) → Table
after_push t key push = record t { entries = with_push t.entries key push }

-- the primary's entry may go before
pub del_first : (t : Table) (key : Key) (push : Option (ℕ × Held)) → IfSome push (λ entry. entry.0 ≢ 0) → after_push (with_entry t 0 key None) key push ≡ replaced t key push None
del_first t key None apart = refl
del_first t key (Some entry) apart = write_swap t 0 entry.0 key None (Some entry.1) (λ e. apart (sym e))

pub replaced_in_steps : (t : Table) (key : Key) (push : Option (ℕ × Held)) (new : Option Held) → IfSome push (λ entry. entry.0 ≢ 0) → with_entry (after_push (with_entry t 0 key None) key push) 0 key new ≡ replaced t key push new
replaced_in_steps t key push new apart =
    ap (λ u. with_entry u 0 key new) (del_first t key push apart)
    ∙ write_twice (after_push t key push) 0 key None new

-- the primary's entry stays as an entry is pushed
pub primary_stays : (t : Table) (key : Key) (push : Option (ℕ × Held)) → IfSome push (λ entry. entry.0 ≢ 0) → column (after_push t key push) key 0 ≡ column t key 0
primary_stays t key None apart = refl
primary_stays t key (Some entry) apart = column-with_entry t entry.0 key (Some entry.1) 0 ∙ grind (arith, nat_tests)

-- what is pushed takes at most a record
push_count : (t : Table) (key : Key) (push : Option (ℕ × Held)) → record_count (after_push t key push) ≤ record_count t + one_if (is_some push)
push_count t key None = omega arith
push_count t key (Some entry) = let count = record_count-with_entry t entry.0 key (Some entry.1) in omega arith

-- room for what is pushed and for the new one
pub room_to_set : (t : Table) (key : Key) (push : Option (ℕ × Held)) → IfSome push (λ entry. entry.0 ≢ 0)
    → one_if (is_some push) + one_if (not (is_some (column t key 0))) ≤ spare_count t
    → IsSome (column (after_push t key push) key 0) ⊎ (0 < spare_count (after_push t key push))
room_to_set t key push apart room =
    let count = push_count t key push in
    let same : column (after_push t key push) key 0 ≡ column t key 0 = primary_stays t key push apart in
    subst (λ (o : Option Held). IsSome o ⊎ (0 < spare_count (after_push t key push))) (sym same) (
    elim (column t key 0) as (λ o. one_if (is_some push) + one_if (not (is_some o)) ≤ spare_count t → IsSome o ⊎ (0 < spare_count (after_push t key push))) [
      | Some held ↦ λ room. inl refl
      | None ↦ λ room. inr (omega arith)
    ] room)

-- a deletion frees a record
pub room_after_del : (t : Table) (key : Key) → IsSized t → IsSome (column t key 0) → 0 < spare_count (with_entry t 0 key None)
room_after_del t key sized some =
    let count : record_count (with_entry t 0 key None) + one_of (column t key 0) ≡ record_count t + 0 = record_count-with_entry t 0 key None in
    let one : one_of (column t key 0) ≡ 1 = ap (λ b. cond b 1 0) some in
    let fits = sized.fits in
    omega arith

-- what there is room for in a step holds of what is pushed, if anything is
pub if_pushed : {X : Type 0} (push : Option X) (P : Type 0) → P → IfSome push (λ _. P)
if_pushed None P h = tt
if_pushed (Some entry) P h = h
