-- Room for what is taken over, and what it is.
use Rattle.std.proofs.Common.{◌≡◌, ℕ, ◌+◌, ◌<◌, None, IsSome, IfSome, ap, arith}
use Rattle.ck_model.specs.declared.key.Key.{Key}
use Rattle.ck_model.specs.Held.{IsEntry}
use Rattle.ck_model.specs.Table.{Table, IsSized, IsTable, column, record_count, spare_count, with_entry}
use Rattle.ck_model.specs.Chain.{keeps_data}
use Rattle.ck_model.proofs.CaseLaws.{some_is}
use Rattle.ck_chain.proofs.CountLaws.{record_count-with_entry}
use Rattle.ck_chain.specs.Named.{one_of}
use Rattle.ck_chain.proofs.PushedLaws.{entry_pushed}
use Rattle.ck_remove.specs.Removal.{taken_of}
use Rattle.ck_remove.proofs.OlderLemmas.{taken_cases}

-- a record is free once an entry is away
pub room_after : (t : Table) (fs : ℕ) (key : Key) → IsSized t → IsSome (column t key fs) → 0 < spare_count (with_entry t fs key None)
room_after t fs key sized held =
    let found = some_is (column t key fs) held in
    let one : one_of (column t key fs) ≡ 1 = ap one_of found.1 in
    let count : record_count (with_entry t fs key None) + one_of (column t key fs) ≡ record_count t + 0 = record_count-with_entry t fs key None in
    let fits = sized.fits in
    omega (arith, one, count, fits)

-- what is taken over is an entry that a table may have
pub taken_entry : (t : Table) (fs : ℕ) (key : Key) → IsTable t → IsSome (column t key fs) → IfSome (taken_of t fs key) (λ entry. IsEntry key entry.1)
taken_entry t fs key lawful held =
    let found = some_is (column t key fs) held in
    taken_cases t fs key found.0 (λ taken. IfSome taken (λ entry. IsEntry key entry.1)) lawful found.1
    (λ none. tt)
    (λ n own next there. tt)
    (λ n next bare. entry_pushed (keeps_data t n) key found.0 (lawful.entries fs key found.0 found.1).1)
