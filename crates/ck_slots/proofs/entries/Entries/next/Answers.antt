use Rattle.std.proofs.Common.{◌≡◌, ◌∷◌, [], Some, MatchOption, length, sym, subst}
use Rattle.std.specs.Option.{option_copied}
use Rattle.ck_slots.specs.Arranged.{arranged}
use Rattle.ck_slots.specs.NextKey.{keys_behind}
use Rattle.ck_slots.specs.Order.{numbers_in}
use Rattle.ck_slots.proofs.ArrangedLemmas.{entries-entries_of}
use Rattle.ck_slots.proofs.OnceLemmas.{in_range}
use Rattle.ck_slots.proofs.entries.Entries.next.Goals as goal

pub next_key-requires-clause-within : goal.next_key-requires-clause-within
next_key-requires-clause-within c =
    let s = c.args.self.now in
    rw c.deref.ensures.value (in_range (length s.slots.items) (numbers_in s.order) s.free.items s.once)

pub returns : goal.returns
returns c =
    let s = c.args.self.now in
    let after = option_copied c.args.after in
    let next : MatchOption c.next_key.result (keys_behind (arranged s.slots.items (numbers_in s.order)) c.args.fileset after ≡ []) (λ key. keys_behind (arranged s.slots.items (numbers_in s.order)) c.args.fileset after ≡ key ∷ keys_behind (arranged s.slots.items (numbers_in s.order)) c.args.fileset (Some key)) =
    rw c.deref.ensures.value at c.next_key.ensures in
    subst (λ es. MatchOption c.next_key.result (keys_behind es c.args.fileset after ≡ []) (λ key. keys_behind es c.args.fileset after ≡ key ∷ keys_behind es c.args.fileset (Some key))) (sym (entries-entries_of s.slots.items (numbers_in s.order) s.sorted)) next
