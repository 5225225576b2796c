use Rattle.std.proofs.Common.{◌≡◌, ◌<◌, Some, length, get_or, arith, ap, subst, ◌∙◌}
use Rattle.std.specs.List.{slice_get}
use Rattle.std.proofs.lemmas.Option.{slice_get-get_or}
use Rattle.ck_slots.specs.Arranged.{arranged, entry_of}
use Rattle.ck_slots.specs.Order.{numbers_in}
use Rattle.ck_slots.proofs.ArrangedLemmas.{len-entries_of, entries-entries_of, length-arranged, get_or-arranged}
use Rattle.ck_slots.proofs.OnceLemmas.{in_range}
use Rattle.ck_slots.proofs.entries.Entries.at.Goals as goal

pub locate-place-requires : goal.locate-place-requires
locate-place-requires c = let s = c.args.self.now in omega (arith, c.requires, len-entries_of s.slots.items (numbers_in s.order) s.sorted)

pub index-slot-requires : goal.index-slot-requires
index-slot-requires c =
    let s = c.args.self.now in
    let within : c.args.at < length (numbers_in s.order) = omega (arith, c.requires, len-entries_of s.slots.items (numbers_in s.order) s.sorted) in
    let inside = in_range (length s.slots.items) (numbers_in s.order) s.free.items s.once c.args.at within in
    let number = c.number.ensures ∙ ap (λ k. get_or (numbers_in s.order) k 0) c.locate-place.ensures.index in
    omega (arith, inside, number)

pub returns : goal.returns
returns c =
    let s = c.args.self.now in
    let slot = c.index-slot.result.now in
    let es = arranged s.slots.items (numbers_in s.order) in
    let within : c.args.at < length (numbers_in s.order) = omega (arith, c.requires, len-entries_of s.slots.items (numbers_in s.order) s.sorted) in
    let inside = in_range (length s.slots.items) (numbers_in s.order) s.free.items s.once c.args.at within in
    let number = c.number.ensures ∙ ap (λ k. get_or (numbers_in s.order) k 0) c.locate-place.ensures.index in
    let is = get_or-arranged s.slots.items (numbers_in s.order) c.args.at (entry_of slot) slot within inside (subst (λ n. slot ≡ get_or s.slots.items n slot) number c.index-slot.ensures) in
    ap (λ xs. slice_get xs c.args.at) (entries-entries_of s.slots.items (numbers_in s.order) s.sorted)
    ∙ slice_get-get_or es c.args.at (entry_of slot) (omega (arith, within, length-arranged s.slots.items (numbers_in s.order)))
    ∙ ap Some is
