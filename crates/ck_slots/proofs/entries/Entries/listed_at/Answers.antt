use Rattle.std.proofs.Common.{◌≡◌, ◌<◌, Some, length, get_or, arith, ap, subst, ◌∙◌}
use Rattle.std.specs.List.{slice_get}
use Rattle.std.proofs.lemmas.Option.{slice_get-get_or}
use Rattle.ck_slots.specs.Arranged.{arranged, entry_of}
use Rattle.ck_slots.specs.Order.{numbers_in}
use Rattle.ck_slots.proofs.ArrangedLemmas.{len-entries_of, entries-entries_of, length-arranged, get_or-arranged}
use Rattle.ck_slots.proofs.OnceLemmas.{in_range}
use Rattle.ck_slots.proofs.entries.Entries.listed_at.Goals as goal

pub bounds-listed-at : goal.bounds-listed-at
bounds-listed-at c = let s = c.args.self.now in omega (arith, c.requires.within, ap length c.requires.listed, len-entries_of s.slots.items (numbers_in s.order) s.sorted)

pub offset_bounds-listed-at : goal.offset_bounds-listed-at
offset_bounds-listed-at c = let s = c.args.self.now in omega (arith, c.requires.within, s.whole, s.fits, s.small, len-entries_of s.slots.items (numbers_in s.order) s.sorted)

pub index-slot-requires : goal.index-slot-requires
index-slot-requires c =
    let s = c.args.self.now in
    let within : c.args.at < length (numbers_in s.order) = omega (arith, c.requires.within, len-entries_of s.slots.items (numbers_in s.order) s.sorted) in
    let inside = in_range (length s.slots.items) (numbers_in s.order) s.free.items s.once c.args.at within in
    omega (arith, inside, ap (λ ns. get_or ns c.args.at 0) c.requires.listed)

pub returns : goal.returns
returns c =
    let s = c.args.self.now in
    let slot = c.index-slot.result.now in
    let es = arranged s.slots.items (numbers_in s.order) in
    let within : c.args.at < length (numbers_in s.order) = omega (arith, c.requires.within, len-entries_of s.slots.items (numbers_in s.order) s.sorted) in
    let inside = in_range (length s.slots.items) (numbers_in s.order) s.free.items s.once c.args.at within in
    let is = get_or-arranged s.slots.items (numbers_in s.order) c.args.at (entry_of slot) slot within inside (subst (λ ns. slot ≡ get_or s.slots.items (get_or ns c.args.at 0) slot) c.requires.listed c.index-slot.ensures) in
    ap (λ xs. slice_get xs c.args.at) (entries-entries_of s.slots.items (numbers_in s.order) s.sorted)
    ∙ slice_get-get_or es c.args.at (entry_of slot) (omega (arith, within, length-arranged s.slots.items (numbers_in s.order)))
    ∙ ap Some is
