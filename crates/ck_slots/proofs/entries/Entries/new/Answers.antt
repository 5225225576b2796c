use Rattle.std.proofs.Common.{ap, ◌∙◌}
use Rattle.ck_model.proofs.PlaceLaws.{from_nothing}
use Rattle.ck_slots.specs.Arranged.{entries_of}
use Rattle.ck_slots.proofs.entries.Entries.new.Goals as goal

pub returns-clause-entries : goal.returns-clause-entries
returns-clause-entries c = ap (entries_of c.in_ok-with_capacity.field-0.items) c.in_ok-new.ensures.numbers ∙ from_nothing
