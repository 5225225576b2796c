use Rattle.std.proofs.Common.{◌≡◌, ◌++◌, take, drop, map as list_map}
use Rattle.ck_model.specs.Cells.{mark_entry}
use Rattle.ck_plain.proofs.marks.mark_blocks.Given as goal

abbrev pub invariant-loop-entry : goal.invariant-loop-entry
invariant-loop-entry l =
    l.entry-items ≡ list_map mark_entry (take l.entry-index l.initial.entry-items) ++ drop l.entry-index l.initial.entry-items
