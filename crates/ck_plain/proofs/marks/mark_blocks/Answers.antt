use Rattle.std.proofs.Common.{◌≡◌, ◌++◌, ◌<◌, length, take, drop, map as list_map, slice_set, sym, ap, ◌∙◌, arith}
use Rattle.std.proofs.lemmas.Grind.{common_steps}
use Rattle.std.proofs.lemmas.List.Edits.{map_over_more}
use Rattle.std.proofs.lemmas.List.{take_all, drop_all}
use Rattle.ck_model.specs.Cells.{mark_entry}
use Rattle.ck_model.proofs.MarkLaws.{edits_marked}
use Rattle.ck_plain.proofs.marks.mark_blocks.Goals as goal

pub loop-entry-preserved : goal.loop-entry-preserved
loop-entry-preserved c =
    let before = c.deref_mut-entry-items.result.now in
    let within : c.loop-entry.entry-index < length before = omega arith in
    ap (slice_set c.loop-entry.entry-items c.loop-entry.entry-index) (c.mark.ensures ∙ ap mark_entry (sym c.entry-item.is))
    ∙ map_over_more mark_entry before c.loop-entry.entry-items c.loop-entry.entry-index c.entry-item.result within c.loop-entry.invariant c.entry-item.is

pub returns : goal.returns
returns c =
    let es = c.args.entries.now.items in
    let marked : c.loop-entry.entry-items ≡ list_map mark_entry es = grind (arith, common_steps, take_all, drop_all) in
    let new : take c.args.entries.now.len (c.loop-entry.entry-items ++ drop (length c.loop-entry.entry-items) es) ≡ c.loop-entry.entry-items = grind (arith, common_steps, take_all, drop_all) in
    edits_marked es _ c.requires (new ∙ marked)
