use Rattle.std.proofs.Common.{◌∙◌, sym}
use Rattle.ck_stream.specs.Right.{changes}
use Rattle.ck_merge.specs.Merged.{merged, records}
use Rattle.ck_merge.proofs.MergedLaws.{merged_alone, same_items}
use Rattle.ck_merge.proofs.merged.Merged.of.Goals as goal

pub returns : goal.returns
returns c =
    let changed = c.args.changed in
    let made = c.in_ok-set_all.ensures.made ∙ (λ i. merged (changes (records (c.new-items.ensures.empty i))) (changes (c.into_vec.ensures i))) in
    let items = same_items (records c.set_all.new.items.entries) changed.items (made ∙ sym (merged_alone (changes changed.items) c.requires.items.ascend)) in
    λ i. record { from = changed.from; to = changed.to; items = items i }
