use Rattle.std.proofs.Common.{◌≡◌, length}
use Rattle.std.specs.List.{AllByRecursion}
use Rattle.std.specs.Option.{option_or}
use Rattle.std.specs.FinMap.{find}
use Rattle.std.specs.Vec.Iter.{into_iter_items, into_iter_len}
use Rattle.ck_model.specs.declared.key.Key.{Key}
use Rattle.ck_model.specs.Key.{key_cmp}
use Rattle.ck_stream.specs.Right.{IsItem, AreItems, changes}
use Rattle.ck_merge.specs.Merged.{records, change_at}
use Rattle.ck_merge.proofs.merged.set_all.Given as goal

abbrev pub invariant-loop-change : goal.invariant-loop-change
invariant-loop-change l = record {
  held : (key : Key) → option_or (find key_cmp key (changes (into_iter_items l.change-iterator))) (change_at l.items key) ≡ option_or (find key_cmp key (changes (into_iter_items l.initial.change-iterator))) (change_at l.initial.items key);
  right : AreItems (into_iter_items l.change-iterator);
  each : AllByRecursion IsItem (records l.initial.items.entries) → AllByRecursion IsItem (records l.items.entries);
  len : into_iter_len l.change-iterator ≡ length (into_iter_items l.change-iterator);
}
