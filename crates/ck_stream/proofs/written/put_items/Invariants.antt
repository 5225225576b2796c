use Rattle.std.proofs.Common.{◌≡◌, ◌++◌, take}
use Rattle.ck_stream.specs.Written.{items_text}
use Rattle.ck_stream.proofs.written.put_items.Given as goal

abbrev pub invariant-loop-item : goal.invariant-loop-item
invariant-loop-item l = l.out.items ≡ l.initial.out.items ++ items_text (take l.item-index l.items)
