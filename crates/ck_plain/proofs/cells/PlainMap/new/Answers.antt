use Rattle.std.proofs.Common.{ap, ◌∙◌}
use Rattle.std.specs.FinMap as map
use Rattle.ck_model.specs.Key.{key_cmp}
use Rattle.ck_model.proofs.PlaceLaws.{from_nothing}
use Rattle.ck_plain.proofs.cells.PlainMap.new.Goals as goal

pub returns : goal.returns
returns c = ap (map.from_sorted {R = key_cmp}) c.new.ensures.items ∙ from_nothing
