use Rattle.std.proofs.Common.{sym}
use Rattle.std.specs.FinMap as map
use Rattle.ck_plain.proofs.cells.PlainMap.len.Goals as goal

pub returns : goal.returns
returns c = rw c.entries.ensures (sym (map.len-entries c.args.self.now))
