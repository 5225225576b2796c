use Rattle.std.proofs.Common.{rules}
use Rattle.ck_model.specs.Cells.{is_new_in}
use Rattle.ck_plain.proofs.CountLemmas.{counted}
use Rattle.ck_plain.proofs.cells.PlainMap.changed_count.Goals as goal

pub returns : goal.returns
returns c = counted c.args.self.now (is_new_in c.args.older.now c.args.self.now) c.count.result (search rules)
