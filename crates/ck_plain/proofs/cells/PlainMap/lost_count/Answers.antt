use Rattle.std.proofs.Common.{rules}
use Rattle.ck_model.specs.Cells.{is_gone_in}
use Rattle.ck_plain.proofs.CountLemmas.{counted}
use Rattle.ck_plain.proofs.cells.PlainMap.lost_count.Goals as goal

pub returns : goal.returns
returns c = counted c.args.self.now (is_gone_in c.args.newer.now) c.count.result (search rules)
