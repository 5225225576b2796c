use Rattle.std.proofs.Common.{rules}
use Rattle.ck_model.specs.Key.{is_block}
use Rattle.ck_plain.proofs.CountLemmas.{counted}
use Rattle.ck_plain.proofs.cells.PlainMap.block_count.Goals as goal

pub returns : goal.returns
returns c = counted c.args.self.now (is_block) c.count.result (search rules)
