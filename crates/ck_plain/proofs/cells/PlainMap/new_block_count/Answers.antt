use Rattle.std.proofs.Common.{rules}
use Rattle.std.specs.FinMap as map
use Rattle.ck_model.specs.Space.{is_new_block}
use Rattle.ck_plain.proofs.CountLemmas.{counted}
use Rattle.ck_plain.proofs.cells.PlainMap.new_block_count.Goals as goal

pub returns : goal.returns
returns c = counted c.args.self.now (λ key. is_new_block c.args.stamp key (map.get c.args.self.now key)) c.count.result (search rules)
