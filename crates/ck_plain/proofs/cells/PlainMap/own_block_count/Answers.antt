use Rattle.std.proofs.Common.{◌&&◌, rules}
use Rattle.std.specs.FinMap as map
use Rattle.ck_model.specs.Key.{is_block}
use Rattle.ck_model.specs.Cells.{differs}
use Rattle.ck_plain.proofs.CountLemmas.{counted}
use Rattle.ck_plain.proofs.cells.PlainMap.own_block_count.Goals as goal

pub returns : goal.returns
returns c = counted c.args.self.now (λ key. is_block key && differs (map.get c.args.self.now key) (map.get c.args.next.now key)) c.count.result (search rules)
