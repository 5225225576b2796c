use Rattle.std.proofs.Common.{◌∙◌, length, sym}
use Rattle.ck_log.proofs.Commits.{some_blocks, whole_blocks}
use Rattle.ck_log.proofs.region.Region.commit.Goals as goal

pub put_table-requires-clause-whole : goal.put_table-requires-clause-whole
put_table-requires-clause-whole g c =
    let table = c.args.table.now in
    whole_blocks c.args.self.now table c.requires.whole (some_blocks (length table) (sym c.if-is_empty.false ∙ c.is_empty.ensures))
