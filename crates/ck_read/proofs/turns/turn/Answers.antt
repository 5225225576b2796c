use Rattle.std.proofs.Common.{sym, ◌∙◌}
use Rattle.ck_read.specs.Block.{map_on, store_on}
use Rattle.ck_read.proofs.ProgressLaws.{fits_more, turns_more, one_more_had}
use Rattle.ck_read.proofs.turns.turn.Goals as goal

pub returns-in-Ok-clause-fits : goal.returns-in-Ok-clause-fits
returns-in-Ok-clause-fits g c = λ told.
    fits_more (map_on (store_on (g.D.Disk.means c.args.disk.now).shows c.args.base) (g.M.Meta.table c.args.meta.now) c.args.progress.now.ckpt)
    c.args.progress.now c.read_block.new.self c.in-Ok.ensures.others c.in-Ok.ensures.count (c.in-Ok.ensures.bytes told)

pub returns-in-Ok-2-clause-fits : goal.returns-in-Ok-2-clause-fits
returns-in-Ok-2-clause-fits g c = λ told.
    fits_more (map_on (store_on (g.D.Disk.means c.args.disk.now).shows c.args.base) (g.M.Meta.table c.args.meta.now) c.args.progress.now.ckpt)
    c.args.progress.now c.read_block.new.self c.in-Ok-2.ensures.others c.in-Ok-2.ensures.count (c.in-Ok-2.ensures.bytes told)

pub returns-in-Ok-2-clause-more : goal.returns-in-Ok-2-clause-more
returns-in-Ok-2-clause-more g c = λ more.
    turns_more c.args.progress.now c.read_block.new.self c.in-Ok-2.ensures.others c.in-Ok-2.ensures.count (sym c.is_through.ensures ∙ c.if-is_through.false)

pub returns-in-Ok-2-clause-had : goal.returns-in-Ok-2-clause-had
returns-in-Ok-2-clause-had g c = λ more.
    let p = c.args.progress.now in
    let q = c.read_block.new.self in
    one_more_had p q c.in-Ok-2.ensures.others (turns_more p q c.in-Ok-2.ensures.others c.in-Ok-2.ensures.count (sym c.is_through.ensures ∙ c.if-is_through.false))
