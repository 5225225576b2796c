use Rattle.std.proofs.Common.{◌<◌, sym, subst}
use Rattle.ck_files.proofs.PlacedLemmas.{few_of_plan}
use Rattle.ck_files.proofs.room.room_left.Goals as goal

pub lack-requires-clause-few_blocks : goal.lack-requires-clause-few_blocks
lack-requires-clause-few_blocks g c = subst (λ n. n < 2147483648) (sym c.cost-cost.ensures.blocks) (few_of_plan (g.M.Meta.table c.drain.new.meta) c.args.changes.now c.requires.few).1

pub lack-requires-clause-few_records : goal.lack-requires-clause-few_records
lack-requires-clause-few_records g c = subst (λ n. n < 2147483648) (sym c.cost-cost.ensures.records) (few_of_plan (g.M.Meta.table c.drain.new.meta) c.args.changes.now c.requires.few).2
