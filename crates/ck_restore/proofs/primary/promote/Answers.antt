use Rattle.std.proofs.Common.{◌<◌, sym, subst}
use Rattle.ck_model.specs.Table.{spare_count}
use Rattle.ck_restore.proofs.PromotedLemmas.{room_after}
use Rattle.ck_restore.proofs.primary.promote.Goals as goal

pub set_primary-requires-clause-room : goal.set_primary-requires-clause-room
set_primary-requires-clause-room g c =
    subst (λ u. 0 < spare_count u) (sym c.del.ensures) (room_after (g.M.Meta.table c.args.meta.now) c.args.fs c.args.key.now (g.met.M.Meta.sized c.args.meta.now) c.requires)
