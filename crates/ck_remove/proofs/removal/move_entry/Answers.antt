use Rattle.std.proofs.Common.{◌<◌, inr, sym, subst}
use Rattle.ck_model.specs.Table.{spare_count}
use Rattle.ck_remove.proofs.RoomLemmas.{room_after}
use Rattle.ck_remove.proofs.removal.move_entry.Goals as goal

pub put-requires-clause-room : goal.put-requires-clause-room
put-requires-clause-room g c =
    inr (subst (λ u. 0 < spare_count u) (sym c.del.ensures) (room_after (g.M.Meta.table c.args.meta.now) c.args.fs c.args.key.now (g.met.M.Meta.sized c.args.meta.now) c.requires.held))
