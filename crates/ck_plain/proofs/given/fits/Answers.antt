use Rattle.std.proofs.Common.{arith}
use Rattle.ck_plain.proofs.Bounds.{records_beside-fits}
use Rattle.ck_plain.proofs.given.fits.Goals as goal

pub overflow_add-result : goal.overflow_add-result
overflow_add-result c =
    let room = c.args.room.now in
    omega (arith, c.records_beside.ensures, records_beside-fits room.next.now c.args.checkpoints.now c.requires room.few_next, room.few_records)
