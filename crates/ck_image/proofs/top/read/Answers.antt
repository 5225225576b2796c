use Rattle.ck_image.proofs.TooLong.{is_too_long}
use Rattle.ck_image.proofs.top.read.Goals as goal

pub returns-in-Err-TooLong-clause-fault : goal.returns-in-Err-TooLong-clause-fault
returns-in-Err-TooLong-clause-fault g c =
    let at = c.in-Err-TooLong in
    is_too_long c.args.command (g.S.Source.means c.args.source.now) (g.S.Source.means c.read_all.new.source) at.field-0-0.items c.refused.result c.refused.ensures
    (rw at.field-0-is at at.ensures.carried) (rw at.field-0-is at at.ensures.one_more)
