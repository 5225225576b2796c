use Rattle.std.proofs.Common.{arith, length-take, length-drop}
use Rattle.ck_record.proofs.fields.get_name.Goals as goal

pub returns-then-count-gt-NAME_LIMIT : goal.returns-then-count-gt-NAME_LIMIT
returns-then-count-gt-NAME_LIMIT c name =
    let few = simp (length-take, length-drop) at name.few in
    omega (arith, c.told-bytes, c.from-count.ensures, c.if-count-gt-NAME_LIMIT.true)
