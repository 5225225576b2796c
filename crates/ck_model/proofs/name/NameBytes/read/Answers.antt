use Rattle.std.proofs.Common.{rules}
use Rattle.ck_model.specs.Name.{IsName, stored_name}
use Rattle.ck_model.proofs.name.NameBytes.read.Goals as goal

pub invariant_of-result : goal.invariant_of-result
invariant_of-result c =
    let name : IsName c.args.bytes.now = search rules in
    rw c.copy_from_slice.ensures.after (stored_name c.args.bytes.now name)
