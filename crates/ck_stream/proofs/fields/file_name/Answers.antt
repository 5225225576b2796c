use Rattle.std.proofs.Common.{◌∙◌}
use Rattle.ck_stream.proofs.Names.{is_test, chosen}
use Rattle.ck_stream.proofs.fields.file_name.Goals as goal

pub returns : goal.returns
returns c =
    let test = is_test c.is_file_name.result c.in_ok-name.name c.is_file_name.ensures in
    rw (← c.in_ok-name.ensures.value, ← test) (c.then_some.ensures ∙ chosen c.is_file_name.result c.in_ok-name.name)
