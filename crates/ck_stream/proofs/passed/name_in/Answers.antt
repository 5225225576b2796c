use Rattle.std.proofs.Common.{◌≡◌, true, false, refl, sym, ◌∙◌}
use Rattle.ck_stream.specs.Parsed.{is_file_name, file_name_at}
use Rattle.ck_stream.proofs.Names.{is_test}
use Rattle.ck_stream.proofs.passed.name_in.Goals as goal

pub returns-then-not-is_file_name : goal.returns-then-not-is_file_name
unfolding file_name_at
returns-then-not-is_file_name c =
    let test : is_file_name c.in_ok-name.name.now ≡ false = sym (is_test c.is_file_name.result c.in_ok-name.name.now c.is_file_name.ensures) ∙ c.if-not-is_file_name.true in
    rw (c.in_ok-name.ensures.found, test) refl

pub returns : goal.returns
unfolding file_name_at
returns c =
    let test : is_file_name c.in_ok-name.name.now ≡ true = sym (is_test c.is_file_name.result c.in_ok-name.name.now c.is_file_name.ensures) ∙ c.if-not-is_file_name.false in
    rw (c.in_ok-name.ensures.found, test) refl
