use Rattle.std.proofs.Common.{◌<◌, length, arith}
use Rattle.std.proofs.lemmas.List.{take_rest}
use Rattle.ck_model.proofs.PathLemmas.{no_names, HasRead-push}
use Rattle.ck_model.proofs.path.read_names.Goals as goal

pub returns-in_default-clause-none : goal.returns-in_default-clause-none
returns-in_default-clause-none c names each e =
    let some : 0 < length c.loop-rest.rest.now = grind arith in
    no_names c.loop-rest.rest.now some c.in_default.ensures.only (c.loop-rest.invariant.only names each e)

pub loop-rest-preserved : goal.loop-rest-preserved
loop-rest-preserved c =
    rw (c.in_ok-push.ensures.items, take_rest, c.bytes.ensures.bytes)
    (HasRead-push c.args.bytes.now c.loop-rest.names.items c.loop-rest.rest.now c.in-Some.name _ c.loop-rest.invariant c.in-Some.ensures.name c.in-Some.ensures.text c.in-Some.ensures.only)
