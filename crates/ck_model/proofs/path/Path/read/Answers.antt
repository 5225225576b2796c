use Rattle.std.proofs.Common.{rules, ◌≢◌, ◌∷◌, []}
use Rattle.ck_model.proofs.PathLemmas.{joined_from_path}
use Rattle.ck_model.proofs.path.Path.read.Goals as goal

pub returns-in-None-clause-none : goal.returns-in-None-clause-none
returns-in-None-clause-none c names path e =
    let other : c.args.bytes.now ≢ 47 ∷ [] = search rules in
    let none = rw c.in-None.is at c.in_ok-names.ensures.none in
    none names path.each (joined_from_path names c.args.bytes.now e other)
