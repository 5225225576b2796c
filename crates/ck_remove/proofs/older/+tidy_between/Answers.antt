use Rattle.std.proofs.Common.{◌≤◌, sym, ap, arith}
use Rattle.std.proofs.lemmas.Bool.Decides.{nat_tests}
use Rattle.ck_remove.specs.Removal.{tidied_each}
use Rattle.ck_remove.proofs.OlderLemmas.{none_at}
use Rattle.ck_remove.proofs.older.+tidy_between.Goals as goal

pub returns-else-id-end-clause-tidied : goal.returns-else-id-end-clause-tidied
returns-else-id-end-clause-tidied g t c =
    let table = g.M.Meta.table c.args.meta.now in
    let high : c.args.end ≤ c.in-Some.id = grind (arith, nat_tests) in
    ap (tidied_each table c.args.key.now) (sym (none_at table c.args.end c.args.at c.in-Some.id high c.in-Some.ensures.next))
