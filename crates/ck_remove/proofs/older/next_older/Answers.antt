use Rattle.std.proofs.Common.{◌≤◌, sym, ap, ◌∙◌, arith}
use Rattle.std.specs.Option.{option_or}
use Rattle.std.proofs.lemmas.Bool.Decides.{nat_tests}
use Rattle.ck_remove.proofs.OlderLemmas.{none_next}
use Rattle.ck_remove.proofs.older.next_older.Goals as goal

pub returns-then-id-fs : goal.returns-then-id-fs
returns-then-id-fs g c =
    let high : c.args.fs ≤ c.in-Some.id = grind (arith, nat_tests) in
    sym (c.loop-id.invariant ∙ ap (λ o. option_or o c.loop-id.found) (none_next (g.M.Meta.table c.args.meta.now) c.args.fs c.loop-id.at c.in-Some.id high c.in-Some.ensures.next))
