use Rattle.std.proofs.Common.{◌≡◌, true, nat_eq, Some, IfSome, sym, ap, subst, ◌∙◌, arith}
use Rattle.std.proofs.lemmas.Bool.Decides.{nat_tests}
use Rattle.ck_model.specs.Key.{is_name_in}
use Rattle.ck_chain.proofs.KeysLeftLaws.{left_smaller}
use Rattle.ck_tree.proofs.ChildrenLemmas.{NoneBefore, none_first, none_next, none_at_all, some_name}
use Rattle.ck_tree.proofs.directory.has_names.Goals as goal

pub loop-here-init : goal.loop-here-init
loop-here-init g c =
    let t = g.M.Meta.table c.args.meta.now in
    let node = c.args.node in
    let self : nat_eq node node ≡ true = grind (arith, nat_tests) in
    record {
      name = ap (is_name_in node) c.least_name.ensures ∙ self;
      none = λ cells lawful stands.
          subst (λ k. NoneBefore t c.args.fs cells lawful stands node (Some k)) (sym c.least_name.ensures) (none_first t c.args.fs cells lawful stands node);
    }

pub returns-then-stands_at : goal.returns-then-stands_at
returns-then-stands_at g c = λ cells stands.
    let t = g.M.Meta.table c.args.meta.now in
    let inside = subst (λ o. IfSome o (λ key. is_name_in c.args.node key ≡ true)) c.in-Some.is c.loop-here.invariant.name in
    sym (some_name t c.args.fs cells (g.met.M.Meta.lawful c.args.meta.now) stands c.args.node c.in-Some.name inside (sym (c.stands_at.ensures cells stands) ∙ c.if-stands_at.true))

pub loop-here-smaller : goal.loop-here-smaller
loop-here-smaller g c =
    left_smaller (g.M.Meta.table c.args.meta.now) c.loop-here.here c.in-Some.name c.next_name-here.result c.in-Some.is c.next_name-here.ensures.next.behind c.next_name-here.ensures.next.held

pub loop-here-preserved : goal.loop-here-preserved
loop-here-preserved g c =
    let t = g.M.Meta.table c.args.meta.now in
    record {
      name = c.next_name-here.ensures.name;
      none = λ cells lawful stands.
          none_next t c.args.fs cells lawful stands c.args.node c.in-Some.name c.next_name-here.result c.next_name-here.ensures.next (sym (c.stands_at.ensures cells stands) ∙ c.if-stands_at.false)
          (subst (λ o. NoneBefore t c.args.fs cells lawful stands c.args.node o) c.in-Some.is (c.loop-here.invariant.none cells lawful stands));
    }

pub returns : goal.returns
returns g c = λ cells stands.
    let t = g.M.Meta.table c.args.meta.now in
    let lawful = g.met.M.Meta.lawful c.args.meta.now in
    sym (none_at_all t c.args.fs cells lawful stands c.args.node (subst (λ o. NoneBefore t c.args.fs cells lawful stands c.args.node o) c.in_default.is (c.loop-here.invariant.none cells lawful stands)))
