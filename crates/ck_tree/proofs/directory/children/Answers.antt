use Rattle.std.proofs.Common.{◌≡◌, ◌++◌, true, nat_eq, Some, IfSome, ap, subst, ◌∙◌, arith}
use Rattle.std.specs.List.{filter_map}
use Rattle.std.specs.Option.{option_to_list}
use Rattle.std.specs.FinMap as map
use Rattle.std.proofs.lemmas.Bool.Decides.{nat_tests}
use Rattle.ck_model.specs.Key.{is_name_in}
use Rattle.ck_model.specs.Contents.{child_in, children}
use Rattle.ck_chain.proofs.KeysLeftLaws.{left_smaller}
use Rattle.ck_tree.proofs.DirectoryLemmas.{left}
use Rattle.ck_tree.proofs.ChildrenLemmas.{children_first, children_next, children_last}
use Rattle.ck_tree.proofs.directory.children.Goals as goal

pub loop-here-init : goal.loop-here-init
loop-here-init g c =
    let t = g.M.Meta.table c.args.meta.now in
    let node = c.args.node in
    let self : nat_eq node node ≡ true = grind (arith, nat_tests) in
    record {
      name = ap (is_name_in node) c.least_name.ensures ∙ self;
      found = λ cells stands.
          (λ i. c.new-found.ensures.items i ++ filter_map (left (child_in cells node) (Some (c.least_name.ensures i))) (map.entries cells))
          ∙ children_first t c.args.fs cells (g.met.M.Meta.lawful c.args.meta.now) stands node;
    }

pub loop-here-smaller : goal.loop-here-smaller
loop-here-smaller g c =
    left_smaller (g.M.Meta.table c.args.meta.now) c.loop-here.here c.in-Some.name c.next_name-here.result c.in-Some.is c.next_name-here.ensures.next.behind c.next_name-here.ensures.next.held

pub loop-here-preserved : goal.loop-here-preserved
loop-here-preserved g c =
    let t = g.M.Meta.table c.args.meta.now in
    let node = c.args.node in
    let inside = subst (λ o. IfSome o (λ key. is_name_in node key ≡ true)) c.in-Some.is c.loop-here.invariant.name in
    record {
      name = c.next_name-here.ensures.name;
      found = λ cells stands.
          ap (λ xs. xs ++ filter_map (left (child_in cells node) c.next_name-here.result) (map.entries cells))
          (c.in_ok-add.ensures ∙ ap (λ o. c.loop-here.found.items ++ option_to_list o) (c.child_at.ensures cells stands))
          ∙ children_next t c.args.fs cells (g.met.M.Meta.lawful c.args.meta.now) stands node c.in-Some.name c.next_name-here.result inside c.next_name-here.ensures.next c.loop-here.found.items
          (subst (λ o. c.loop-here.found.items ++ filter_map (left (child_in cells node) o) (map.entries cells) ≡ children cells node) c.in-Some.is (c.loop-here.invariant.found cells stands));
    }

pub returns : goal.returns
returns g c = λ cells stands.
    let t = g.M.Meta.table c.args.meta.now in
    children_last t c.args.fs cells (g.met.M.Meta.lawful c.args.meta.now) stands c.args.node c.loop-here.found.items
    (subst (λ o. c.loop-here.found.items ++ filter_map (left (child_in cells c.args.node) o) (map.entries cells) ≡ children cells c.args.node) c.in_default.is (c.loop-here.invariant.found cells stands))
