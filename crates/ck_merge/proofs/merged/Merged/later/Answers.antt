use Rattle.std.proofs.Common.{◌≡◌, subst, sym, arith}
use Rattle.std.proofs.lemmas.List.{length-map}
use Rattle.ck_stream.specs.declared.stream.Changed.{Changed}
use Rattle.ck_stream.specs.Right.{IsChanged}
use Rattle.ck_merge.proofs.merged.Merged.later.Goals as goal

pub returns-clause-right : goal.returns-clause-right
returns-clause-right c =
    let first = subst IsChanged (sym c.self.view_is) c.requires.first in
    let some = first.some in
    let before = first.order in
    let met = subst (λ (changed : Changed). changed.to ≡ c.args.next.from) (sym c.self.view_is) c.requires.adjacent in
    let after = c.requires.next.order in
    let few = c.in_ok-set_all.ensures.few in
    record {
      some = some;
      order = omega (arith, before, met, after);
      later = c.requires.next.later;
      items = c.in_ok-set_all.ensures.right first.items.each;
      few = rw length-map (omega (arith, few));
    }
