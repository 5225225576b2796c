use Rattle.std.proofs.Common.{◌≡◌, ◌+◌, None, get_or, sym, ap, ◌∙◌, arith, below_more}
use Rattle.std.proofs.lemmas.List.{get_or_default}
use Rattle.ck_area.specs.Area.{filesets_by}
use Rattle.ck_area.specs.Damage.{live_count}
use Rattle.ck_area.specs.Split.{crowds}
use Rattle.ck_area.proofs.SlotLemmas.{live_more}
use Rattle.ck_area.proofs.crowd.first_crowd.Goals as goal

pub loop-at-preserved : goal.loop-at-preserved
loop-at-preserved c =
    let area = c.args.area.now in
    let at = c.loop-at.at in
    let slot = c.index-area-at.result in
    let more = live_more area at slot c.loop-at-test.true c.index-area-at.is in
    let read : slot ≡ get_or area at None = c.index-area-at.is ∙ get_or_default area at slot None c.loop-at-test.true in
    let here = ap (λ n. crowds n (get_or area at None)) (sym c.loop-at.invariant.count) ∙ ap (crowds c.loop-at.count) (sym read) ∙ sym c.crowds.ensures ∙ c.if-crowds.false in
    record {
      count = sym (more ∙ ap (λ n. n + live_count (filesets_by slot)) (sym c.loop-at.invariant.count) ∙ ap (λ n. c.loop-at.count + n) (sym c.live-count.ensures.value));
      few = omega (arith, c.loop-at.invariant.few, c.live-count.ensures.few);
      none = below_more _ _ c.loop-at.invariant.none here;
    }
