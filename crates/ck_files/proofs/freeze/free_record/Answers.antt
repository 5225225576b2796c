use Rattle.std.proofs.Common.{◌+◌, sym, ap, ◌∙◌, arith}
use Rattle.ck_model.specs.Step.{created}
use Rattle.ck_model.specs.TableWorld.{world_on}
use Rattle.ck_files.specs.Room.{given_before}
use Rattle.ck_files.proofs.AlikeLemmas.{fewer_live, given_up_stands, without_alike, without_both}
use Rattle.ck_files.proofs.RecordLemmas.{creates_alike, creates_further}
use Rattle.ck_files.proofs.freeze.free_record.Goals as goal

pub loop-meta-init : goal.loop-meta-init
loop-meta-init g c =
    let few = c.drain.ensures.ours.sound.orderly.live in
    record {
      without = c.drain.ensures.alike;
      creates = creates_alike (g.M.Meta.table c.args.meta.now) (g.M.Meta.table c.drain.new.meta) c.drain.ensures.alike;
      ours = c.drain.ensures.ours;
      allocated = c.drain.ensures.allocated;
      busy = c.drain.ensures.busy;
      drained = c.drain.ensures.drained;
      stripped = c.drain.ensures.stripped;
      few = omega (arith, few);
    }

pub loop-meta-smaller : goal.loop-meta-smaller
loop-meta-smaller g c =
    let t = g.M.Meta.table c.loop-meta.meta in
    let v = g.M.Meta.table c.drain-in-loop-meta.new.meta in
    let fewer = fewer_live t (g.M.Meta.table c.give_up_next.new.meta) v c.loop-meta.invariant.ours.lawful c.drain-in-loop-meta.ensures.ours.lawful
    (c.give_up_next.ensures.given c.if-give_up_next.true) c.drain-in-loop-meta.ensures.alike in
    omega (arith, fewer)

pub loop-meta-preserved : goal.loop-meta-preserved
loop-meta-preserved g c =
    let old = g.M.Meta.table c.args.meta.now in
    let t = g.M.Meta.table c.loop-meta.meta in
    let u = g.M.Meta.table c.give_up_next.new.meta in
    let v = g.M.Meta.table c.drain-in-loop-meta.new.meta in
    let stood = c.loop-meta.invariant in
    let up = c.give_up_next.ensures.given c.if-give_up_next.true in
    let next = c.drain-in-loop-meta.ensures in
    let fewer = fewer_live t u v stood.ours.lawful next.ours.lawful up next.alike in
    let few = stood.few in
    record {
      without = without_alike (c.loop-meta.count + 1) old u v (without_both c.loop-meta.count 1 old t u stood.without (given_up_stands t u stood.ours.lawful up)) next.alike;
      creates = creates_further c.loop-meta.count old t u v stood.creates stood.ours stood.drained (sym c.spare-in-loop-meta.ensures ∙ c.loop-meta-test.true) up next.alike;
      ours = next.ours;
      allocated = next.allocated;
      busy = λ block busy. next.busy block (stood.busy block busy);
      drained = next.drained;
      stripped = next.stripped;
      few = omega (arith, fewer, few);
    }

pub returns-after-loop-meta-clause-given : goal.returns-after-loop-meta-clause-given
returns-after-loop-meta-clause-given g c store mounts name nodata removable at id ok = (c.loop-meta.invariant.creates store mounts name nodata removable at id ok).comes

pub returns-else-give_up_next-clause-given : goal.returns-else-give_up_next-clause-given
returns-else-give_up_next-clause-given g c store mounts name nodata removable at id ok =
    (c.loop-meta.invariant.creates store mounts name nodata removable at id ok).comes
    ∙ ap (λ t. given_before c.loop-meta.count (created (world_on store mounts t) name nodata removable at)) (sym (c.give_up_next.ensures.untouched c.if-give_up_next.false))
