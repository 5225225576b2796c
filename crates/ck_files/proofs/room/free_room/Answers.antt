use Rattle.std.proofs.Common.{◌+◌, sym, ◌∙◌, arith}
use Rattle.ck_files.proofs.AlikeLemmas.{fewer_live, given_up_stands, without_alike, without_both}
use Rattle.ck_files.proofs.GivenLemmas.{comes_alike, comes_further, refused_by}
use Rattle.ck_files.proofs.room.free_room.Goals as goal

pub loop-meta-init : goal.loop-meta-init
loop-meta-init g c =
    let few = c.room_left-answer.ensures.files.ours.sound.orderly.live in
    record {
      without = c.room_left-answer.ensures.alike;
      given = comes_alike (g.M.Meta.table c.args.meta.now) (g.M.Meta.table c.room_left-answer.new.meta) c.args.changes.now c.room_left-answer.ensures.alike;
      files = c.room_left-answer.ensures.files;
      busy = c.room_left-answer.ensures.busy;
      fits = c.room_left-answer.ensures.fits;
      lack = c.room_left-answer.ensures.lack;
      stripped = c.room_left-answer.ensures.stripped;
      few = omega (arith, few);
    }

pub loop-meta-smaller : goal.loop-meta-smaller
loop-meta-smaller g c =
    let t = g.M.Meta.table c.loop-meta.meta in
    let v = g.M.Meta.table c.room_left-answer-in-loop-meta.new.meta in
    let fewer = fewer_live t (g.M.Meta.table c.give_up_next.new.meta) v c.loop-meta.invariant.files.ours.lawful c.room_left-answer-in-loop-meta.ensures.files.ours.lawful
    (c.give_up_next.ensures.given c.if-give_up_next.true) c.room_left-answer-in-loop-meta.ensures.alike in
    omega (arith, fewer)

pub loop-meta-preserved : goal.loop-meta-preserved
loop-meta-preserved g c =
    let old = g.M.Meta.table c.args.meta.now in
    let t = g.M.Meta.table c.loop-meta.meta in
    let u = g.M.Meta.table c.give_up_next.new.meta in
    let v = g.M.Meta.table c.room_left-answer-in-loop-meta.new.meta in
    let changes = c.args.changes.now in
    let stood = c.loop-meta.invariant in
    let up = c.give_up_next.ensures.given c.if-give_up_next.true in
    let next = c.room_left-answer-in-loop-meta.ensures in
    let lack = (refused_by c.loop-meta.answer (sym c.is_err.ensures.value ∙ c.loop-meta-test.true) stood.lack).1 in
    let fewer = fewer_live t u v stood.files.ours.lawful next.files.ours.lawful up next.alike in
    let few = stood.few in
    record {
      without = without_alike (c.loop-meta.count + 1) old u v (without_both c.loop-meta.count 1 old t u stood.without (given_up_stands t u stood.files.ours.lawful up)) next.alike;
      given = comes_further c.loop-meta.count old t u v changes stood.without stood.given stood.files.ours lack.drained lack.full up next.alike;
      files = next.files;
      busy = λ block busy. next.busy block (stood.busy block busy);
      fits = next.fits;
      lack = next.lack;
      stripped = next.stripped;
      few = omega (arith, fewer, few);
    }
