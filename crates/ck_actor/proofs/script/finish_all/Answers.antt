use Rattle.ck_script.specs.declared.line.Line.{Line}
use Rattle.std.proofs.Common.{◌≡◌, ◌≤◌, ◌+◌, List, length, refl, sym, subst, ◌∙◌, arith}
use Rattle.ck_volume.specs.Volume.{origin_of}
use Rattle.ck_actor.specs.Played.{AreFinished}
use Rattle.ck_actor.proofs.EndsLemmas.{finished_from, first_finished}
use Rattle.ck_actor.proofs.script.finish_all.Goals as goal

pub loop-line-init : goal.loop-line-init
loop-line-init g c =
    let script = c.args.script.now in
    record {
      finished = first_finished g.D.Disk.means (origin_of c.args.volume.now) (g.C.Clock.means c.args.clock.now) script.calls script.turns c.args.volume.now c.args.actors.now c.requires.turned;
      clock = refl;
    }

pub finish-requires-clause-finished : goal.finish-requires-clause-finished
finish-requires-clause-finished g c =
    let script = c.args.script.now in
    let inv = c.loop-line.invariant in
    let volume = c.loop-line.volume in
    finished_from g.D.Disk.means (origin_of c.args.volume.now) (origin_of volume) (g.C.Clock.means c.args.clock.now) (g.C.Clock.means c.loop-line.clock) script.calls script.turns c.loop-line.line volume c.loop-line.actors
    (sym inv.finished.under_way.origin_is) (sym inv.clock) inv.finished

pub loop-line-preserved : goal.loop-line-preserved
loop-line-preserved g c =
    let script = c.args.script.now in
    let inv = c.loop-line.invariant in
    let volume = c.loop-line.volume in
    record {
      finished = finished_from g.D.Disk.means (origin_of volume) (origin_of c.args.volume.now) (g.C.Clock.means c.loop-line.clock) (g.C.Clock.means c.args.clock.now) script.calls script.turns (c.loop-line.line + 1) c.finish.new.volume c.finish.new.actors
          inv.finished.under_way.origin_is inv.clock c.finish.ensures.finished;
      clock = c.finish.ensures.clock ∙ inv.clock;
    }

pub returns-clause-finished : goal.returns-clause-finished
returns-clause-finished g c =
    let script = c.args.script.now in
    let past : length script.calls ≤ c.loop-line.line = subst (λ (xs : List Line). length xs ≤ c.loop-line.line) c.items-line-end.ensures c.loop-line-test.false in
    let low : c.loop-line.line ≤ length script.calls = subst (λ (xs : List Line). c.loop-line.line ≤ length xs) c.items-line-end.ensures (omega (arith, c.loop-line.auto.line-end)) in
    let is : c.loop-line.line ≡ length script.calls = omega (arith, past, low) in
    subst (λ n. AreFinished g.D.Disk.means (origin_of c.args.volume.now) (g.C.Clock.means c.args.clock.now) script.calls script.turns n c.loop-line.volume c.loop-line.actors) is c.loop-line.invariant.finished
