use Rattle.std.proofs.Common.{◌≤◌, ◌+◌, ℕ, List, length, take as list_take, refl, sym, subst, ◌∙◌}
use Rattle.std.proofs.lemmas.List.{take_all}
use Rattle.ck_volume.specs.Volume.{origin_of}
use Rattle.ck_actor.specs.Played.{AreTurned}
use Rattle.ck_actor.proofs.EndsLemmas.{turned_from}
use Rattle.ck_actor.proofs.script.take_all.Goals as goal

pub loop-at-init : goal.loop-at-init
loop-at-init g c = record { turned = c.requires.turned; clock = refl }

pub take-requires-clause-turned : goal.take-requires-clause-turned
take-requires-clause-turned g c =
    let script = c.args.script.now in
    let inv = c.loop-at.invariant in
    let volume = c.loop-at.volume in
    turned_from g.D.Disk.means (origin_of c.args.volume.now) (origin_of volume) (g.C.Clock.means c.args.clock.now) (g.C.Clock.means c.loop-at.clock) script.calls (list_take c.loop-at.at script.turns) volume c.loop-at.actors
    (sym inv.turned.under_way.origin_is) (sym inv.clock) inv.turned

pub loop-at-preserved : goal.loop-at-preserved
loop-at-preserved g c =
    let script = c.args.script.now in
    let inv = c.loop-at.invariant in
    let volume = c.loop-at.volume in
    record {
      turned = turned_from g.D.Disk.means (origin_of volume) (origin_of c.args.volume.now) (g.C.Clock.means c.loop-at.clock) (g.C.Clock.means c.args.clock.now) script.calls (list_take (c.loop-at.at + 1) script.turns) c.take.new.volume c.take.new.actors
          inv.turned.under_way.origin_is inv.clock c.take.ensures.turned;
      clock = c.take.ensures.clock ∙ inv.clock;
    }

pub returns-clause-turned : goal.returns-clause-turned
returns-clause-turned g c =
    let script = c.args.script.now in
    let past : length script.turns ≤ c.loop-at.at = subst (λ (xs : List ℕ). length xs ≤ c.loop-at.at) c.items-at-end.ensures c.loop-at-test.false in
    subst (λ turns. AreTurned g.D.Disk.means (origin_of c.args.volume.now) (g.C.Clock.means c.args.clock.now) script.calls turns c.loop-at.volume c.loop-at.actors)
    (take_all c.loop-at.at script.turns past) c.loop-at.invariant.turned
