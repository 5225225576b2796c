use Rattle.std.proofs.Common.{◌≡◌, ◌≤◌, List, IsTrue, length, sym, ap, subst, ◌∙◌, arith}
use Rattle.std.specs.List.{AllByRecursion}
use Rattle.std.proofs.lemmas.List.Elements.{recursion_from_All}
use Rattle.ck_io.specs.Clock.{ClockMeaning}
use Rattle.ck_model.specs.declared.entry.Entry.{Entry}
use Rattle.ck_model.specs.History.{IsOfScript}
use Rattle.ck_model.specs.Streams.{Texts}
use Rattle.ck_model.specs.World.{World}
use Rattle.ck_script.specs.declared.line.Line.{Line}
use Rattle.ck_script.specs.Numbered.{calls_in}
use Rattle.ck_engine.specs.Recovery.{Recovers}
use Rattle.ck_volume.specs.Volume.{history_of, origin_of}
use Rattle.ck_actor.specs.declared.actor.Actor.{Actor}
use Rattle.ck_actor.specs.Played.{AreBegun}
use Rattle.ck_actor.specs.Turns.{parsed, Follows}
use Rattle.ck_actor.proofs.EndsLemmas.{first_turned, whole_follows, whole_script}
use Rattle.ck_actor.proofs.script.play.Goals as goal

pub take_all-requires-clause-turned : goal.take_all-requires-clause-turned
take_all-requires-clause-turned g c =
    let script = c.args.script.now in
    let volume = c.reserve.new.self in
    let many : length c.items.result.now ≡ length script.calls = ap (λ (lines : List Line). length lines) c.items.ensures in
    let room = c.in_ok-reserve.ensures.room in
    first_turned g.D.Disk.means (g.C.Clock.means c.args.clock.now) script.calls volume c.deref_mut.result.now
    (subst (λ (actors : List Actor). AreBegun actors) (sym c.deref_mut.ensures.value) c.in_ok-actors.ensures)
    (omega (arith, many, room))
    (c.reserve.ensures.history ∙ c.requires.begun.history_is) (c.reserve.ensures.told ∙ c.requires.told) (c.reserve.ensures.spoilt ∙ c.requires.unspoilt)

pub returns-clause-of_script : goal.returns-clause-of_script
returns-clause-of_script g c =
    let script = c.args.script.now in
    let before = c.take_all.new.volume in
    let among = recursion_from_All (λ (line : Line). (1 ≤ line.actor) × (line.actor ≤ 64)) script.calls script.within.actors in
    subst (λ (es : List Entry). IsOfScript (calls_in script.calls) es) (sym c.drain.ensures.log.history)
    (whole_script g.D.Disk.means (origin_of before) (g.C.Clock.means c.take_all.new.clock) script.calls script.turns c.finish_all.new.volume c.finish_all.new.actors c.finish_all.ensures.finished script.numbered among)

pub returns-clause-moments : goal.returns-clause-moments
returns-clause-moments g c =
    let clock : ClockMeaning = g.C.Clock.means c.args.clock.now in
    let P : ClockMeaning → List Entry → Type 0 = λ m es. IsTrue m.tells → AllByRecursion (λ (entry : Entry). entry.at ≡ m.moment) es in
    subst (λ (es : List Entry). P clock es) (sym c.drain.ensures.log.history)
    (subst (λ (m : ClockMeaning). P m (history_of c.finish_all.new.volume)) c.take_all.ensures.clock c.finish_all.ensures.finished.under_way.played.moments)

pub returns-clause-drained : goal.returns-clause-drained
returns-clause-drained g c = λ none. c.drain.ensures.drained (sym c.drain.ensures.log.broken ∙ none)

pub returns-clause-follows : goal.returns-clause-follows
returns-clause-follows g c =
    let script = c.args.script.now in
    let means = g.D.Disk.means in
    let before = c.take_all.new.volume in
    let after = c.finish_all.new.volume in
    let origin : origin_of before ≡ origin_of c.args.volume.now = c.take_all.ensures.turned.under_way.origin_is ∙ c.reserve.ensures.origin in
    subst (λ (es : List Entry). IsTrue (means (origin_of c.args.volume.now)).tells → (w : World) → Recovers (means (origin_of c.args.volume.now)).shows w → (texts : Texts) → Follows texts (parsed script) w es) (sym c.drain.ensures.log.history)
    (subst (λ (d : g.row.D.Denot). IsTrue (means d).tells → (w : World) → Recovers (means d).shows w → (texts : Texts) → Follows texts (parsed script) w (history_of after)) origin
    (whole_follows means (origin_of before) (g.C.Clock.means c.take_all.new.clock) script.calls script.turns after c.finish_all.new.actors c.finish_all.ensures.finished))
