use Rattle.std.proofs.Common.{◌<◌, ◌+◌, inl, refl, sym, ap, subst, ◌∙◌}
use Rattle.ck_model.specs.History.{call_at}
use Rattle.ck_script.specs.Numbered.{calls_in}
use Rattle.ck_volume.specs.declared.event.Progress.{Progress}
use Rattle.ck_volume.specs.Turn.{UnlessStrip}
use Rattle.ck_volume.specs.Volume.{history_of, origin_of, room_of, table_of, told_of}
use Rattle.ck_actor.specs.Actor.{turns_left}
use Rattle.ck_actor.proofs.ActorLemmas.{at_end_rests, no_call_behind, room_unless_strip}
use Rattle.ck_actor.proofs.actor.Actor.act.Goals as goal

pub event-requires-clause-room : goal.event-requires-clause-room
event-requires-clause-room g c =
    let actor = c.args.self.now in
    let room = room_of c.args.volume.now in
    subst (λ (p : Progress). UnlessStrip p (0 < room)) (sym c.note_moment.ensures.progress)
    (room_unless_strip c.args.lines.now actor.place actor.progress room c.if-self-lines.true c.requires.found.own c.requires.room)

pub returns-else-self-lines-clause-turn : goal.returns-else-self-lines-clause-turn
returns-else-self-lines-clause-turn g c = λ at stood.
    let place = c.args.self.now.place in
    record {
      next = at;
      stands = stood;
      turn = inl (record {
        none = ap (λ n. call_at (calls_in c.args.lines.now) place.actor (n + 1)) stood.through ∙ no_call_behind c.args.lines.now place.line place.actor c.if-self-lines.false;
        standing = refl;
        history = refl;
      });
    }

pub returns-else-self-lines-clause-fewer : goal.returns-else-self-lines-clause-fewer
returns-else-self-lines-clause-fewer g c =
    let volume = c.args.volume.now in
    let actor = c.args.self.now in
    at_end_rests (g.D.Disk.means (origin_of volume)) (told_of volume) c.args.lines.now (history_of volume) actor.place actor.progress (turns_left actor.progress (table_of volume) < turns_left actor.progress (table_of volume)) c.if-self-lines.false c.requires.stands.on_way
