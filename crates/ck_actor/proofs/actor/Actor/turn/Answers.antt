use Rattle.std.proofs.Common.{◌≡◌, ◌≤◌, ◌<◌, ◌-◌, ℕ, List, length, sym, ap, subst, ◌∙◌}
use Rattle.ck_model.specs.History.{numbers_of}
use Rattle.ck_script.specs.declared.line.Line.{Line}
use Rattle.ck_volume.specs.declared.event.Progress.{Progress}
use Rattle.ck_volume.specs.Volume.{history_of, origin_of, room_of, table_of, told_of}
use Rattle.ck_actor.specs.Actor.{entered_numbers, turns_left, HasHad, IsOnWay, IsThrough, OnWay, Stands, StandsAt}
use Rattle.ck_actor.specs.Place.{answered_count, call_count}
use Rattle.ck_actor.specs.Turned.{answered_by_now, IsTurnFrom}
use Rattle.ck_actor.proofs.ActorLemmas.{entered_still, found_here, on_way_still, through_end, through_still, through_there}
use Rattle.ck_actor.proofs.actor.Actor.turn.Goals as goal

pub seek-requires : goal.seek-requires
seek-requires g c =
    let volume = c.args.volume.now in
    let actor = c.args.self.now in
    found_here (g.D.Disk.means (origin_of volume)) (told_of volume) c.items-lines.result.now (history_of volume) actor.place actor.progress
    (subst (λ (lines : List Line). IsOnWay (g.D.Disk.means (origin_of volume)) (told_of volume) lines (history_of volume) actor.place actor.progress) (sym c.items-lines.ensures) c.requires.stands.on_way)

pub act-requires-clause-stands : goal.act-requires-clause-stands
act-requires-clause-stands g c =
    let volume = c.args.volume.now in
    let origin = g.D.Disk.means (origin_of volume) in
    let told = told_of volume in
    let history = history_of volume in
    let items = c.items-lines.result.now in
    let old = c.args.self.now in
    let new = c.seek.new.self in
    let seek = c.seek.ensures in
    let before : Stands origin told items history old = subst (λ (lines : List Line). Stands origin told lines history old) (sym c.items-lines.ensures) c.requires.stands in
    record {
      numbers = subst (λ p. numbers_of history new.place.actor ≡ entered_numbers items new.place p) (sym seek.progress)
          (ap (λ n. numbers_of history n) seek.actor ∙ before.numbers ∙ sym (entered_still items old.place new.place old.progress seek.on_way seek.between seek.actor));
      on_way = subst (λ (p : Progress). IsOnWay origin told items history new.place p) (sym seek.progress) (on_way_still origin told items history old.place new.place old.progress seek.on_way before.on_way);
    }

pub act-requires-clause-room : goal.act-requires-clause-room
act-requires-clause-room g c =
    let items = c.items-lines.result.now in
    let old = c.args.self.now in
    let new = c.seek.new.self in
    let seek = c.seek.ensures in
    let room = room_of c.args.volume.now in
    subst (λ p. call_count items new.place.actor - length (entered_numbers items new.place p) ≤ room) (sym seek.progress)
    (subst (λ (numbers : List ℕ). call_count items new.place.actor - length numbers ≤ room) (sym (entered_still items old.place new.place old.progress seek.on_way seek.between seek.actor))
    (subst (λ n. call_count items n - length (entered_numbers items old.place old.progress) ≤ room) (sym seek.actor)
    (subst (λ (lines : List Line). call_count lines old.place.actor - length (entered_numbers lines old.place old.progress) ≤ room) (sym c.items-lines.ensures) c.requires.room)))

pub returns-clause-turn : goal.returns-clause-turn
returns-clause-turn g c = λ at stood.
    let volume = c.args.volume.now in
    let origin = g.D.Disk.means (origin_of volume) in
    let before = answered_by_now volume in
    let after = answered_by_now c.act.new.volume in
    let items = c.items-lines.result.now in
    let old = c.args.self.now in
    let new = c.seek.new.self in
    let moved = c.act.new.self in
    let seek = c.seek.ensures in
    let through : at.through ≡ answered_count items old.place = subst (λ (lines : List Line). at.through ≡ answered_count lines old.place) (sym c.items-lines.ensures) stood.through in
    let stood_new : StandsAt items new at = record {
      through = through ∙ sym (through_still items old.place new.place seek.between seek.actor);
      had = subst (λ p. HasHad p at.had) (sym seek.progress) stood.had;
    } in
    subst (λ (lines : List Line). IsTurnFrom origin lines old.place.actor at moved before after) c.items-lines.ensures
    (subst (λ n. IsTurnFrom origin items n at moved before after) seek.actor (c.act.ensures.turn at stood_new))

pub returns-clause-fewer : goal.returns-clause-fewer
returns-clause-fewer g c =
    let now = c.act.new.self.progress in
    subst (λ (p : Progress). OnWay now (turns_left now (table_of c.act.new.volume) < turns_left p (table_of c.args.volume.now))) c.seek.ensures.progress c.act.ensures.fewer

pub returns-clause-through : goal.returns-clause-through
returns-clause-through g c =
    let items = c.items-lines.result.now in
    let volume = c.act.new.volume in
    let origin = g.D.Disk.means (origin_of volume) in
    let history = history_of volume in
    let actor = c.act.new.self in
    let stands = c.act.ensures.stands in (
      λ through. subst (λ (lines : List Line). IsThrough lines history actor) c.items-lines.ensures (through_there origin (told_of volume) items history actor stands (c.turned.ensures.0 through)),
      λ all.
          let here : IsThrough items history actor = subst (λ (lines : List Line). IsThrough lines history actor) (sym c.items-lines.ensures) all in
          c.turned.ensures.1 (through_end origin (told_of volume) items history actor stands c.act.ensures.found here),
    )
