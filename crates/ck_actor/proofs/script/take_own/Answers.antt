use Rattle.std.proofs.Common.{◌≡◌, ◌<◌, suc, List, length, get_or, sym, subst, ◌∙◌, arith}
use Rattle.ck_disk.specs.Disk.{Meaning}
use Rattle.ck_io.specs.Clock.{ClockMeaning}
use Rattle.ck_volume.specs.Volume.{history_of, origin_of, room_of, table_of, told_of}
use Rattle.ck_actor.specs.declared.actor.Actor.{Actor}
use Rattle.ck_actor.specs.Actor.{HasFewer, HasMoment, Stands}
use Rattle.ck_actor.specs.Turned.{answered_by_now, IsTurnFrom}
use Rattle.ck_actor.proofs.PlayedLemmas.{actor_there, get_same, own_player, own_room, some_one, turned}
use Rattle.ck_actor.proofs.script.take_own.Goals as goal

pub turn-requires-clause-stands : goal.turn-requires-clause-stands
turn-requires-clause-stands g c =
    let volume = c.args.volume.now in
    let way = c.requires.under_way in
    (own_player (g.D.Disk.means (origin_of volume)) (g.C.Clock.means c.args.clock.now) c.args.script.now.calls c.args.actors.now way.at way.known (answered_by_now volume) (room_of volume) way.under_way.played
    c.args.place c.requires.within c.index-actors-place.result).stands

pub turn-requires-clause-moment : goal.turn-requires-clause-moment
turn-requires-clause-moment g c =
    let volume = c.args.volume.now in
    let way = c.requires.under_way in
    (own_player (g.D.Disk.means (origin_of volume)) (g.C.Clock.means c.args.clock.now) c.args.script.now.calls c.args.actors.now way.at way.known (answered_by_now volume) (room_of volume) way.under_way.played
    c.args.place c.requires.within c.index-actors-place.result).moment

pub turn-requires-clause-room : goal.turn-requires-clause-room
turn-requires-clause-room g c =
    let volume = c.args.volume.now in
    let way = c.requires.under_way in
    own_room (g.D.Disk.means (origin_of volume)) (g.C.Clock.means c.args.clock.now) c.args.script.now.calls c.args.actors.now way.at way.known (answered_by_now volume) (room_of volume) way.under_way.played
    c.args.place c.requires.within c.index-actors-place.result

pub returns-clause-stepped : goal.returns-clause-stepped
returns-clause-stepped g c = λ at known way.
    let volume = c.args.volume.now in
    let after = c.turn.new.volume in
    let origin : Meaning = g.D.Disk.means (origin_of volume) in
    let clock : ClockMeaning = g.C.Clock.means c.args.clock.now in
    let lines = c.args.script.now.calls in
    let actors : List Actor = c.args.actors.now in
    let place = c.args.place in
    let default = c.index-actors-place.result in
    let moved = c.turn.new.self in
    let ensures = c.turn.ensures in
    let played = way.played in
    let many : length actors ≡ 64 = played.many in
    let limit : place < 64 = c.requires.within in
    let within : place < length actors = omega (arith, many, limit) in
    let player = own_player origin clock lines actors at known (answered_by_now volume) (room_of volume) played place limit default in
    let stands : Stands origin (told_of after) lines (history_of after) moved = subst (λ o. Stands (g.D.Disk.means o) (told_of after) lines (history_of after) moved) ensures.origin ensures.stands in
    let moment : HasMoment clock moved = subst (λ (m : ClockMeaning). HasMoment m moved) ensures.clock ensures.moment in
    let it =
    turned origin clock lines actors place moved within at known (answered_by_now volume) (answered_by_now after) (room_of volume) (room_of after) played (ensures.number ∙ player.number_is) stands moment ensures.room limit
    (ensures.answered played.answered) (λ told. ensures.moments told (played.moments told))
    (subst (λ n. IsTurnFrom origin lines n (at (suc place)) moved (answered_by_now volume) (answered_by_now after)) player.number_is (ensures.turn (at (suc place)) player.standing)) in
    record {
      next = it.next;
      counts = it.counts;
      under_way = record {
        played = it.played;
        synced = ensures.synced way.synced;
        unspoilt = ensures.unspoilt;
        origin_is = ensures.origin ∙ way.origin_is;
      };
      step = it.step;
    }

pub returns-clause-fewer : goal.returns-clause-fewer
returns-clause-fewer g c = λ was moved is is_moved.
    let volume = c.args.volume.now in
    let after = c.turn.new.volume in
    let way = c.requires.under_way in
    let actors : List Actor = c.args.actors.now in
    let place = c.args.place in
    let default = c.index-actors-place.result in
    let many : length actors ≡ 64 = way.under_way.played.many in
    let limit : place < 64 = c.requires.within in
    let within : place < length actors = omega (arith, many, limit) in
    let there = actor_there (g.D.Disk.means (origin_of volume)) (g.C.Clock.means c.args.clock.now) c.args.script.now.calls actors way.at way.known (answered_by_now volume) (room_of volume) way.under_way.played place limit default in
    let own : get_or actors place default ≡ was = some_one (get_or actors place default) was (sym there ∙ is) in
    let turned : c.turn.new.self ≡ moved = some_one c.turn.new.self moved (sym (get_same actors place c.turn.new.self within) ∙ is_moved) in
    subst (λ (a : Actor). HasFewer a (table_of volume) moved (table_of after)) own
    (subst (λ (a : Actor). HasFewer (get_or actors place default) (table_of volume) a (table_of after)) turned c.turn.ensures.fewer)
