use Rattle.std.proofs.Common.{◌≡◌, ◌<◌, refl, sym, subst, arith}
use Rattle.std.proofs.lemmas.Bool.Decides.{nat_tests}
use Rattle.ck_model.specs.History.{call_at}
use Rattle.ck_script.specs.Numbered.{calls_in}
use Rattle.ck_volume.specs.declared.event.Progress.{Progress}
use Rattle.ck_volume.specs.Volume.{history_of, origin_of, table_of, told_of}
use Rattle.ck_actor.specs.declared.actor.Actor.{Actor}
use Rattle.ck_actor.specs.Actor.{turns_left, OnWay}
use Rattle.ck_actor.proofs.PlaceLemmas.{line_call, own_at}
use Rattle.ck_actor.proofs.ActorLemmas.{begun_here, fits_here, on_way_here}
use Rattle.ck_actor.proofs.EventLemmas.{answered_did, did_answered, did_moments, did_room, did_synced, did_fewer, more_did}
use Rattle.ck_actor.proofs.StandingLemmas.{event_number, gone_stands, gone_turn, more_numbers, more_turn}
use Rattle.ck_actor.proofs.actor.Actor.event.Goals as goal

pub event-requires-clause-number : goal.event-requires-clause-number
event-requires-clause-number g c =
    let lines = c.args.lines.now in
    let place = c.args.self.now.place in
    let line = c.index-lines-self.result in
    let own = own_at lines place.line line place.actor c.requires.left c.index-lines-self.is c.requires.found.own in
    event_number g.D.Disk.means c.args.volume.now c.args.volume.now lines c.args.self.now line c.requires.numbered c.requires.left c.index-lines-self.is own c.requires.stands

pub event-requires-clause-begun : goal.event-requires-clause-begun
event-requires-clause-begun g c =
    let volume = c.args.volume.now in
    begun_here (g.D.Disk.means (origin_of volume)) (told_of volume) c.args.lines.now (history_of volume) c.args.self.now.place c.index-lines-self.result c.requires.left c.index-lines-self.is c.args.self.now.progress c.requires.stands.on_way

pub event-requires-clause-fits : goal.event-requires-clause-fits
event-requires-clause-fits g c =
    let volume = c.args.volume.now in
    let place = c.args.self.now.place in
    let line = c.index-lines-self.result in
    let own = own_at c.args.lines.now place.line line place.actor c.requires.left c.index-lines-self.is c.requires.found.own in
    let same : line.actor ≡ place.actor = grind (arith, nat_tests, own) in
    fits_here (g.D.Disk.means (origin_of volume)) (told_of volume) c.args.lines.now (history_of volume) place line c.requires.left c.index-lines-self.is c.args.self.now.progress same c.requires.stands.on_way

-- ---- where the call goes on

pub returns-in-More-clause-stands : goal.returns-in-More-clause-stands
returns-in-More-clause-stands g c =
    let lines = c.args.lines.now in
    let actor = c.args.self.now in
    let place = actor.place in
    let line = c.index-lines-self.result in
    let before = c.args.volume.now in
    let after = c.event.new.self in
    let now = c.event.new.progress in
    let e = c.in-More.ensures in
    let own = own_at lines place.line line place.actor c.requires.left c.index-lines-self.is c.requires.found.own in
    let same : line.actor ≡ place.actor = grind (arith, nat_tests, own) in
    let begun = begun_here (g.D.Disk.means (origin_of before)) (told_of before) lines (history_of before) place line c.requires.left c.index-lines-self.is actor.progress c.requires.stands.on_way in
    let did = more_did g.D.Disk.means before after line.actor line.seq actor.began line.call actor.progress now begun e.begun e.more e.strips e.added e.room e.entry e.told e.committed e.done e.converts in
    record {
      numbers = more_numbers g.D.Disk.means before after lines actor line c.requires.numbered c.requires.left c.index-lines-self.is own c.requires.stands actor.began now (record actor { progress = now }) refl refl did;
      on_way = on_way_here (g.D.Disk.means (origin_of after)) (told_of after) lines (history_of after) place line c.requires.left c.index-lines-self.is now same e.begun e.fits;
    }

pub returns-in-More-clause-turn : goal.returns-in-More-clause-turn
returns-in-More-clause-turn g c =
    let lines = c.args.lines.now in
    let actor = c.args.self.now in
    let place = actor.place in
    let line = c.index-lines-self.result in
    let before = c.args.volume.now in
    let after = c.event.new.self in
    let now = c.event.new.progress in
    let e = c.in-More.ensures in
    let begun = begun_here (g.D.Disk.means (origin_of before)) (told_of before) lines (history_of before) place line c.requires.left c.index-lines-self.is actor.progress c.requires.stands.on_way in
    let did = more_did g.D.Disk.means before after line.actor line.seq actor.began line.call actor.progress now begun e.begun e.more e.strips e.added e.room e.entry e.told e.committed e.done e.converts in
    let own = own_at lines place.line line place.actor c.requires.left c.index-lines-self.is c.requires.found.own in
    more_turn g.D.Disk.means before after lines actor line c.requires.numbered c.requires.left c.index-lines-self.is own c.requires.stands actor.began now (record actor { progress = now }) refl refl did

pub returns-in-More-clause-fewer : goal.returns-in-More-clause-fewer
returns-in-More-clause-fewer g c =
    let lines = c.args.lines.now in
    let actor = c.args.self.now in
    let place = actor.place in
    let line = c.index-lines-self.result in
    let before = c.args.volume.now in
    let after = c.event.new.self in
    let now = c.event.new.progress in
    let e = c.in-More.ensures in
    let begun = begun_here (g.D.Disk.means (origin_of before)) (told_of before) lines (history_of before) place line c.requires.left c.index-lines-self.is actor.progress c.requires.stands.on_way in
    let did = more_did g.D.Disk.means before after line.actor line.seq actor.began line.call actor.progress now begun e.begun e.more e.strips e.added e.room e.entry e.told e.committed e.done e.converts in
    did_fewer before after line.actor line.seq actor.began line.call actor.progress now did

pub returns-in-More-clause-room : goal.returns-in-More-clause-room
returns-in-More-clause-room g c =
    let lines = c.args.lines.now in
    let actor = c.args.self.now in
    let place = actor.place in
    let line = c.index-lines-self.result in
    let before = c.args.volume.now in
    let after = c.event.new.self in
    let now = c.event.new.progress in
    let e = c.in-More.ensures in
    let begun = begun_here (g.D.Disk.means (origin_of before)) (told_of before) lines (history_of before) place line c.requires.left c.index-lines-self.is actor.progress c.requires.stands.on_way in
    let did = more_did g.D.Disk.means before after line.actor line.seq actor.began line.call actor.progress now begun e.begun e.more e.strips e.added e.room e.entry e.told e.committed e.done e.converts in
    did_room before after line.actor line.seq actor.began line.call did

pub returns-in-More-clause-answered : goal.returns-in-More-clause-answered
returns-in-More-clause-answered g c =
    let lines = c.args.lines.now in
    let actor = c.args.self.now in
    let place = actor.place in
    let line = c.index-lines-self.result in
    let before = c.args.volume.now in
    let after = c.event.new.self in
    let now = c.event.new.progress in
    let e = c.in-More.ensures in
    let begun = begun_here (g.D.Disk.means (origin_of before)) (told_of before) lines (history_of before) place line c.requires.left c.index-lines-self.is actor.progress c.requires.stands.on_way in
    let did = more_did g.D.Disk.means before after line.actor line.seq actor.began line.call actor.progress now begun e.begun e.more e.strips e.added e.room e.entry e.told e.committed e.done e.converts in
    did_answered before after line.actor line.seq actor.began line.call did (call_at (calls_in lines)) (line_call lines place.line line c.requires.numbered c.requires.left c.index-lines-self.is)

pub returns-in-More-clause-moments : goal.returns-in-More-clause-moments
returns-in-More-clause-moments g c =
    let lines = c.args.lines.now in
    let actor = c.args.self.now in
    let place = actor.place in
    let line = c.index-lines-self.result in
    let before = c.args.volume.now in
    let after = c.event.new.self in
    let now = c.event.new.progress in
    let e = c.in-More.ensures in
    let begun = begun_here (g.D.Disk.means (origin_of before)) (told_of before) lines (history_of before) place line c.requires.left c.index-lines-self.is actor.progress c.requires.stands.on_way in
    let did = more_did g.D.Disk.means before after line.actor line.seq actor.began line.call actor.progress now begun e.begun e.more e.strips e.added e.room e.entry e.told e.committed e.done e.converts in
    did_moments before after line.actor line.seq actor.began line.call did

pub returns-in-More-clause-synced : goal.returns-in-More-clause-synced
returns-in-More-clause-synced g c =
    let lines = c.args.lines.now in
    let actor = c.args.self.now in
    let place = actor.place in
    let line = c.index-lines-self.result in
    let before = c.args.volume.now in
    let after = c.event.new.self in
    let now = c.event.new.progress in
    let e = c.in-More.ensures in
    let begun = begun_here (g.D.Disk.means (origin_of before)) (told_of before) lines (history_of before) place line c.requires.left c.index-lines-self.is actor.progress c.requires.stands.on_way in
    let did = more_did g.D.Disk.means before after line.actor line.seq actor.began line.call actor.progress now begun e.begun e.more e.strips e.added e.room e.entry e.told e.committed e.done e.converts in
    did_synced before after line.actor line.seq actor.began line.call did (call_at (calls_in lines)) (line_call lines place.line line c.requires.numbered c.requires.left c.index-lines-self.is)

-- ---- where it is through

pub returns-in-Answered-clause-stands : goal.returns-in-Answered-clause-stands
returns-in-Answered-clause-stands g c =
    let lines = c.args.lines.now in
    let actor = c.args.self.now in
    let place = actor.place in
    let line = c.index-lines-self.result in
    let before = c.args.volume.now in
    let after = c.event.new.self in
    let now = c.event.new.progress in
    let e = c.in-Answered.ensures in
    let begun = begun_here (g.D.Disk.means (origin_of before)) (told_of before) lines (history_of before) place line c.requires.left c.index-lines-self.is actor.progress c.requires.stands.on_way in
    let did = answered_did g.D.Disk.means before after line.actor line.seq actor.began line.call now actor.progress begun e.strips e.added e.room e.entry e.told e.committed in
    let own = own_at lines place.line line place.actor c.requires.left c.index-lines-self.is c.requires.found.own in
    let moved : Actor = record actor { place = c.step.new.self; progress = now } in
    gone_stands g.D.Disk.means before after lines actor line c.requires.numbered c.requires.left c.index-lines-self.is own c.requires.stands actor.began moved c.step.ensures.actor e.progress c.step.ensures.behind did (g.D.Disk.means (origin_of after))

pub returns-in-Answered-clause-turn : goal.returns-in-Answered-clause-turn
returns-in-Answered-clause-turn g c =
    let lines = c.args.lines.now in
    let actor = c.args.self.now in
    let place = actor.place in
    let line = c.index-lines-self.result in
    let before = c.args.volume.now in
    let after = c.event.new.self in
    let now = c.event.new.progress in
    let e = c.in-Answered.ensures in
    let begun = begun_here (g.D.Disk.means (origin_of before)) (told_of before) lines (history_of before) place line c.requires.left c.index-lines-self.is actor.progress c.requires.stands.on_way in
    let did = answered_did g.D.Disk.means before after line.actor line.seq actor.began line.call now actor.progress begun e.strips e.added e.room e.entry e.told e.committed in
    let own = own_at lines place.line line place.actor c.requires.left c.index-lines-self.is c.requires.found.own in
    let moved : Actor = record actor { place = c.step.new.self; progress = now } in
    gone_turn g.D.Disk.means before after lines actor line c.requires.numbered c.requires.left c.index-lines-self.is own c.requires.stands actor.began moved c.step.ensures.actor e.progress c.step.ensures.behind did
    c.requires.built now e.last

pub returns-in-Answered-clause-fewer : goal.returns-in-Answered-clause-fewer
returns-in-Answered-clause-fewer g c =
    let was = c.args.self.now.progress in
    subst (λ (p : Progress). OnWay p (turns_left p (table_of c.event.new.self) < turns_left was (table_of c.args.volume.now))) (sym c.in-Answered.ensures.progress) tt

pub returns-in-Answered-clause-room : goal.returns-in-Answered-clause-room
returns-in-Answered-clause-room g c =
    let lines = c.args.lines.now in
    let actor = c.args.self.now in
    let place = actor.place in
    let line = c.index-lines-self.result in
    let before = c.args.volume.now in
    let after = c.event.new.self in
    let now = c.event.new.progress in
    let e = c.in-Answered.ensures in
    let begun = begun_here (g.D.Disk.means (origin_of before)) (told_of before) lines (history_of before) place line c.requires.left c.index-lines-self.is actor.progress c.requires.stands.on_way in
    let did = answered_did g.D.Disk.means before after line.actor line.seq actor.began line.call now actor.progress begun e.strips e.added e.room e.entry e.told e.committed in
    did_room before after line.actor line.seq actor.began line.call did

pub returns-in-Answered-clause-answered : goal.returns-in-Answered-clause-answered
returns-in-Answered-clause-answered g c =
    let lines = c.args.lines.now in
    let actor = c.args.self.now in
    let place = actor.place in
    let line = c.index-lines-self.result in
    let before = c.args.volume.now in
    let after = c.event.new.self in
    let now = c.event.new.progress in
    let e = c.in-Answered.ensures in
    let begun = begun_here (g.D.Disk.means (origin_of before)) (told_of before) lines (history_of before) place line c.requires.left c.index-lines-self.is actor.progress c.requires.stands.on_way in
    let did = answered_did g.D.Disk.means before after line.actor line.seq actor.began line.call now actor.progress begun e.strips e.added e.room e.entry e.told e.committed in
    did_answered before after line.actor line.seq actor.began line.call did (call_at (calls_in lines)) (line_call lines place.line line c.requires.numbered c.requires.left c.index-lines-self.is)

pub returns-in-Answered-clause-moments : goal.returns-in-Answered-clause-moments
returns-in-Answered-clause-moments g c =
    let lines = c.args.lines.now in
    let actor = c.args.self.now in
    let place = actor.place in
    let line = c.index-lines-self.result in
    let before = c.args.volume.now in
    let after = c.event.new.self in
    let now = c.event.new.progress in
    let e = c.in-Answered.ensures in
    let begun = begun_here (g.D.Disk.means (origin_of before)) (told_of before) lines (history_of before) place line c.requires.left c.index-lines-self.is actor.progress c.requires.stands.on_way in
    let did = answered_did g.D.Disk.means before after line.actor line.seq actor.began line.call now actor.progress begun e.strips e.added e.room e.entry e.told e.committed in
    did_moments before after line.actor line.seq actor.began line.call did

pub returns-in-Answered-clause-synced : goal.returns-in-Answered-clause-synced
returns-in-Answered-clause-synced g c =
    let lines = c.args.lines.now in
    let actor = c.args.self.now in
    let place = actor.place in
    let line = c.index-lines-self.result in
    let before = c.args.volume.now in
    let after = c.event.new.self in
    let now = c.event.new.progress in
    let e = c.in-Answered.ensures in
    let begun = begun_here (g.D.Disk.means (origin_of before)) (told_of before) lines (history_of before) place line c.requires.left c.index-lines-self.is actor.progress c.requires.stands.on_way in
    let did = answered_did g.D.Disk.means before after line.actor line.seq actor.began line.call now actor.progress begun e.strips e.added e.room e.entry e.told e.committed in
    did_synced before after line.actor line.seq actor.began line.call did (call_at (calls_in lines)) (line_call lines place.line line c.requires.numbered c.requires.left c.index-lines-self.is)
