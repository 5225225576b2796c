use Rattle.std.proofs.Common.{◌≡◌, ℕ, ◌+◌, Bool, None, IsTrue, List, length, is_some, if◌then◌else◌, refl, sym, ap, subst, ◌∙◌}
use mathlib.Core.Logic.{∥∥₁_map}
use Rattle.ck_history.specs.History.{entries_of, room_of}
use Rattle.ck_model.specs.declared.entry.Entry.{Entry}
use Rattle.ck_volume.specs.declared.log.Log.{Log}
use Rattle.ck_volume.specs.Causes.{HasCauses, acknowledges}
use Rattle.ck_engine.specs.Engine.{disk_of}
use Rattle.ck_volume.specs.Present.{present, history_of, broken_of, IsReady}
use Rattle.ck_volume.specs.Event.{newest}
use Rattle.ck_volume.specs.Kept.{broken_by, IsKept}
use Rattle.ck_volume.specs.Progress.{FitsHistory}
use Rattle.ck_volume.specs.Told.{told_of}
use Rattle.ck_volume.proofs.CallsLemmas.{calls-told}
use Rattle.ck_volume.proofs.CausesLemmas.{causes-more}
use Rattle.ck_volume.proofs.FitsLaws.{fits_world, now_fits}
use Rattle.ck_volume.proofs.QuietLemmas.{kept-read}
use Rattle.ck_disk.proofs.RunLaws.{runs-more}
use Rattle.ck_volume.proofs.CutsAfter.{cuts-event}
use Rattle.ck_volume.proofs.EventLemmas.{longer-put}
use Rattle.ck_volume.proofs.StandsLaws.{by-entry, or-entry, broken-goes, within-event, replies-more, stands-told}
use Rattle.ck_volume.proofs.StoodLaws.{stood, ready-known}
use Rattle.ck_volume.proofs.volume.Volume.answer.Goals as goal

pub happen-requires-clause-ready : goal.happen-requires-clause-ready
happen-requires-clause-ready g c =
    let volume = c.args.self.now in
    ready-known (g.D.Disk.means (disk_of volume.engine)) (present volume.engine volume.log) volume.kept.ready

pub happen-requires-clause-fits : goal.happen-requires-clause-fits
happen-requires-clause-fits g c = λ told.
    let volume = c.args.self.now in
    let origin = g.D.Disk.means volume.origin.value in
    let mid = g.D.Disk.means (disk_of volume.engine) in
    let before = present volume.engine volume.log in
    fits_world origin mid (told_of volume.told) before (stood origin mid (told_of volume.told) before volume.kept.stands) volume.kept.begins
    (subst IsTrue volume.kept.runs.tells told) c.args.actor c.args.call.now c.args.progress.now c.requires.unless_strip c.requires.begun c.requires.fits

-- ---- where a block was read

pub invariant_of-self : goal.invariant_of-self
invariant_of-self g c =
    let volume = c.args.self.now in
    let origin = g.D.Disk.means volume.origin.value in
    let mid = g.D.Disk.means (disk_of volume.engine) in
    let later = c.happen.new.engine in
    let new = g.D.Disk.means (disk_of later) in
    let more = c.in-More.ensures in
    record {
      kept = subst (λ (log : Log). IsKept origin new (told_of volume.told) volume.committed.value volume.spoilt.value (present later log)) (sym more.log)
          (kept-read origin mid new (g.met.D.Disk.lawful (disk_of later)) (told_of volume.told) volume.committed.value volume.spoilt.value volume.engine later volume.log more.unbroken volume.kept
          (subst (λ (log : Log). IsReady new (present later log)) more.log more.ready) more.runs more.reading);
    }

pub returns-in-More-clause-more : goal.returns-in-More-clause-more
returns-in-More-clause-more g c =
    let volume = c.args.self.now in
    let origin = g.D.Disk.means volume.origin.value in
    let mid = g.D.Disk.means (disk_of volume.engine) in
    let before = present volume.engine volume.log in
    let more = c.in-More.ensures in
    let told = told_of volume.told in
    record {
      log = record {
        history = ap (λ (log : Log). entries_of log.history) more.log;
        room = ap (λ (log : Log). room_of log.history) more.log;
        told = refl;
        committed = refl;
        spoilt = refl;
        broken = ap (λ (log : Log). log.broken) more.log;
        origin = refl;
      };
      world = more.reading.world;
      table = more.reading.table;
      mounts = more.reading.mounts;
      device = more.reading.device;
      begun = more.begun;
      turns = more.turns;
      fits = subst (λ (log : Log). FitsHistory origin told (entries_of log.history) c.args.actor c.args.call.now c.happen.new.progress) (sym more.log)
          (now_fits origin mid told before (stood origin mid told before volume.kept.stands) c.args.actor c.args.call.now c.happen.new.progress (λ is_told. more.fits (subst IsTrue (sym volume.kept.runs.tells) is_told)));
    }

-- ---- where it was answered

pub invariant_of-self-in-Answered : goal.invariant_of-self-in-Answered
invariant_of-self-in-Answered g c =
    let means = g.D.Disk.means in
    let volume = c.args.self.now in
    let before = present volume.engine volume.log in
    let after = present c.happen.new.engine c.happen.new.log in
    let origin = means volume.origin.value in
    let mid = means (disk_of volume.engine) in
    let new = means (disk_of c.happen.new.engine) in
    let event = c.in-Answered.ensures in
    let old : List Entry = history_of before in
    let entry = newest (history_of after) in
    let was : broken_of before ≡ broken_by 0 None old = by-entry (broken_by 0 None old) volume.spoilt.value (broken_of before) volume.kept.breaks c.requires.unspoilt in
    let broken : broken_of after ≡ broken_by 0 None (history_of after) = broken-goes old (history_of after) entry (broken_of before) (broken_of after) was event.added event.broken in
    let longer : length (history_of after) ≡ length old + 1 = longer-put old (history_of after) entry event.added in
    let committed = c.note_sync.new.committed.value in
    let now : committed ≡ (if c.acknowledged-synced.result then length (history_of after) else volume.committed.value) =
    subst (λ (n : ℕ). committed ≡ (if c.acknowledged-synced.result then n else volume.committed.value)) c.length-answered.ensures c.note_sync.ensures in
    let acknowledged : committed ≡ (if acknowledges c.args.call.now entry.reply then length (history_of after) else volume.committed.value) =
    now ∙ ap (λ (b : Bool). if b then length (history_of after) else volume.committed.value) c.acknowledged-synced.ensures in
    record {
      kept = record {
        ready = ∣ event.ready ∣₁;
        runs = runs-more origin mid new volume.kept.runs event.runs;
        causes = subst (λ (h : List Entry). HasCauses origin new h) (sym event.added) (causes-more origin mid new old entry volume.kept.causes event.runs event.cause);
        breaks = or-entry (broken_by 0 None (history_of after)) volume.spoilt.value (broken_of after) broken c.requires.unspoilt;
        replies = ∥∥₁_map volume.kept.replies (λ breaks. replies-more old (history_of after) entry (broken_of before) was event.added event.refused breaks);
        begins = ∥∥₁_map volume.kept.begins (λ has.
            calls-told origin (told_of volume.told) (told_of c.more.result) c.args.call.now old (history_of after) entry c.args.actor c.args.seq c.args.at c.more.ensures event.added event.entry c.requires.number has);
        stands = ∥∥₁_map volume.kept.stands
            (λ stands. stands-told origin mid new (told_of volume.told) (told_of c.more.result) before after c.args.call.now entry c.args.actor c.args.seq c.args.at stands c.more.ensures volume.kept.runs.tells event.added event.entry event.follows was broken);
        within = within-event volume.committed.value committed (length old) (length (history_of after)) c.acknowledged-synced.result volume.kept.within longer now;
        cuts = ∥∥₁_map volume.kept.cuts
            (λ cuts. cuts-event origin mid new (g.met.D.Disk.lawful (disk_of c.happen.new.engine)) (told_of volume.told) (told_of c.more.result) volume.committed.value committed before after c.args.call.now entry cuts
            (stood origin mid (told_of volume.told) before volume.kept.stands) volume.kept.within c.more.ensures event.added event.runs event.survives event.kept event.synced event.broken event.refused
            (λ number is. ap means (event.untouched (ap is_some is)).1)
            (stands-told origin mid new (told_of volume.told) (told_of c.more.result) before after c.args.call.now entry c.args.actor c.args.seq c.args.at (stood origin mid (told_of volume.told) before volume.kept.stands) c.more.ensures volume.kept.runs.tells event.added event.entry event.follows was broken)
            acknowledged);
      };
    }

pub returns-in-Answered-clause-committed : goal.returns-in-Answered-clause-committed
returns-in-Answered-clause-committed g c =
    let old = c.args.self.now.committed.value in
    let after = present c.happen.new.engine c.happen.new.log in
    c.note_sync.ensures
    ∙ ap (λ (b : Bool). if b then c.length-answered.result else old) c.acknowledged-synced.ensures
    ∙ ap (λ (n : ℕ). if acknowledges c.args.call.now (newest (history_of after)).reply then n else old) c.length-answered.ensures
