use Rattle.std.proofs.Common.{◌≡◌, ℕ, ◌++◌, ◌∷◌, [], List, Option, Some, None, MatchOption, if◌then◌else◌, false, sym, ap, subst, ◌∙◌}
use Rattle.std.specs.Option.{option_or}
use Rattle.ck_model.specs.declared.call.Call.{Call}
use Rattle.ck_model.specs.declared.entry.Entry.{Entry}
use Rattle.ck_model.specs.declared.reply.Reply.TheVariants as reply
use Rattle.ck_model.specs.History.{Past, is_broken, is_write_fault}
use Rattle.ck_volume.specs.declared.event.Progress.{Progress}
use Rattle.ck_volume.specs.declared.event.Progress.TheVariants.{Strip}
use Rattle.ck_volume.specs.Conversion.{strip_begun, ConvertsBy}
use Rattle.ck_volume.specs.Event.{newest, Follows}
use Rattle.ck_volume.specs.Progress.{FitsHistory}
use Rattle.ck_volume.specs.Volume.{broken_of, disk_of, history_of, length_of, origin_of, past_on, present_of, table_of, told_of}
use Rattle.ck_volume.proofs.ConversionLemmas.{add_none, begun_done, begun_log, begun_more, begun_past, begun_stayed, begun_went, converts_first, entries_had_none, fits_begun, if_more, on_entry, unbroken_done}
use Rattle.ck_volume.proofs.StoodLaws.{stood, ready-known}
use Rattle.ck_volume.proofs.volume.Volume.event.Goals as goal

pub returns-in-Answered-clause-follows : goal.returns-in-Answered-clause-follows
returns-in-Answered-clause-follows g c =
    let means = g.D.Disk.means in
    let old = c.args.self.now in
    let mid = c.answer.new.self in
    let new = c.begin_strip.new.self in
    let turn = c.begin_strip.result in
    let now = c.begin_strip.new.progress in
    let begun : Option ℕ = strip_begun c.args.call.now (newest (history_of mid)).reply (table_of mid) in
    let log = begun_log means mid new turn now begun c.begin_strip.ensures.strips c.begin_strip.ensures.through in
    let past = begun_past means mid new turn now begun c.begin_strip.ensures.strips c.begin_strip.ensures.through in
    on_entry c.args.progress.now turn now (λ told texts calls is_call.
    subst (λ (h : List Entry). Follows texts calls (past_on (means (disk_of old)).shows old) (newest h) (past_on (means (disk_of new)).shows new)) (sym log.history)
    (subst (λ (p : Past). Follows texts calls (past_on (means (disk_of old)).shows old) (newest (history_of mid)) p) (sym past)
    (c.in-Answered.ensures.follows told texts calls is_call)))

pub returns-in-Answered-clause-broken : goal.returns-in-Answered-clause-broken
returns-in-Answered-clause-broken g c =
    let old = c.args.self.now in
    let mid = c.answer.new.self in
    let new = c.begin_strip.new.self in
    let turn = c.begin_strip.result in
    let now = c.begin_strip.new.progress in
    let begun : Option ℕ = strip_begun c.args.call.now (newest (history_of mid)).reply (table_of mid) in
    let log = begun_log g.D.Disk.means mid new turn now begun c.begin_strip.ensures.strips c.begin_strip.ensures.through in
    on_entry c.args.progress.now turn now
    (log.broken ∙ c.in-Answered.ensures.broken ∙ ap (λ (h : List Entry). option_or (broken_of old) (if is_write_fault (newest h).reply then Some (length_of old) else None)) (sym log.history))

pub returns-in-Answered-clause-refused : goal.returns-in-Answered-clause-refused
returns-in-Answered-clause-refused g c =
    let old = c.args.self.now in
    let mid = c.answer.new.self in
    let new = c.begin_strip.new.self in
    let turn = c.begin_strip.result in
    let now = c.begin_strip.new.progress in
    let begun : Option ℕ = strip_begun c.args.call.now (newest (history_of mid)).reply (table_of mid) in
    let log = begun_log g.D.Disk.means mid new turn now begun c.begin_strip.ensures.strips c.begin_strip.ensures.through in
    on_entry c.args.progress.now turn now
    (subst (λ (h : List Entry). MatchOption (broken_of old) (is_broken (newest h).reply ≡ false) (λ entry. (newest h).reply ≡ reply.Broken entry)) (sym log.history) c.in-Answered.ensures.refused)

pub returns-in-Answered-clause-converts : goal.returns-in-Answered-clause-converts
returns-in-Answered-clause-converts g c =
    let means = g.D.Disk.means in
    let call = c.args.call.now in
    let old = c.args.self.now in
    let mid = c.answer.new.self in
    let new = c.begin_strip.new.self in
    let turn = c.begin_strip.result in
    let now = c.begin_strip.new.progress in
    let said = (newest (history_of mid)).reply in
    let begun : Option ℕ = strip_begun call said (table_of mid) in
    let strips = c.begin_strip.ensures.strips in
    let through = c.begin_strip.ensures.through in
    let log = begun_log means mid new turn now begun strips through in
    on_entry c.args.progress.now turn now
    (subst (λ (h : List Entry). ConvertsBy call (newest h).reply (table_of old) (table_of new) turn now) (sym log.history)
    (converts_first said (table_of old) (table_of mid) (table_of new) turn now call c.in-Answered.ensures.converts
    (begun_went means mid new turn now begun
    (λ id is. (unbroken_done (broken_of old) (broken_of mid) (length_of old) said (begun_done call said (table_of mid) id is) c.in-Answered.ensures.refused c.in-Answered.ensures.broken).1)
    strips)
    (begun_stayed means mid new turn now begun through)))

pub returns-in-Answered-clause-fits : goal.returns-in-Answered-clause-fits
returns-in-Answered-clause-fits g c =
    let means = g.D.Disk.means in
    let call = c.args.call.now in
    let old = c.args.self.now in
    let mid = c.answer.new.self in
    let new = c.begin_strip.new.self in
    let turn = c.begin_strip.result in
    let now = c.begin_strip.new.progress in
    let entry = newest (history_of mid) in
    let begun : Option ℕ = strip_begun call entry.reply (table_of mid) in
    let strips = c.begin_strip.ensures.strips in
    let through = c.begin_strip.ensures.through in
    let answered = c.in-Answered.ensures in
    let log = begun_log means mid new turn now begun strips through in
    let origin = means (origin_of old) in
    let here = means (disk_of old) in
    if_more turn (λ is_more.
    let more = begun_more means mid new turn now begun strips through is_more in
    let unbroken = (unbroken_done (broken_of old) (broken_of mid) (length_of old) entry.reply (begun_done call entry.reply (table_of mid) more.0 more.1.0) answered.refused answered.broken).0 in
    let whole = ready-known here (present_of old) old.kept.ready unbroken in
    let fits : FitsHistory origin (told_of old ++ call ∷ []) (history_of old ++ entry ∷ []) c.args.actor call (Strip more.0) =
    fits_begun origin here (told_of old) (present_of old) (stood origin here (told_of old) (present_of old) old.kept.stands) whole.files.ours.lawful entry c.args.actor c.args.seq c.args.at answered.entry (add_none c.args.seq _ (entries_had_none c.args.progress.now (λ id is. c.in_default.not-Some id (c.strip_id.ensures ∙ is))) ∙ c.requires.number) call (table_of mid) answered.converts more.0 more.1.0 in
    subst (λ (p : Progress). FitsHistory (means (origin_of new)) (told_of new) (history_of new) c.args.actor call p) (sym more.1.1)
    (subst (λ d. FitsHistory (means d) (told_of new) (history_of new) c.args.actor call (Strip more.0)) (sym (log.origin ∙ answered.origin))
    (subst (λ (told : List Call). FitsHistory origin told (history_of new) c.args.actor call (Strip more.0)) (sym (log.told ∙ answered.told))
    (subst (λ (h : List Entry). FitsHistory origin (told_of old ++ call ∷ []) h c.args.actor call (Strip more.0)) (sym (log.history ∙ answered.added)) fits))))

-- ---- a call goes on behind its entry

pub returns-in-Answered-clause-done : goal.returns-in-Answered-clause-done
returns-in-Answered-clause-done g c =
    let means = g.D.Disk.means in
    let call = c.args.call.now in
    let mid = c.answer.new.self in
    let new = c.begin_strip.new.self in
    let turn = c.begin_strip.result in
    let now = c.begin_strip.new.progress in
    let said = (newest (history_of mid)).reply in
    let begun : Option ℕ = strip_begun call said (table_of mid) in
    let strips = c.begin_strip.ensures.strips in
    let through = c.begin_strip.ensures.through in
    let log = begun_log means mid new turn now begun strips through in
    on_entry c.args.progress.now turn now (if_more turn (λ is_more.
    let more = begun_more means mid new turn now begun strips through is_more in
    ap (λ (h : List Entry). (newest h).reply) log.history ∙ begun_done call said (table_of mid) more.0 more.1.0))
