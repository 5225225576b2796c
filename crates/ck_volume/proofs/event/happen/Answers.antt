use Rattle.std.proofs.Common.{◌≡◌, arith, ℕ, ◌∷◌, ◌++◌, [], Option, Some, None, MatchOption, IsSome, length, ◌+◌, if◌then◌else◌, false, sym, ap, subst, ◌∙◌, rules}
use Rattle.std.specs.Option.{option_or}
use mathlib.Core.Bool.{false≢true}
use Rattle.ck_history.specs.History.{entries_of}
use Rattle.ck_history.specs.declared.history.History.{History}
use Rattle.ck_model.specs.declared.call.Call.{Call}
use Rattle.ck_model.specs.declared.call.Call.TheVariants.{Cread}
use Rattle.ck_model.specs.declared.entry.Entry.{Entry}
use Rattle.ck_model.specs.declared.reply.Reply.{Reply}
use Rattle.ck_model.specs.declared.reply.Reply.TheVariants.{Broken, Done}
use Rattle.ck_model.specs.World.{World}
use Rattle.ck_model.specs.History.{created_id, is_fault, is_write_fault, is_broken, reply_number}
use Rattle.ck_files.specs.Conversion.{IsConverted}
use Rattle.ck_engine.specs.Engine.{disk_of, table_of, world_of}
use Rattle.ck_volume.specs.declared.event.Progress.{Progress}
use Rattle.ck_volume.specs.Cuts.{KeepsOnTheWay, SurvivesOnTheWay}
use Rattle.ck_volume.specs.Event.{HasCause, newest}
use Rattle.ck_volume.specs.Present.{present}
use Rattle.ck_volume.specs.Progress.{had_of, IsLastOf}
use Rattle.ck_volume.proofs.EventLemmas.{newest-put, added-put, longer-put, is-entry, broken-cause, broken-put, answered-put}
use Rattle.ck_volume.proofs.TurnLemmas.{of_reply}
use Rattle.ck_volume.proofs.event.happen.Goals as goal

no_one : (o : Option ℕ) (n : ℕ) → o ≡ Some n → o ≡ None → ⊥
no_one o n some none = cc

-- ---- on a broken volume

pub returns-in-Some-clause-survives : goal.returns-in-Some-clause-survives
returns-in-Some-clause-survives g c = λ none. absurd (no_one c.args.log.now.broken c.in-Some.entry c.in-Some.is none)

pub returns-in-Some-clause-kept : goal.returns-in-Some-clause-kept
returns-in-Some-clause-kept g c = λ none. absurd (no_one c.args.log.now.broken c.in-Some.entry c.in-Some.is none)

pub returns-in-Some-clause-added : goal.returns-in-Some-clause-added
returns-in-Some-clause-added g c =
    let before = entries_of c.args.log.now.history in
    let after = entries_of c.put.new.self in
    let put : after ≡ before ++ c.entry_of.result ∷ [] = c.put.ensures.entries in
    added-put before after c.entry_of.result put

pub returns-in-Some-clause-entry : goal.returns-in-Some-clause-entry
returns-in-Some-clause-entry g c =
    let before = entries_of c.args.log.now.history in
    let after = entries_of c.put.new.self in
    let put : after ≡ before ++ c.entry_of.result ∷ [] = c.put.ensures.entries in
    let same : newest after ≡ c.entry_of.result = newest-put before after c.entry_of.result put in
    is-entry c.args.actor c.args.seq c.args.at 0 (Broken c.in-Some.entry) (newest after) (same ∙ c.entry_of.ensures)

pub returns-in-Some-clause-follows : goal.returns-in-Some-clause-follows
returns-in-Some-clause-follows g c = λ told texts calls is_call.
    let before = entries_of c.args.log.now.history in
    let after = entries_of c.put.new.self in
    let put : after ≡ before ++ c.entry_of.result ∷ [] = c.put.ensures.entries in
    let same : newest after ≡ c.entry_of.result = newest-put before after c.entry_of.result put in
    let w : World = world_of (g.D.Disk.means (disk_of c.args.engine.now)).shows c.args.engine.now in
    broken-put texts calls w (length (entries_of c.args.log.now.history)) c.args.actor c.args.seq c.args.at c.args.call.now is_call c.args.log.now.broken c.in-Some.entry _ (newest after) c.in-Some.is (longer-put before after c.entry_of.result put) (same ∙ c.entry_of.ensures)

pub returns-in-Some-clause-refused : goal.returns-in-Some-clause-refused
returns-in-Some-clause-refused g c =
    let before = entries_of c.args.log.now.history in
    let after = entries_of c.put.new.self in
    let put : after ≡ before ++ c.entry_of.result ∷ [] = c.put.ensures.entries in
    let same : newest after ≡ c.entry_of.result = newest-put before after c.entry_of.result put in
    let replied : (newest after).reply ≡ Broken c.in-Some.entry = ap (λ (e : Entry). e.reply) (same ∙ c.entry_of.ensures) in
    subst (λ (o : Option ℕ). MatchOption o (is_broken (newest after).reply ≡ false) (λ number. (newest after).reply ≡ Broken number)) (sym c.in-Some.is) replied

pub returns-in-Some-clause-cause : goal.returns-in-Some-clause-cause
returns-in-Some-clause-cause g c =
    let before = entries_of c.args.log.now.history in
    let after = entries_of c.put.new.self in
    let put : after ≡ before ++ c.entry_of.result ∷ [] = c.put.ensures.entries in
    let same : newest after ≡ c.entry_of.result = newest-put before after c.entry_of.result put in
    let replied : (newest after).reply ≡ Broken c.in-Some.entry = ap (λ (e : Entry). e.reply) (same ∙ c.entry_of.ensures) in
    broken-cause (g.D.Disk.means (disk_of c.args.engine.now)) c.in-Some.entry (newest after).reply replied

pub returns-in-Some-clause-synced : goal.returns-in-Some-clause-synced
returns-in-Some-clause-synced g c = λ is_sync ordinary told w keeps.
    let before = entries_of c.args.log.now.history in
    let after = entries_of c.put.new.self in
    let put : after ≡ before ++ c.entry_of.result ∷ [] = c.put.ensures.entries in
    let same : newest after ≡ c.entry_of.result = newest-put before after c.entry_of.result put in
    let replied : (newest after).reply ≡ Broken c.in-Some.entry = ap (λ (e : Entry). e.reply) (same ∙ c.entry_of.ensures) in
    absurd (false≢true (sym ordinary ∙ ap is_fault replied))

pub returns-in-Some-clause-freezes : goal.returns-in-Some-clause-freezes
returns-in-Some-clause-freezes g c = λ name nodata removable is_create created.
    let before = entries_of c.args.log.now.history in
    let after = entries_of c.put.new.self in
    let put : after ≡ before ++ c.entry_of.result ∷ [] = c.put.ensures.entries in
    let same : newest after ≡ c.entry_of.result = newest-put before after c.entry_of.result put in
    let replied : (newest after).reply ≡ Broken c.in-Some.entry = ap (λ (e : Entry). e.reply) (same ∙ c.entry_of.ensures) in
    absurd (false≢true (subst IsSome (ap created_id replied) created))

not_done : (number : ℕ) → Broken number ≡ Done → ⊥
not_done number h = cc

pub returns-in-Some-clause-removes : goal.returns-in-Some-clause-removes
returns-in-Some-clause-removes g c = λ name is_remove done.
    let before = entries_of c.args.log.now.history in
    let after = entries_of c.put.new.self in
    let put : after ≡ before ++ c.entry_of.result ∷ [] = c.put.ensures.entries in
    let same : newest after ≡ c.entry_of.result = newest-put before after c.entry_of.result put in
    let replied : (newest after).reply ≡ Broken c.in-Some.entry = ap (λ (e : Entry). e.reply) (same ∙ c.entry_of.ensures) in
    absurd (not_done c.in-Some.entry (sym replied ∙ done))

pub returns-in-Some-clause-flags : goal.returns-in-Some-clause-flags
returns-in-Some-clause-flags g c = λ name on is_removable done.
    let before = entries_of c.args.log.now.history in
    let after = entries_of c.put.new.self in
    let put : after ≡ before ++ c.entry_of.result ∷ [] = c.put.ensures.entries in
    let same : newest after ≡ c.entry_of.result = newest-put before after c.entry_of.result put in
    let replied : (newest after).reply ≡ Broken c.in-Some.entry = ap (λ (e : Entry). e.reply) (same ∙ c.entry_of.ensures) in
    absurd (not_done c.in-Some.entry (sym replied ∙ done))

not_zero : (number : ℕ) → reply_number (Broken number) ≡ 0 → ⊥
not_zero number h = omega (arith, h)

pub returns-in-Some-clause-converts : goal.returns-in-Some-clause-converts
returns-in-Some-clause-converts g c = λ name synchronous is_nodata zero.
    let before = entries_of c.args.log.now.history in
    let after = entries_of c.put.new.self in
    let put : after ≡ before ++ c.entry_of.result ∷ [] = c.put.ensures.entries in
    let same : newest after ≡ c.entry_of.result = newest-put before after c.entry_of.result put in
    let replied : (newest after).reply ≡ Broken c.in-Some.entry = ap (λ (e : Entry). e.reply) (same ∙ c.entry_of.ensures) in
    absurd (not_zero c.in-Some.entry (sym (ap reply_number replied) ∙ zero))

of_broken : (call : Call) (number count : ℕ) → IsLastOf call (Broken number) count
of_broken (Cread letter path at len) number count = tt
of_broken _ number count = tt

pub returns-in-Some-clause-last : goal.returns-in-Some-clause-last
returns-in-Some-clause-last g c =
    let before = entries_of c.args.log.now.history in
    let after = entries_of c.put.new.self in
    let put : after ≡ before ++ c.entry_of.result ∷ [] = c.put.ensures.entries in
    let same : newest after ≡ c.entry_of.result = newest-put before after c.entry_of.result put in
    let replied : (newest after).reply ≡ Broken c.in-Some.entry = ap (λ (e : Entry). e.reply) (same ∙ c.entry_of.ensures) in
    subst (λ (reply : Reply). IsLastOf c.args.call.now reply (had_of c.args.progress.now + 1)) (sym replied) (of_broken c.args.call.now c.in-Some.entry (had_of c.args.progress.now + 1))

-- ---- where it was answered

pub returns-in-Replied-clause-last : goal.returns-in-Replied-clause-last
returns-in-Replied-clause-last g c =
    let before = entries_of c.args.log.now.history in
    let after = entries_of c.put-in-Replied.new.self in
    let put : after ≡ before ++ c.entry_of-in-Replied.result ∷ [] = c.put-in-Replied.ensures.entries ∙ ap (λ (h : History). entries_of h ++ c.entry_of-in-Replied.result ∷ []) c.one_event-count.ensures.history in
    let same : newest after ≡ c.entry_of-in-Replied.result = newest-put before after c.entry_of-in-Replied.result put in
    let replied : (newest after).reply ≡ c.in-Replied.reply = ap (λ (e : Entry). e.reply) (same ∙ c.entry_of-in-Replied.ensures) in
    subst (λ (reply : Reply). IsLastOf c.args.call.now reply (had_of c.args.progress.now + 1)) (sym replied)
    (subst (λ (p : Progress). IsLastOf c.args.call.now c.in-Replied.reply (had_of p + 1)) c.replace-begun.ensures.value (of_reply _ _ _ c.in-Replied.is c.one_event-count.ensures.last))

pub returns-in-Replied-clause-survives : goal.returns-in-Replied-clause-survives
returns-in-Replied-clause-survives g c = λ whole.
    let before = entries_of c.args.log.now.history in
    let after = entries_of c.put-in-Replied.new.self in
    let put : after ≡ before ++ c.entry_of-in-Replied.result ∷ [] = c.put-in-Replied.ensures.entries ∙ ap (λ (h : History). entries_of h ++ c.entry_of-in-Replied.result ∷ []) c.one_event-count.ensures.history in
    let same : newest after ≡ c.entry_of-in-Replied.result = newest-put before after c.entry_of-in-Replied.result put in
    let given : (newest after).given ≡ c.one_event-count.result.count = ap (λ (e : Entry). e.given) (same ∙ c.entry_of-in-Replied.ensures) in
    subst (λ n. SurvivesOnTheWay n (g.D.Disk.means (disk_of c.args.engine.now)) (g.D.Disk.means (disk_of c.one_event-count.new.engine)) (present c.args.engine.now c.args.log.now)) (sym given) c.one_event-count.ensures.survives

pub returns-in-Replied-clause-kept : goal.returns-in-Replied-clause-kept
returns-in-Replied-clause-kept g c = λ unbroken told w keeps.
    let before = entries_of c.args.log.now.history in
    let after = entries_of c.put-in-Replied.new.self in
    let put : after ≡ before ++ c.entry_of-in-Replied.result ∷ [] = c.put-in-Replied.ensures.entries ∙ ap (λ (h : History). entries_of h ++ c.entry_of-in-Replied.result ∷ []) c.one_event-count.ensures.history in
    let same : newest after ≡ c.entry_of-in-Replied.result = newest-put before after c.entry_of-in-Replied.result put in
    let given : (newest after).given ≡ c.one_event-count.result.count = ap (λ (e : Entry). e.given) (same ∙ c.entry_of-in-Replied.ensures) in
    let middle = c.one_event-count.new.engine in
    let here : World = world_of (g.D.Disk.means (disk_of c.args.engine.now)).shows c.args.engine.now in
    subst (λ n. KeepsOnTheWay n (g.D.Disk.means (disk_of middle)) (present middle c.one_event-count.new.log) w here) (sym given) (c.one_event-count.ensures.kept unbroken told w keeps)

pub returns-in-Replied-clause-added : goal.returns-in-Replied-clause-added
returns-in-Replied-clause-added g c =
    let before = entries_of c.args.log.now.history in
    let after = entries_of c.put-in-Replied.new.self in
    let put : after ≡ before ++ c.entry_of-in-Replied.result ∷ [] = c.put-in-Replied.ensures.entries ∙ ap (λ (h : History). entries_of h ++ c.entry_of-in-Replied.result ∷ []) c.one_event-count.ensures.history in
    added-put before after c.entry_of-in-Replied.result put

pub returns-in-Replied-clause-entry : goal.returns-in-Replied-clause-entry
returns-in-Replied-clause-entry g c =
    let before = entries_of c.args.log.now.history in
    let after = entries_of c.put-in-Replied.new.self in
    let put : after ≡ before ++ c.entry_of-in-Replied.result ∷ [] = c.put-in-Replied.ensures.entries ∙ ap (λ (h : History). entries_of h ++ c.entry_of-in-Replied.result ∷ []) c.one_event-count.ensures.history in
    let same : newest after ≡ c.entry_of-in-Replied.result = newest-put before after c.entry_of-in-Replied.result put in
    is-entry c.args.actor c.args.seq c.args.at c.one_event-count.result.count c.in-Replied.reply (newest after) (same ∙ c.entry_of-in-Replied.ensures)

pub returns-in-Replied-clause-follows : goal.returns-in-Replied-clause-follows
returns-in-Replied-clause-follows g c = λ told texts calls is_call.
    let unbroken : c.args.log.now.broken ≡ None = search rules in
    let before = entries_of c.args.log.now.history in
    let after = entries_of c.put-in-Replied.new.self in
    let put : after ≡ before ++ c.entry_of-in-Replied.result ∷ [] = c.put-in-Replied.ensures.entries ∙ ap (λ (h : History). entries_of h ++ c.entry_of-in-Replied.result ∷ []) c.one_event-count.ensures.history in
    let same : newest after ≡ c.entry_of-in-Replied.result = newest-put before after c.entry_of-in-Replied.result put in
    let w : World = world_of (g.D.Disk.means (disk_of c.args.engine.now)).shows c.args.engine.now in
    let next : World = world_of (g.D.Disk.means (disk_of c.one_event-count.new.engine)).shows c.one_event-count.new.engine in
    answered-put texts calls w (length (entries_of c.args.log.now.history)) c.args.actor c.args.seq c.args.at c.args.call.now is_call
    c.one_event-count.result.count c.in-Replied.reply next ((of_reply _ _ _ c.in-Replied.is c.one_event-count.ensures.answers) told texts)
    c.args.log.now.broken c.one_event-count.new.log.broken _ (newest after) unbroken (of_reply _ _ _ c.in-Replied.is c.one_event-count.ensures.broken) (longer-put before after c.entry_of-in-Replied.result put) (same ∙ c.entry_of-in-Replied.ensures) (of_reply _ _ _ c.in-Replied.is c.one_event-count.ensures.not_refused)

pub returns-in-Replied-clause-broken : goal.returns-in-Replied-clause-broken
returns-in-Replied-clause-broken g c =
    let unbroken : c.args.log.now.broken ≡ None = search rules in
    let before = entries_of c.args.log.now.history in
    let after = entries_of c.put-in-Replied.new.self in
    let put : after ≡ before ++ c.entry_of-in-Replied.result ∷ [] = c.put-in-Replied.ensures.entries ∙ ap (λ (h : History). entries_of h ++ c.entry_of-in-Replied.result ∷ []) c.one_event-count.ensures.history in
    let same : newest after ≡ c.entry_of-in-Replied.result = newest-put before after c.entry_of-in-Replied.result put in
    let replied : (newest after).reply ≡ c.in-Replied.reply = ap (λ (e : Entry). e.reply) (same ∙ c.entry_of-in-Replied.ensures) in
    (of_reply _ _ _ c.in-Replied.is c.one_event-count.ensures.broken)
    ∙ ap (λ (reply : Reply). if is_write_fault reply then Some (length (entries_of c.args.log.now.history)) else None) (sym replied)
    ∙ ap (λ (o : Option ℕ). option_or o (if is_write_fault (newest after).reply then Some (length (entries_of c.args.log.now.history)) else None)) (sym unbroken)

pub returns-in-Replied-clause-refused : goal.returns-in-Replied-clause-refused
returns-in-Replied-clause-refused g c =
    let unbroken : c.args.log.now.broken ≡ None = search rules in
    let before = entries_of c.args.log.now.history in
    let after = entries_of c.put-in-Replied.new.self in
    let put : after ≡ before ++ c.entry_of-in-Replied.result ∷ [] = c.put-in-Replied.ensures.entries ∙ ap (λ (h : History). entries_of h ++ c.entry_of-in-Replied.result ∷ []) c.one_event-count.ensures.history in
    let same : newest after ≡ c.entry_of-in-Replied.result = newest-put before after c.entry_of-in-Replied.result put in
    let replied : (newest after).reply ≡ c.in-Replied.reply = ap (λ (e : Entry). e.reply) (same ∙ c.entry_of-in-Replied.ensures) in
    subst (λ (o : Option ℕ). MatchOption o (is_broken (newest after).reply ≡ false) (λ number. (newest after).reply ≡ Broken number)) (sym unbroken)
    (ap is_broken replied ∙ (of_reply _ _ _ c.in-Replied.is c.one_event-count.ensures.not_refused))

pub returns-in-Replied-clause-cause : goal.returns-in-Replied-clause-cause
returns-in-Replied-clause-cause g c =
    let before = entries_of c.args.log.now.history in
    let after = entries_of c.put-in-Replied.new.self in
    let put : after ≡ before ++ c.entry_of-in-Replied.result ∷ [] = c.put-in-Replied.ensures.entries ∙ ap (λ (h : History). entries_of h ++ c.entry_of-in-Replied.result ∷ []) c.one_event-count.ensures.history in
    let same : newest after ≡ c.entry_of-in-Replied.result = newest-put before after c.entry_of-in-Replied.result put in
    let replied : (newest after).reply ≡ c.in-Replied.reply = ap (λ (e : Entry). e.reply) (same ∙ c.entry_of-in-Replied.ensures) in
    subst (HasCause (g.D.Disk.means (disk_of c.args.engine.now)) (g.D.Disk.means (disk_of c.one_event-count.new.engine))) (sym replied) (of_reply _ _ _ c.in-Replied.is c.one_event-count.ensures.cause)

pub returns-in-Replied-clause-synced : goal.returns-in-Replied-clause-synced
returns-in-Replied-clause-synced g c = λ is_sync ordinary told w keeps.
    let before = entries_of c.args.log.now.history in
    let after = entries_of c.put-in-Replied.new.self in
    let put : after ≡ before ++ c.entry_of-in-Replied.result ∷ [] = c.put-in-Replied.ensures.entries ∙ ap (λ (h : History). entries_of h ++ c.entry_of-in-Replied.result ∷ []) c.one_event-count.ensures.history in
    let same : newest after ≡ c.entry_of-in-Replied.result = newest-put before after c.entry_of-in-Replied.result put in
    let replied : (newest after).reply ≡ c.in-Replied.reply = ap (λ (e : Entry). e.reply) (same ∙ c.entry_of-in-Replied.ensures) in
    (of_reply _ _ _ c.in-Replied.is c.one_event-count.ensures.synced) is_sync (sym (ap is_fault replied) ∙ ordinary) told w keeps

pub returns-in-Replied-clause-freezes : goal.returns-in-Replied-clause-freezes
returns-in-Replied-clause-freezes g c = λ name nodata removable is_create created.
    let before = entries_of c.args.log.now.history in
    let after = entries_of c.put-in-Replied.new.self in
    let put : after ≡ before ++ c.entry_of-in-Replied.result ∷ [] = c.put-in-Replied.ensures.entries ∙ ap (λ (h : History). entries_of h ++ c.entry_of-in-Replied.result ∷ []) c.one_event-count.ensures.history in
    let same : newest after ≡ c.entry_of-in-Replied.result = newest-put before after c.entry_of-in-Replied.result put in
    let replied : (newest after).reply ≡ c.in-Replied.reply = ap (λ (e : Entry). e.reply) (same ∙ c.entry_of-in-Replied.ensures) in
    (of_reply _ _ _ c.in-Replied.is c.one_event-count.ensures.freezes) name nodata removable is_create (subst IsSome (ap created_id replied) created)

pub returns-in-Replied-clause-removes : goal.returns-in-Replied-clause-removes
returns-in-Replied-clause-removes g c = λ name is_remove done.
    let before = entries_of c.args.log.now.history in
    let after = entries_of c.put-in-Replied.new.self in
    let put : after ≡ before ++ c.entry_of-in-Replied.result ∷ [] = c.put-in-Replied.ensures.entries ∙ ap (λ (h : History). entries_of h ++ c.entry_of-in-Replied.result ∷ []) c.one_event-count.ensures.history in
    let same : newest after ≡ c.entry_of-in-Replied.result = newest-put before after c.entry_of-in-Replied.result put in
    let replied : (newest after).reply ≡ c.in-Replied.reply = ap (λ (e : Entry). e.reply) (same ∙ c.entry_of-in-Replied.ensures) in
    (of_reply _ _ _ c.in-Replied.is c.one_event-count.ensures.removes) name is_remove (sym replied ∙ done)

pub returns-in-Replied-clause-flags : goal.returns-in-Replied-clause-flags
returns-in-Replied-clause-flags g c = λ name on is_removable done.
    let before = entries_of c.args.log.now.history in
    let after = entries_of c.put-in-Replied.new.self in
    let put : after ≡ before ++ c.entry_of-in-Replied.result ∷ [] = c.put-in-Replied.ensures.entries ∙ ap (λ (h : History). entries_of h ++ c.entry_of-in-Replied.result ∷ []) c.one_event-count.ensures.history in
    let same : newest after ≡ c.entry_of-in-Replied.result = newest-put before after c.entry_of-in-Replied.result put in
    let replied : (newest after).reply ≡ c.in-Replied.reply = ap (λ (e : Entry). e.reply) (same ∙ c.entry_of-in-Replied.ensures) in
    (of_reply _ _ _ c.in-Replied.is c.one_event-count.ensures.flags) name on is_removable (sym replied ∙ done)

pub returns-in-Replied-clause-converts : goal.returns-in-Replied-clause-converts
returns-in-Replied-clause-converts g c = λ name synchronous is_nodata zero.
    let before = entries_of c.args.log.now.history in
    let after = entries_of c.put-in-Replied.new.self in
    let put : after ≡ before ++ c.entry_of-in-Replied.result ∷ [] = c.put-in-Replied.ensures.entries ∙ ap (λ (h : History). entries_of h ++ c.entry_of-in-Replied.result ∷ []) c.one_event-count.ensures.history in
    let same : newest after ≡ c.entry_of-in-Replied.result = newest-put before after c.entry_of-in-Replied.result put in
    let replied : (newest after).reply ≡ c.in-Replied.reply = ap (λ (e : Entry). e.reply) (same ∙ c.entry_of-in-Replied.ensures) in
    subst (λ (reply : Reply). IsConverted name reply (table_of c.args.engine.now) (table_of c.one_event-count.new.engine)) (sym replied)
    ((of_reply _ _ _ c.in-Replied.is c.one_event-count.ensures.converts) name synchronous is_nodata (sym (ap reply_number replied) ∙ zero))
