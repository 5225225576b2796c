use Rattle.std.proofs.Common.{◌≡◌, ◌≤◌, ◌∙◌, refl, ℕ, List, Option, None, Some, IsTrue, length, ap, sym, subst, arith}
use Rattle.std.specs.List.{AllByRecursion}
use mathlib.Core.Logic.{∥∥₁_map}
use Rattle.ck_disk.specs.Disk.{Meaning}
use Rattle.ck_model.specs.declared.call.Call.{Call}
use Rattle.ck_model.specs.declared.entry.Entry.{Entry}
use Rattle.ck_model.specs.History.{CallsBy, IsOfScript, call_at}
use Rattle.ck_model.specs.World.{World, unmounted}
use Rattle.ck_model.specs.Streams.{Texts}
use Rattle.ck_script.specs.Numbered.{calls_in}
use Rattle.ck_script.specs.Parsed.{Parsed}
use Rattle.ck_actor.specs.Turns.{Follows}
use Rattle.ck_volume.specs.declared.commit.CommitAnswer.{CommitAnswer}
use Rattle.ck_volume.specs.declared.commit.CommitAnswer.TheVariants as answer
use Rattle.ck_volume.specs.Causes.{HasCauses}
use Rattle.ck_volume.specs.Cuts.{LeavesCuts as KeepsCuts}
use Rattle.ck_disk.specs.Runs.{Runs}
use Rattle.ck_engine.specs.Exact.{IsExact}
use Rattle.ck_volume.specs.Kept.{Stands, broken_by}
use Rattle.ck_engine.specs.Recovery.{Recovers}
use Rattle.ck_volume.specs.Told.{AreAnswered}
use Rattle.ck_volume.specs.Volume.{disk_of, history_of, length_of, committed_of, told_of, origin_of, broken_of, spoilt_of, world_of, present_of}
use Rattle.ck_volume.proofs.CutsLaws.{stands-now}
use Rattle.ck_volume.proofs.StandsLaws.{by-entry}
use Rattle.ck_volume.proofs.StoodLaws.{stood, breaks-known}
use Rattle.ck_admin.specs.Crash.{synced_count, LeavesSince, IsPlayed}
use Rattle.ck_admin.specs.Play.{parsed, IsPlay}
use Rattle.ck_admin.proofs.CrashLemmas.{committed_no_less, cuts_since}
use Rattle.ck_admin.proofs.PlayedLemmas.{played}
use Rattle.ck_admin.proofs.session.play_and_commit.Goals as goal

-- a commit that was done found the volume whole
unbroken_done : (broken : Option ℕ) (result : CommitAnswer) → ((n : ℕ) → broken ≡ Some n → result ≡ answer.Broken n) → result ≡ answer.Done → broken ≡ None
unbroken_done None result refused done = refl
unbroken_done (Some n) result refused done = absurd (apart (sym (refused n refl) ∙ done))
  where
    apart : answer.Broken n ≡ answer.Done → ⊥
    apart h = cc

pub returns-clause-played : goal.returns-clause-played
returns-clause-played g c =
    let means = g.D.Disk.means in
    let script : Parsed = parsed c.args.script.now in
    let calls : CallsBy = call_at (calls_in script.calls) in
    let clock = g.C.Clock.means c.args.clock.now in
    let first = c.args.volume.now in
    let before = c.play.new.volume in
    let after = c.commit.new.self in
    let commit = c.commit.ensures in
    let play = c.in_ok-play.ensures in
    let old : Meaning = means (disk_of first) in
    let mid : Meaning = means (disk_of before) in
    let new : Meaning = means (disk_of after) in
    let w : World = world_of old.shows first in
    let origin : origin_of after ≡ disk_of first = commit.origin ∙ c.play.ensures.origin ∙ c.requires.origin in
    let from : origin_of before ≡ disk_of first = c.play.ensures.origin ∙ c.requires.origin in
    let answered : AreAnswered calls (told_of after) (history_of after) =
    subst (λ (told : List Call). AreAnswered calls told (history_of after)) (sym commit.told) (subst (λ (es : List Entry). AreAnswered calls (told_of before) es) (sym commit.history) play.answered) in
    let many : length_of after ≡ length_of before = ap (λ (es : List Entry). length es) commit.history in
    let within : committed_of before ≤ length_of after = subst (λ (n : ℕ). committed_of before ≤ n) (sym many) before.kept.within in
    let counted : synced_count calls (history_of after) ≤ committed_of before = subst (λ (es : List Entry). synced_count calls es ≤ committed_of before) (sym commit.history) play.synced in
    let low : synced_count calls (history_of after) ≤ committed_of after =
    subst (λ (n : ℕ). synced_count calls (history_of after) ≤ n) (sym commit.committed_entries) (committed_no_less (synced_count calls (history_of after)) (committed_of before) (length_of after) c.commit.result counted within) in
    let known : ∥ KeepsCuts old new (told_of after) (committed_of after) (present_of after) ∥₁ =
    subst (λ (d : g.row.D.Denot). ∥ KeepsCuts (means d) new (told_of after) (committed_of after) (present_of after) ∥₁) origin after.kept.cuts in
    let stands : Stands old new (told_of after) (present_of after) =
    subst (λ (d : g.row.D.Denot). Stands (means d) new (told_of after) (present_of after)) origin (stood (means (origin_of after)) new (told_of after) (present_of after) commit.kept.stands) in
    let start : Runs old mid = subst (λ (d : g.row.D.Denot). Runs (means d) mid) from before.kept.runs in
    let all : Runs old new = subst (λ (d : g.row.D.Denot). Runs (means d) new) origin after.kept.runs in
    let play_of : IsPlay script clock w old new (history_of after) = record {
      legal = λ told texts. (stands told w (c.requires.recovers told) texts calls answered).0;
      of_script = subst (λ (es : List Entry). IsOfScript (calls_in script.calls) es) (sym commit.history) play.of_script;
      follows = λ told texts. subst (λ (es : List Entry). Follows texts script w es) (sym commit.history)
          (subst (λ (d : g.row.D.Denot). IsTrue (means d).tells → (v : World) → Recovers (means d).shows v → (texts : Texts) → Follows texts script v (history_of before)) c.requires.origin play.follows told w (c.requires.recovers told) texts);
      moments = subst (λ (es : List Entry). IsTrue clock.tells → AllByRecursion (λ (entry : Entry). entry.at ≡ clock.moment) es) (sym commit.history) play.moments;
      causes = subst (λ (d : g.row.D.Denot). HasCauses (means d) new (history_of after)) origin after.kept.causes;
      breaks = breaks-known (history_of after) after.kept.replies;
    } in
    let broke : broken_of before ≡ broken_by 0 None (history_of after) =
    by-entry (broken_by 0 None (history_of before)) (spoilt_of before) (broken_of before) before.kept.breaks play.unspoilt ∙ ap (λ (es : List Entry). broken_by 0 None es) (sym commit.history) in
    played script clock w old mid new (history_of after) before c.commit.result play_of broke start.writes (record { size = all.size; tells = all.tells; reads = all.reads; writes = all.writes })
    (∥∥₁_map known (λ cuts. cuts_since old new (present_of after) calls w (told_of after) (committed_of after) c.requires.recovers answered low cuts))
    commit.refused commit.not_refused commit.cause
    (λ done told texts image left.
    subst (λ (v : World). IsExact (unmounted v) image) (sym (stands-now old new (told_of after) (present_of after) told stands w (c.requires.recovers told) texts calls answered))
    (commit.exact (play.drained (unbroken_done (broken_of before) c.commit.result commit.refused done)) done (subst IsTrue (sym start.tells) told) image left))
