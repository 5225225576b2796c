use Rattle.std.proofs.Common.{◌≡◌, ◌≤◌, ℕ, List, None, length, is_some, IsTrue, sym, ap, subst, ◌∙◌}
use Rattle.std.specs.Option.{option_or}
use mathlib.Core.Logic.{∥∥₁_map}
use Rattle.ck_model.specs.declared.entry.Entry.{Entry}
use Rattle.ck_model.specs.World.{unmounted}
use Rattle.ck_volume.specs.Causes.{HasCauses}
use Rattle.ck_volume.specs.CommitAnswer.{committed_after, spoilt_after}
use Rattle.ck_engine.specs.Engine.{disk_of}
use Rattle.ck_history.specs.History.{entries_of}
use Rattle.ck_volume.specs.Present.{present, history_of, broken_of, world_of}
use Rattle.ck_volume.specs.Kept.{broken_by, BreaksFrom, HasCalls}
use Rattle.ck_volume.specs.Told.{told_of}
use Rattle.ck_volume.proofs.CausesLemmas.{causes-still}
use Rattle.ck_disk.proofs.RunLaws.{runs-more}
use Rattle.ck_volume.proofs.CutsAfter.{cuts-commit, unbroken-done}
use Rattle.ck_volume.proofs.ExactKnown.{exact-known}
use Rattle.ck_volume.proofs.StandsLaws.{breaks-commit, within-commit, stands-still}
use Rattle.ck_volume.proofs.StoodLaws.{stood, ready-known}
use Rattle.ck_volume.proofs.volume.Volume.commit.Goals as goal

pub commit-answer-requires : goal.commit-answer-requires
commit-answer-requires g c =
    let volume = c.args.self.now in
    record { ready = ready-known (g.D.Disk.means (disk_of volume.engine)) (present volume.engine volume.log) volume.kept.ready }

pub invariant_of-self : goal.invariant_of-self
invariant_of-self g c =
    let means = g.D.Disk.means in
    let volume = c.args.self.now in
    let before = present volume.engine volume.log in
    let after = present c.commit-answer.new.engine c.commit-answer.new.log in
    let answer = c.commit-answer.result in
    let commit = c.commit-answer.ensures in
    let origin = means volume.origin.value in
    let mid = means (disk_of volume.engine) in
    let new = means (disk_of c.commit-answer.new.engine) in
    let old : List Entry = history_of before in
    let history : history_of after ≡ old = ap entries_of commit.history in
    let many : c.length-answered.result ≡ length old = c.length-answered.ensures ∙ ap (λ (h : List Entry). length h) history in
    let spoilt = c.note_spoilt.new.spoilt.value in
    let noted : spoilt ≡ spoilt_after (length old) volume.spoilt.value answer = c.note_spoilt.ensures ∙ ap (λ (n : ℕ). spoilt_after n volume.spoilt.value answer) many in
    let counted : c.note_commit.new.committed.value ≡ committed_after (length old) volume.committed.value answer = c.note_commit.ensures ∙ ap (λ (n : ℕ). committed_after n volume.committed.value answer) many in
    let broken : broken_of after ≡ option_or (broken_by 0 None old) spoilt =
    commit.broken
    ∙ breaks-commit (broken_by 0 None old) volume.spoilt.value (broken_of before) (length old) answer volume.kept.breaks commit.refused
    ∙ ap (λ o. option_or (broken_by 0 None old) o) (sym noted) in
    let within : c.note_commit.new.committed.value ≤ length old = subst (λ (n : ℕ). n ≤ length old) (sym counted) (within-commit volume.committed.value (length old) answer volume.kept.within) in
    let noted_all : c.note_commit.new.committed.value ≡ committed_after (length (history_of after)) volume.committed.value answer =
    c.note_commit.ensures ∙ ap (λ (n : ℕ). committed_after n volume.committed.value answer) c.length-answered.ensures in
    record {
      kept = record {
        ready = ∣ commit.ready ∣₁;
        runs = runs-more origin mid new volume.kept.runs commit.runs;
        causes = subst (λ (h : List Entry). HasCauses origin new h) (sym history) (causes-still origin mid new old volume.kept.causes commit.runs);
        breaks = subst (λ (h : List Entry). broken_of after ≡ option_or (broken_by 0 None h) spoilt) (sym history) broken;
        replies = subst (λ (h : List Entry). ∥ BreaksFrom 0 None h ∥₁) (sym history) volume.kept.replies;
        begins = subst (λ (h : List Entry). ∥ HasCalls origin (told_of volume.told) h ∥₁) (sym history) volume.kept.begins;
        stands = ∥∥₁_map volume.kept.stands (λ stands. stands-still origin mid new (told_of volume.told) before after stands volume.kept.runs.tells history commit.world);
        within = subst (λ (h : List Entry). c.note_commit.new.committed.value ≤ length h) (sym history) within;
        cuts = ∥∥₁_map volume.kept.cuts
            (λ cuts. cuts-commit origin mid new (g.met.D.Disk.lawful (disk_of c.commit-answer.new.engine)) (told_of volume.told) volume.committed.value c.note_commit.new.committed.value before after cuts
            (stood origin mid (told_of volume.told) before volume.kept.stands) volume.kept.within history commit.runs commit.world commit.survives commit.kept
            (λ number is. ap means (commit.untouched (ap is_some is))) answer commit.broken commit.refused commit.committed noted_all);
      };
    }

pub returns-clause-committed_entries : goal.returns-clause-committed_entries
returns-clause-committed_entries g c = c.note_commit.ensures ∙ ap (λ (n : ℕ). committed_after n c.args.self.now.committed.value c.commit-answer.result) c.length-answered.ensures

pub returns-clause-spoilt : goal.returns-clause-spoilt
returns-clause-spoilt g c = c.note_spoilt.ensures ∙ ap (λ (n : ℕ). spoilt_after n c.args.self.now.spoilt.value c.commit-answer.result) c.length-answered.ensures

pub returns-clause-exact : goal.returns-clause-exact
returns-clause-exact g c = λ none done told image left.
    let volume = c.args.self.now in
    let before = present volume.engine volume.log in
    let after = present c.commit-answer.new.engine c.commit-answer.new.log in
    let commit = c.commit-answer.ensures in
    let new = g.D.Disk.means (disk_of c.commit-answer.new.engine) in
    let whole : broken_of before ≡ None = unbroken-done (broken_of before) c.commit-answer.result commit.refused done in
    exact-known (unmounted (world_of new.shows after)) image (∥∥₁_map volume.kept.cuts (λ cuts.
    let kept = cuts.kept whole (subst IsTrue volume.kept.runs.tells told) in
    commit.exact none done told kept.world kept.keeps image left))
