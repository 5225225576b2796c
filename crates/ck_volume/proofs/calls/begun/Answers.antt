use Rattle.std.proofs.Common.{◌≡◌, ℕ, [], None, List, sym, ap, subst, ◌∙◌, arith}
use Rattle.ck_model.specs.declared.entry.Entry.{Entry}
use Rattle.ck_engine.specs.Engine.{disk_of, world_of}
use Rattle.ck_disk.specs.Runs.{Runs}
use Rattle.ck_engine.proofs.KeptLaws.{recovers-one}
use Rattle.ck_volume.specs.Causes.{HasCauses}
use Rattle.ck_volume.specs.Cuts.{LeavesCuts}
use Rattle.ck_volume.specs.Kept.{broken_by, BreaksFrom, HasCalls, Stands}
use Rattle.ck_volume.specs.Present.{present, history_of, broken_of}
use Rattle.ck_volume.proofs.CallsLemmas.{calls-none}
use Rattle.ck_volume.proofs.CausesLemmas.{causes-none}
use Rattle.ck_disk.proofs.RunLaws.{runs-none}
use Rattle.ck_volume.proofs.CutsLaws.{cuts-begin}
use Rattle.ck_volume.proofs.StandsLaws.{or-entry, stands-begins}
use Rattle.ck_volume.proofs.calls.begun.Goals as goal

pub invariant_of-result : goal.invariant_of-result
invariant_of-result g c =
    let means = g.D.Disk.means in
    let engine = c.args.engine in
    let volume = present engine c.new.result in
    let m = means (disk_of engine) in
    let origin : c.of.result.value ≡ disk_of engine = c.of.ensures ∙ c.disk.ensures in
    let none : history_of volume ≡ [] = c.new.ensures.history in
    let unbroken : broken_of volume ≡ broken_by 0 None (history_of volume) = c.new.ensures.unbroken ∙ sym (ap (λ (h : List Entry). broken_by 0 None h) none) in
    record {
      kept = record {
        ready = ∣ (λ _. c.requires.begun.whole) ∣₁;
        runs = subst (λ (d : g.row.D.Denot). Runs (means d) m) (sym origin) (runs-none m);
        causes = subst (λ (d : g.row.D.Denot). HasCauses (means d) m (history_of volume)) (sym origin) (subst (λ (h : List Entry). HasCauses m m h) (sym none) (causes-none m));
        breaks = or-entry (broken_by 0 None (history_of volume)) c.of-3.result.value (broken_of volume) unbroken c.of-3.ensures;
        replies = subst (λ (h : List Entry). ∥ BreaksFrom 0 None h ∥₁) (sym none) ∣ tt ∣₁;
        begins = subst (λ (d : g.row.D.Denot). ∥ HasCalls (means d) [] (history_of volume) ∥₁) (sym origin)
            (subst (λ (h : List Entry). ∥ HasCalls m [] h ∥₁) (sym none) ∣ calls-none m (world_of m.shows engine) c.requires.recovers ∣₁);
        stands = subst (λ (d : g.row.D.Denot). ∥ Stands (means d) m [] volume ∥₁) (sym origin) ∣ stands-begins m volume none c.requires.recovers ∣₁;
        within = omega (arith, c.of-2.ensures);
        cuts = subst (λ (d : g.row.D.Denot). ∥ LeavesCuts (means d) m [] c.of-2.result.value volume ∥₁) (sym origin)
            (subst (λ (n : ℕ). ∥ LeavesCuts m m [] n volume ∥₁) (sym c.of-2.ensures)
            ∣ cuts-begin m volume (g.met.D.Disk.lawful (disk_of engine)) none (λ told first found. recovers-one m.shows first (world_of m.shows engine) found (c.requires.recovers told)) c.requires.kept ∣₁);
      };
    }

pub returns-clause-begun : goal.returns-clause-begun
returns-clause-begun g c = record { whole = c.requires.begun.whole; history_is = c.new.ensures.history; unbroken = c.new.ensures.unbroken; mounts_are = c.requires.begun.mounts_are }
