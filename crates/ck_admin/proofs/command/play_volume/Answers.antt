use Rattle.std.proofs.Common.{◌≡◌, List, inl, inr, refl, sym, ◌∙◌, subst}
use Rattle.ck_disk.specs.Disk.{Meaning, LeavesOnly}
use Rattle.ck_model.specs.declared.entry.Entry.{Entry}
use Rattle.ck_volume.specs.Volume.{disk_of, world_of}
use Rattle.ck_disk.proofs.MomentLaws.{leaves_start}
use Rattle.ck_admin.specs.Crash.{IsPlayed}
use Rattle.ck_admin.specs.Ends.{EndsOn}
use Rattle.ck_admin.specs.Play.{parsed}
use Rattle.ck_admin.proofs.command.play_volume.Goals as goal

pub returns-clause-ends : goal.returns-clause-ends
returns-clause-ends g c =
    let old = g.K.Sink.means c.args.out.now in
    let new = g.K.Sink.means c.print-printed.new.out in
    let clock = g.C.Clock.means c.args.clock.now in
    let script = parsed c.args.script.now in
    let mid : Meaning = g.D.Disk.means (disk_of c.args.volume) in
    let w = world_of mid.shows c.args.volume in
    let played = c.play_and_commit-played.new.volume in
    let history = c.close-disk.result.history.items in
    subst (λ disk. EndsOn script clock w mid (g.D.Disk.means disk) old new c.status_of.result) (sym c.close-disk.ensures.disk)
    (inr (record {
      history = history;
      committed = c.in-Ok.committed;
      printed = c.print-printed.result;
      played = subst (λ (es : List Entry). IsPlayed script clock w mid (g.D.Disk.means (disk_of played)) es c.in-Ok.committed) (sym c.close-disk.ensures.history) c.in-Ok.ensures.played;
      whole = rw c.deref.ensures.value at c.print-printed.ensures.whole;
      fault = rw c.deref.ensures.value at c.print-printed.ensures.fault;
      status_is = c.status_of.ensures;
    }))

pub returns-in_default-clause-ends : goal.returns-in_default-clause-ends
returns-in_default-clause-ends g c =
    let mid : Meaning = g.D.Disk.means (disk_of c.args.volume) in
    let same : c.close-disk.result.disk ≡ disk_of c.args.volume = c.close-disk.ensures.disk ∙ c.in_default.ensures.refused in
    inl (record {
      status_is = refl;
      nothing = λ told. refl;
      left = subst (λ (d : g.row.D.Denot). LeavesOnly mid (g.D.Disk.means d) mid.may_leave) (sym same) (leaves_start mid mid.may_leave (g.met.D.Disk.lawful (disk_of c.args.volume)) (λ image left. left));
    })
