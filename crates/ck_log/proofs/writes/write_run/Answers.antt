use Rattle.std.proofs.Common.{◌+◌, ◌<◌, IsTrue, length, refl, sym, ◌∙◌, ap, subst, arith}
use Rattle.ck_disk.specs.Disk.{Outside, Agrees, Image}
use Rattle.ck_disk.proofs.MomentLaws.{writes_on, agrees_set, agrees_on}
use Rattle.ck_log.specs.Images.{part}
use Rattle.ck_log.proofs.Parts.{run_more, apart_run}
use Rattle.ck_log.proofs.writes.write_run.Goals as goal

pub returns-in_err-write-clause-any_moment : goal.returns-in_err-write-clause-any_moment
returns-in_err-write-clause-any_moment g c =
    let i = c.loop-block.invariant in
    writes_on _ _ _ _ c.loop-block.place (apart_run c.args.at (length c.args.blocks.now) c.loop-block.block-index c.loop-block.place i.place (omega arith))
    (g.met.D.Disk.lawful c.loop-block.disk) i.any_moment c.write.ensures.step c.write.ensures.crash

pub loop-block-preserved : goal.loop-block-preserved
loop-block-preserved g c =
    let i = c.loop-block.invariant in
    let within : c.loop-block.block-index < length c.args.blocks.now = omega arith in
    let apart = apart_run c.args.at (length c.args.blocks.now) c.loop-block.block-index c.loop-block.place i.place within in
    let law = g.met.D.Disk.lawful c.loop-block.disk in
    let still : IsTrue (g.D.Disk.means c.args.disk.now).tells → IsTrue (g.D.Disk.means c.loop-block.disk).tells = λ told. subst (λ b. IsTrue b) (sym i.any_moment.tells) told in
    record {
      place = omega arith;
      any_moment = writes_on _ _ _ _ c.loop-block.place apart law i.any_moment c.write.ensures.step c.write.ensures.crash;
      written = λ told.
          ap (λ (x : Image). part c.args.at (c.loop-block.block-index + 1) x) (c.in_ok-write.ensures.bytes (still told))
          ∙ run_more (g.D.Disk.means c.loop-block.disk).shows c.args.at c.loop-block.block-index c.loop-block.place _ c.args.blocks.now i.place
          (omega (arith, law.whole (still told), i.any_moment.size)) within refl (i.written told);
      others = λ told.
          let put = c.write.ensures.others (still told) in
          agrees_on _ _ _ _ (i.others told) (subst (λ (x : Image). Agrees (Outside c.args.at (length c.args.blocks.now)) (g.D.Disk.means c.loop-block.disk).shows x) (sym put.1) (agrees_set _ (g.D.Disk.means c.loop-block.disk).shows c.loop-block.place put.0 apart));
    }
