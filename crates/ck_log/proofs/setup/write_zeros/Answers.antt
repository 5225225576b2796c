use Rattle.std.proofs.Common.{◌+◌, ◌<◌, IsTrue, [], length, replicate, refl, sym, ◌∙◌, ap, subst, arith}
use Rattle.std.proofs.lemmas.List.{get_or-replicate, length-replicate}
use Rattle.ck_disk.specs.Disk.{Outside, Agrees, Image}
use Rattle.ck_disk.proofs.MomentLaws.{writes_on, agrees_set, agrees_on}
use Rattle.ck_log.specs.Images.{part}
use Rattle.ck_log.specs.FirstTable.{blank_block}
use Rattle.ck_log.proofs.Parts.{run_more, apart_run}
use Rattle.ck_log.proofs.setup.write_zeros.Goals as goal

pub returns-in_err-write-clause-any_moment : goal.returns-in_err-write-clause-any_moment
returns-in_err-write-clause-any_moment g c =
    writes_on _ _ _ _ (c.args.at + c.loop-k.k) (apart_run c.args.at c.args.count c.loop-k.k (c.args.at + c.loop-k.k) refl c.loop-k-test.true)
    (g.met.D.Disk.lawful c.loop-k.disk) c.loop-k.invariant.any_moment c.write.ensures.step c.write.ensures.crash

pub loop-k-preserved : goal.loop-k-preserved
loop-k-preserved g c =
    let i = c.loop-k.invariant in
    let k = c.loop-k.k in
    let within : k < c.args.count = c.loop-k-test.true in
    let apart = apart_run c.args.at c.args.count k (c.args.at + k) refl within in
    let law = g.met.D.Disk.lawful c.loop-k.disk in
    let still : IsTrue (g.D.Disk.means c.args.disk.now).tells → IsTrue (g.D.Disk.means c.loop-k.disk).tells = λ told. subst (λ b. IsTrue b) (sym i.any_moment.tells) told in
    let some : k < length (replicate c.args.count blank_block) = omega (arith, length-replicate c.args.count blank_block) in
    record {
      any_moment = writes_on _ _ _ _ (c.args.at + k) apart law i.any_moment c.write.ensures.step c.write.ensures.crash;
      written = λ told.
          ap (λ (x : Image). part c.args.at (k + 1) x) (c.in_ok-write.ensures.bytes (still told))
          ∙ run_more (g.D.Disk.means c.loop-k.disk).shows c.args.at k (c.args.at + k) _ (replicate c.args.count blank_block) refl
          (omega (arith, law.whole (still told), i.any_moment.size, c.requires)) some (sym (get_or-replicate c.args.count k blank_block [] within)) (i.written told);
      others = λ told.
          let put = c.write.ensures.others (still told) in
          agrees_on _ _ _ _ (i.others told) (subst (λ (x : Image). Agrees (Outside c.args.at c.args.count) (g.D.Disk.means c.loop-k.disk).shows x) (sym put.1) (agrees_set _ (g.D.Disk.means c.loop-k.disk).shows (c.args.at + k) put.0 apart));
    }
