use Rattle.std.proofs.Common.{ℕ, List, [], ◌∷◌, ◌++◌, ◌<◌, IsTrue, get_or, length, take, length-append, sym, ap, subst, ◌∙◌, arith}
use Rattle.std.proofs.lemmas.List.{take_more}
use Rattle.ck_disk.specs.Disk.{Image}
use Rattle.ck_disk.proofs.RunLaws.{reads_on}
use Rattle.ck_log.specs.Images.{area_of}
use Rattle.ck_slots.proofs.OpenedLemmas.{area_long}
use Rattle.ck_slots.proofs.opened.read_slots.Goals as goal

pub loop-at-preserved : goal.loop-at-preserved
loop-at-preserved g c =
    let so_far = c.loop-at.invariant in
    let region = c.args.region.now in
    let old = g.D.Disk.means c.args.disk.now in
    let mid = g.D.Disk.means c.loop-at.disk in
    let law = g.met.D.Disk.lawful c.args.disk.now in
    let block = c.read.new.into in
    let read = so_far.read in
    record {
      read = (
        read.0 ++ block ∷ [],
        length-append read.0 (block ∷ []) ∙ omega (arith, read.1),
        c.in_ok-read_block-in-Ok.ensures.slots read.0 read.2,
        λ told.
            let area = area_of region old.shows in
            let within : c.loop-at.at < length area = omega (arith, area_long region old.shows (omega (arith, law.whole told, c.requires)), c.loop-at-test.true, c.table_blocks-count.ensures.value) in
            ap (λ (blocks : Image). blocks ++ block ∷ []) (read.3 told)
            ∙ ap (λ (b : List ℕ). take c.loop-at.at area ++ b ∷ [])
            (c.in-Ok.ensures.bytes (subst (λ b. IsTrue b) (sym so_far.device.step.tells) told) ∙ ap (λ (image : Image). get_or (area_of region image) c.loop-at.at []) so_far.device.shows)
            ∙ sym (take_more area c.loop-at.at [] within),
      );
      device = reads_on old mid (g.D.Disk.means c.read.new.disk) law so_far.device c.read.ensures.device;
    }
