use Rattle.std.proofs.Common.{◌≡◌, ◌<◌, length, subst, ◌∙◌, arith}
use Rattle.ck_disk.specs.Disk.{Image, LeavesOnly}
use Rattle.ck_log.specs.Layout.{table_blocks}
use Rattle.ck_log.specs.Images.{table_on, CommitLeaves}
use Rattle.ck_slots.specs.Slots.{table_in}
use Rattle.ck_slots.proofs.WrittenTexts.{room_for, spelled_slots, blocks_of, blocks_of-slots}
use Rattle.ck_slots.proofs.CommitLemmas.{nothing_left, same_after}
use Rattle.ck_slots.proofs.table.Slots.commit.Goals as goal

pub returns-in-Err-clause-commits : goal.returns-in-Err-clause-commits
returns-in-Err-clause-commits g c =
    let s = c.args.self.now in
    let t = table_in s in
    let n = table_blocks c.args.region.now.records in
    record {
      after = blocks_of t n;
      slots = blocks_of-slots n t s.within_limits (room_for t c.args.region.now.records s.fits c.requires.records);
      any_moment = nothing_left c.args.region.now (blocks_of t n) (g.D.Disk.means c.args.disk.now) (g.met.D.Disk.lawful c.args.disk.now) c.requires.settled;
      at_the_end = tt;
    }

pub returns-in-Ok-commit-clause-commits : goal.returns-in-Ok-commit-clause-commits
returns-in-Ok-commit-clause-commits g c =
    let s = c.args.self.now in
    let t = table_in s in
    let old = g.D.Disk.means c.args.disk.now in
    let blocks = c.in-Ok.blocks.items in
    let long : length blocks ≡ table_blocks c.args.region.now.records = omega (arith, c.in-Ok.ensures.count, c.table_blocks-count.ensures.value) in
    let some : 0 < length blocks = omega (arith, long) in
    let is = same_after (table_on c.args.region.now old.shows) c.deref.result.now blocks c.deref.ensures.value some in
    record {
      after = blocks;
      slots = spelled_slots (table_blocks c.args.region.now.records) t blocks s.within_limits (room_for t c.args.region.now.records s.fits c.requires.records) long c.in-Ok.ensures.blocks;
      any_moment = subst (λ (after : Image). LeavesOnly old (g.D.Disk.means c.commit.new.disk) (CommitLeaves c.args.region.now after old)) is c.commit.ensures.any_moment;
      at_the_end = λ told. c.in-Ok-commit.ensures.table told ∙ is;
    }

pub returns-clause-commits : goal.returns-clause-commits
returns-clause-commits g c =
    let s = c.args.self.now in
    let t = table_in s in
    let old = g.D.Disk.means c.args.disk.now in
    let blocks = c.in-Ok.blocks.items in
    let long : length blocks ≡ table_blocks c.args.region.now.records = omega (arith, c.in-Ok.ensures.count, c.table_blocks-count.ensures.value) in
    let some : 0 < length blocks = omega (arith, long) in
    let is = same_after (table_on c.args.region.now old.shows) c.deref.result.now blocks c.deref.ensures.value some in
    record {
      after = blocks;
      slots = spelled_slots (table_blocks c.args.region.now.records) t blocks s.within_limits (room_for t c.args.region.now.records s.fits c.requires.records) long c.in-Ok.ensures.blocks;
      any_moment = subst (λ (after : Image). LeavesOnly old (g.D.Disk.means c.commit.new.disk) (CommitLeaves c.args.region.now after old)) is c.commit.ensures.any_moment;
      at_the_end = tt;
    }
