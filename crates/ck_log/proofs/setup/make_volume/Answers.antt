use Rattle.std.proofs.Common.{◌<◌, ◌≤◌, IsTrue, inr, length, arith}
use Rattle.ck_disk.specs.Disk.{Outside}
use Rattle.ck_log.specs.Layout.{size_of}
use Rattle.ck_log.proofs.AreaLaws.{first_area-low}
use Rattle.ck_log.proofs.Commits.{told_on}
use Rattle.ck_log.proofs.RecoveryLaws.{has_table-agrees}
use Rattle.ck_log.proofs.Setups.{first_has, header_put, new_volume, table_first, header_last}
use Rattle.ck_log.proofs.setup.make_volume.Goals as goal

pub returns-in_err-put_first_table-clause-any_moment : goal.returns-in_err-put_first_table-clause-any_moment
returns-in_err-put_first_table-clause-any_moment g c = table_first c.args.blocks c.args.records _ _ c.put_first_table.ensures.any_moment

pub returns-in_err-put_block-clause-any_moment : goal.returns-in_err-put_block-clause-any_moment
returns-in_err-put_block-clause-any_moment g c =
    header_last c.args.blocks c.args.records _ _ _ (g.met.D.Disk.lawful c.put_first_table.new.disk) c.put_first_table.ensures.any_moment
    c.in_ok-put_first_table.ensures.gate c.in_ok-put_first_table.ensures.table c.in_ok-put_first_table.ensures.synced c.put_block.ensures.any_moment

pub returns-clause-any_moment : goal.returns-clause-any_moment
returns-clause-any_moment g c =
    header_last c.args.blocks c.args.records _ _ _ (g.met.D.Disk.lawful c.put_first_table.new.disk) c.put_first_table.ensures.any_moment
    c.in_ok-put_first_table.ensures.gate c.in_ok-put_first_table.ensures.table c.in_ok-put_first_table.ensures.synced c.put_block.ensures.any_moment

pub returns-clause-volume : goal.returns-clause-volume
returns-clause-volume g c = λ told.
    let mid = g.D.Disk.means c.put_first_table.new.disk in
    let told_mid : IsTrue mid.tells = told_on _ _ c.put_first_table.ensures.any_moment.tells told in
    let whole = (g.met.D.Disk.lawful c.put_first_table.new.disk).whole told_mid in
    let long : size_of c.args.blocks c.args.records ≤ length mid.shows = omega (arith, whole, c.put_first_table.ensures.any_moment.size, c.requires.size) in
    let some : 0 < length mid.shows = omega (arith, long, first_area-low c.args.records) in
    new_volume c.args.blocks c.args.records mid.shows _ c.header_block.result c.requires.sized long some
    (c.in_ok-put_first_table.ensures.gate told) c.header_block.ensures (c.in_ok-put_block.ensures.written told_mid) (c.put_block.ensures.others told_mid)

pub returns-clause-table : goal.returns-clause-table
returns-clause-table g c = λ told.
    let mid = g.D.Disk.means c.put_first_table.new.disk in
    let told_mid : IsTrue mid.tells = told_on _ _ c.put_first_table.ensures.any_moment.tells told in
    has_table-agrees _ _ (Outside 0 1) mid.shows _ (λ k low lt. inr low) (c.put_block.ensures.others told_mid)
    (first_has c.args.blocks c.args.records mid.shows (c.in_ok-put_first_table.ensures.gate told) (c.in_ok-put_first_table.ensures.table told))

pub returns-clause-header : goal.returns-clause-header
returns-clause-header g c = λ told.
    let mid = g.D.Disk.means c.put_first_table.new.disk in
    let told_mid : IsTrue mid.tells = told_on _ _ c.put_first_table.ensures.any_moment.tells told in
    let whole = (g.met.D.Disk.lawful c.put_first_table.new.disk).whole told_mid in
    let some : 0 < length mid.shows = omega (arith, whole, c.put_first_table.ensures.any_moment.size, c.requires.size, first_area-low c.args.records) in
    header_put c.args.blocks c.args.records mid.shows _ c.header_block.result some c.header_block.ensures (c.in_ok-put_block.ensures.written told_mid)
