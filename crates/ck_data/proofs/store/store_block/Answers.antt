use Rattle.std.proofs.Common.{IsTrue, sym, subst, ◌∙◌}
use Rattle.ck_data.specs.Device.{store_on}
use Rattle.ck_data.specs.Reads.{bytes_of}
use Rattle.ck_model.proofs.CaseLaws.{if_ok_map}
use Rattle.ck_data.proofs.PatchLemmas.{patched_kept}
use Rattle.ck_data.proofs.store.store_block.Goals as goal

pub returns-clause-stored : goal.returns-clause-stored
returns-clause-stored g c =
    let old = g.D.Disk.means c.args.disk.now in
    let device = c.load.ensures.device in
    if_ok_map _ _ c.put_block.result
    (λ block stored told.
    stored (subst IsTrue (sym device.step.tells) told)
    ∙ c.patch.ensures (bytes_of (store_on old.shows c.args.area.base) c.kept_of.result) (c.in_ok-load.ensures.bytes told)
    ∙ patched_kept (store_on old.shows c.args.area.base) c.args.old c.args.bytes.now c.args.at c.requires.within c.kept_of.result c.kept_of.ensures)
    c.put_block.ensures.stored
