use Rattle.std.proofs.Common.{◌∙◌, refl}
use Rattle.ck_restore.proofs.FreedLemmas.{gains_none, gains_then}
use Rattle.ck_restore.proofs.TidiedLemmas.{older_none, older_then}
use Rattle.ck_restore.proofs.restored.remove_newer.Goals as goal

pub loop-fs-init : goal.loop-fs-init
loop-fs-init g c =
    let t = g.M.Meta.table c.args.meta.now in
    record {
      older = older_none c.args.id t;
      orderly = c.requires.orderly;
      needed = c.requires.needed;
      gains = gains_none t t c.args.freed.now.items (λ block. (λ h. h, λ h. h));
      room = c.requires.room;
      capacity = refl;
    }

pub loop-fs-preserved : goal.loop-fs-preserved
loop-fs-preserved g c =
    let t = g.M.Meta.table c.args.meta.now in
    let m = g.M.Meta.table c.loop-fs.meta in
    let u = g.M.Meta.table c.remove_newest.new.meta in
    let before = c.loop-fs.invariant in
    let one = c.remove_newest.ensures in
    record {
      older = older_then c.args.id t m u before.older one.older;
      orderly = one.orderly;
      needed = one.needed;
      gains = gains_then t m u c.args.freed.now.items c.loop-fs.freed.items c.remove_newest.new.freed.items before.gains one.gains;
      room = one.room;
      capacity = one.capacity ∙ before.capacity;
    }
