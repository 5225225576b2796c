use Rattle.std.proofs.Common.{◌∙◌, refl, arith}
use Rattle.ck_restore.proofs.EntriesLemmas.{some_from}
use Rattle.ck_restore.proofs.FreedLemmas.{gains_none, gains_then}
use Rattle.ck_restore.proofs.TidiedLemmas.{older_none, older_then}
use Rattle.ck_restore.proofs.restored.move_entries.Goals as goal

pub loop-key-init : goal.loop-key-init
loop-key-init g c =
    let t = g.M.Meta.table c.args.meta.now in
    record {
      older = older_none c.args.id t;
      filesets = refl;
      orderly = c.requires.orderly;
      needed = c.requires.needed;
      gains = gains_none t t c.args.freed.now.items (λ block. (λ h. h, λ h. h));
      room = c.requires.room;
      capacity = refl;
    }

pub move_entry-requires-clause-room : goal.move_entry-requires-clause-room
move_entry-requires-clause-room g c =
    let some = some_from (g.M.Meta.table c.loop-key.meta) c.args.id c.args.fs c.in-Some.key c.requires.at_least c.in-Some.ensures.entry in
    omega (arith, some, c.loop-key.invariant.room)

pub loop-key-preserved : goal.loop-key-preserved
loop-key-preserved g c =
    let t = g.M.Meta.table c.args.meta.now in
    let m = g.M.Meta.table c.loop-key.meta in
    let u = g.M.Meta.table c.move_entry.new.meta in
    let before = c.loop-key.invariant in
    let one = c.move_entry.ensures in
    record {
      older = older_then c.args.id t m u before.older one.older;
      filesets = one.filesets ∙ before.filesets;
      orderly = one.orderly;
      needed = one.needed;
      gains = gains_then t m u c.args.freed.now.items c.loop-key.freed.items c.move_entry.new.freed.items before.gains one.gains;
      room = omega (arith, before.room, one.entries, one.len, one.capacity);
      capacity = one.capacity ∙ before.capacity;
    }
