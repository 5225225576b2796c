use Rattle.std.proofs.Common.{◌<◌, None, IsSome, sym, ap, subst, arith}
use Rattle.std.specs.FinMap as map
use Rattle.ck_model.specs.Table.{Filesets, with_fileset}
use Rattle.ck_model.specs.Rules.{IsOrderly}
use Rattle.ck_restore.specs.Freed.{Gains}
use Rattle.ck_restore.specs.Older.{LeavesOlder, OlderNeeded}
use Rattle.ck_restore.proofs.FreedLemmas.{gains_unlinked}
use Rattle.ck_restore.proofs.TidiedLemmas.{older_then}
use Rattle.ck_restore.proofs.UnlinkedLemmas.{fewer_filesets, unlinked_needed, unlinked_older, unlinked_orderly}
use Rattle.ck_restore.proofs.restored.remove_newest.Goals as goal

pub returns-clause-older : goal.returns-clause-older
returns-clause-older g c =
    let t = g.M.Meta.table c.args.meta.now in
    let m = g.M.Meta.table c.move_entries.new.meta in
    let stands = subst (λ (filesets : Filesets). IsSome (map.get filesets c.args.fs)) (sym c.move_entries.ensures.filesets) c.requires.stands in
    subst (LeavesOlder c.args.id t) (sym c.del_fileset.ensures)
    (older_then c.args.id t m (with_fileset m c.args.fs None) c.move_entries.ensures.older (unlinked_older m c.args.fs stands c.move_entries.ensures.empty c.args.id c.requires.above))

pub returns-clause-fewer : goal.returns-clause-fewer
returns-clause-fewer g c =
    let t = g.M.Meta.table c.args.meta.now in
    let m = g.M.Meta.table c.move_entries.new.meta in
    let stands = subst (λ (filesets : Filesets). IsSome (map.get filesets c.args.fs)) (sym c.move_entries.ensures.filesets) c.requires.stands in
    let fewer = fewer_filesets m c.args.fs stands c.move_entries.ensures.empty in
    let same = ap (λ (filesets : Filesets). map.len filesets) c.move_entries.ensures.filesets in
    subst (λ u. map.len u.filesets < map.len t.filesets) (sym c.del_fileset.ensures) (omega (arith, fewer, same))

pub returns-clause-orderly : goal.returns-clause-orderly
returns-clause-orderly g c =
    let m = g.M.Meta.table c.move_entries.new.meta in
    let stands = subst (λ (filesets : Filesets). IsSome (map.get filesets c.args.fs)) (sym c.move_entries.ensures.filesets) c.requires.stands in
    subst IsOrderly (sym c.del_fileset.ensures) (unlinked_orderly m c.args.fs stands c.move_entries.ensures.empty c.move_entries.ensures.orderly)

pub returns-clause-needed : goal.returns-clause-needed
returns-clause-needed g c =
    let m = g.M.Meta.table c.move_entries.new.meta in
    let stands = subst (λ (filesets : Filesets). IsSome (map.get filesets c.args.fs)) (sym c.move_entries.ensures.filesets) c.requires.stands in
    subst (λ u. OlderNeeded u c.args.id) (sym c.del_fileset.ensures) (unlinked_needed m c.args.fs stands c.move_entries.ensures.empty c.args.id c.move_entries.ensures.needed)

pub returns-clause-gains : goal.returns-clause-gains
returns-clause-gains g c =
    let t = g.M.Meta.table c.args.meta.now in
    subst (Gains c.args.freed.now.items c.move_entries.new.freed.items t) (sym c.del_fileset.ensures)
    (gains_unlinked t (g.M.Meta.table c.move_entries.new.meta) c.args.fs c.args.freed.now.items c.move_entries.new.freed.items c.move_entries.ensures.gains)
