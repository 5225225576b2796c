use Rattle.std.proofs.Common.{◌≡◌, ◌≤◌, ◌<◌, ℕ, None, true, if◌then◌else◌, nat_lt, filter, sym, ap, subst, ◌∙◌}
use Rattle.std.specs.FinMap as map
use Rattle.ck_model.specs.declared.key.Key.{Key}
use Rattle.ck_model.specs.Table.{Filesets, column, record_count, with_fileset}
use Rattle.ck_model.specs.Chain.{is_live, seen, value_of}
use Rattle.ck_model.specs.Rules.{IsSound}
use Rattle.ck_restore.specs.Freed.{GainsFreed}
use Rattle.ck_restore.proofs.FreedLemmas.{gains_freed, gains_then, gains_unlinked}
use Rattle.ck_restore.proofs.RestoredLemmas.{restored_entries, restored_filesets, restored_kept, restored_primary, restored_records, restored_sound}
use Rattle.ck_restore.proofs.TidiedLemmas.{older_then}
use Rattle.ck_restore.proofs.restored.restore.Goals as goal

pub returns-clause-primary : goal.returns-clause-primary
returns-clause-primary g c =
    let t = g.M.Meta.table c.args.meta.now in
    let r = g.M.Meta.table c.remove_newer.new.meta in
    let m = g.M.Meta.table c.move_entries.new.meta in
    let older = older_then c.args.id t r m c.remove_newer.ensures.older c.move_entries.ensures.older in
    let none = ap (λ (filesets : Filesets). filter (λ id. nat_lt c.args.id id) (map.keys filesets)) c.move_entries.ensures.filesets ∙ c.remove_newer.ensures.none in
    subst (λ u. (key : Key) → column u key 0 ≡ value_of t c.args.id key) (sym c.del_fileset.ensures)
    (restored_primary t m c.args.id (g.met.M.Meta.lawful c.args.meta.now) (g.met.M.Meta.lawful c.move_entries.new.meta) c.requires.holds older none c.move_entries.ensures.empty c.move_entries.ensures.orderly c.move_entries.ensures.needed)

pub returns-clause-filesets : goal.returns-clause-filesets
returns-clause-filesets g c =
    let t = g.M.Meta.table c.args.meta.now in
    let r = g.M.Meta.table c.remove_newer.new.meta in
    let m = g.M.Meta.table c.move_entries.new.meta in
    let older = older_then c.args.id t r m c.remove_newer.ensures.older c.move_entries.ensures.older in
    let none = ap (λ (filesets : Filesets). filter (λ id. nat_lt c.args.id id) (map.keys filesets)) c.move_entries.ensures.filesets ∙ c.remove_newer.ensures.none in
    subst (λ u. (fs : ℕ) → map.get u.filesets fs ≡ (if nat_lt fs c.args.id then map.get t.filesets fs else None)) (sym c.del_fileset.ensures)
    (restored_filesets t m c.args.id (g.met.M.Meta.lawful c.args.meta.now) (g.met.M.Meta.lawful c.move_entries.new.meta) c.requires.holds older none c.move_entries.ensures.empty c.move_entries.ensures.orderly c.move_entries.ensures.needed)

pub returns-clause-entries : goal.returns-clause-entries
returns-clause-entries g c =
    let t = g.M.Meta.table c.args.meta.now in
    let r = g.M.Meta.table c.remove_newer.new.meta in
    let m = g.M.Meta.table c.move_entries.new.meta in
    let older = older_then c.args.id t r m c.remove_newer.ensures.older c.move_entries.ensures.older in
    let none = ap (λ (filesets : Filesets). filter (λ id. nat_lt c.args.id id) (map.keys filesets)) c.move_entries.ensures.filesets ∙ c.remove_newer.ensures.none in
    subst (λ u. (fs : ℕ) (key : Key) → c.args.id ≤ fs → column u key fs ≡ None) (sym c.del_fileset.ensures)
    (restored_entries t m c.args.id (g.met.M.Meta.lawful c.args.meta.now) (g.met.M.Meta.lawful c.move_entries.new.meta) c.requires.holds older none c.move_entries.ensures.empty c.move_entries.ensures.orderly c.move_entries.ensures.needed)

pub returns-clause-kept : goal.returns-clause-kept
returns-clause-kept g c =
    let t = g.M.Meta.table c.args.meta.now in
    let r = g.M.Meta.table c.remove_newer.new.meta in
    let m = g.M.Meta.table c.move_entries.new.meta in
    let older = older_then c.args.id t r m c.remove_newer.ensures.older c.move_entries.ensures.older in
    let none = ap (λ (filesets : Filesets). filter (λ id. nat_lt c.args.id id) (map.keys filesets)) c.move_entries.ensures.filesets ∙ c.remove_newer.ensures.none in
    subst (λ u. (fs : ℕ) (key : Key) → is_live t fs ≡ true → fs < c.args.id → seen u fs key ≡ seen t fs key) (sym c.del_fileset.ensures)
    (restored_kept t m c.args.id (g.met.M.Meta.lawful c.args.meta.now) (g.met.M.Meta.lawful c.move_entries.new.meta) c.requires.holds older none c.move_entries.ensures.empty c.move_entries.ensures.orderly c.move_entries.ensures.needed)

pub returns-clause-records : goal.returns-clause-records
returns-clause-records g c =
    let t = g.M.Meta.table c.args.meta.now in
    let r = g.M.Meta.table c.remove_newer.new.meta in
    let m = g.M.Meta.table c.move_entries.new.meta in
    let older = older_then c.args.id t r m c.remove_newer.ensures.older c.move_entries.ensures.older in
    let none = ap (λ (filesets : Filesets). filter (λ id. nat_lt c.args.id id) (map.keys filesets)) c.move_entries.ensures.filesets ∙ c.remove_newer.ensures.none in
    subst (λ u. record_count u ≤ record_count t) (sym c.del_fileset.ensures)
    (restored_records t m c.args.id (g.met.M.Meta.lawful c.args.meta.now) (g.met.M.Meta.lawful c.move_entries.new.meta) c.requires.holds older none c.move_entries.ensures.empty c.move_entries.ensures.orderly c.move_entries.ensures.needed)

pub returns-clause-sound : goal.returns-clause-sound
returns-clause-sound g c =
    let t = g.M.Meta.table c.args.meta.now in
    let r = g.M.Meta.table c.remove_newer.new.meta in
    let m = g.M.Meta.table c.move_entries.new.meta in
    let older = older_then c.args.id t r m c.remove_newer.ensures.older c.move_entries.ensures.older in
    let none = ap (λ (filesets : Filesets). filter (λ id. nat_lt c.args.id id) (map.keys filesets)) c.move_entries.ensures.filesets ∙ c.remove_newer.ensures.none in
    subst (λ u. IsSound u) (sym c.del_fileset.ensures)
    (restored_sound t m c.args.id (g.met.M.Meta.lawful c.args.meta.now) (g.met.M.Meta.lawful c.move_entries.new.meta) c.requires.holds older none c.move_entries.ensures.empty c.move_entries.ensures.orderly c.move_entries.ensures.needed)

pub returns-clause-freed : goal.returns-clause-freed
returns-clause-freed g c =
    let t = g.M.Meta.table c.args.meta.now in
    let r = g.M.Meta.table c.remove_newer.new.meta in
    let m = g.M.Meta.table c.move_entries.new.meta in
    let xs = c.args.freed.now.items in
    let zs = c.move_entries.new.freed.items in
    let both = gains_then t r m xs c.remove_newer.new.freed.items zs c.remove_newer.ensures.gains c.move_entries.ensures.gains in
    subst (GainsFreed xs zs t) (sym c.del_fileset.ensures)
    (gains_freed t (with_fileset m c.args.id None) xs zs (gains_unlinked t m c.args.id xs zs both))
