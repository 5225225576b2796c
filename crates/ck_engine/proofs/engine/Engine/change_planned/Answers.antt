use Rattle.std.proofs.Common.{◌≡◌, inl, inr, ⊎_elim, ℕ, IsTrue, refl, sym, ap, subst, ◌∙◌}
use Rattle.ck_data.specs.declared.range.DataArea.{DataArea}
use Rattle.ck_model.specs.declared.checkpoint.Limits.{Limits}
use Rattle.ck_files.specs.Files.{AreFiles}
use Rattle.ck_data.specs.Stored.{OnlyStores}
use Rattle.ck_model.specs.declared.reply.Reply.TheVariants.{Done}
use Rattle.ck_model.specs.TableWorld.{world_on}
use Rattle.ck_model.specs.Step.{changing}
use Rattle.ck_model.specs.FileCalls.{changed_by}
use Rattle.ck_data.specs.Device.{store_on}
use Rattle.ck_files.specs.Room.{answered_with}
use Rattle.ck_engine.specs.Engine.{table_of, mounts_of, blocks_of, data_of, world_of}
use Rattle.ck_model.specs.Table.{Table}
use Rattle.ck_files.specs.Allocated.{IsAllocated}
use Rattle.ck_files.specs.Reports.{limits_of}
use Rattle.ck_data.specs.declared.fault.Fault.TheVariants.{ReadFault, WriteFault}
use Rattle.ck_engine.proofs.AttemptLemmas.{stores-attempt, stores-goes, stores-world}
use Rattle.ck_engine.proofs.engine.Engine.change_planned.Goals as goal

pub returns-in-Err-clause-attempt : goal.returns-in-Err-clause-attempt
returns-in-Err-clause-attempt g c =
    let middle = c.free_blocks.new.self in
    let mid = g.D.Disk.means middle.disk in
    let new = g.D.Disk.means c.apply_planned.new.disk in
    let stores : OnlyStores (data_of middle) (blocks_of middle) mid new = subst (λ (b : ℕ). OnlyStores b (blocks_of middle) mid new) (ap (λ (a : DataArea). a.base) c.area-area.ensures) c.apply_planned.ensures.device in
    stores-attempt (g.D.Disk.means c.args.self.now.disk) mid new c.args.self.now middle _ c.free_blocks.ensures.attempt c.in_ok-free_blocks.ensures.goes_on stores

pub returns-in-Ok-clause-attempt : goal.returns-in-Ok-clause-attempt
returns-in-Ok-clause-attempt g c =
    let middle = c.free_blocks.new.self in
    let mid = g.D.Disk.means middle.disk in
    let new = g.D.Disk.means c.apply_planned.new.disk in
    let stores : OnlyStores (data_of middle) (blocks_of middle) mid new = subst (λ (b : ℕ). OnlyStores b (blocks_of middle) mid new) (ap (λ (a : DataArea). a.base) c.area-area.ensures) c.apply_planned.ensures.device in
    stores-attempt (g.D.Disk.means c.args.self.now.disk) mid new c.args.self.now middle _ c.free_blocks.ensures.attempt c.in_ok-free_blocks.ensures.goes_on stores

pub returns-in-Ok-clause-goes_on : goal.returns-in-Ok-clause-goes_on
returns-in-Ok-clause-goes_on g c =
    let middle = c.free_blocks.new.self in
    let mid = g.D.Disk.means middle.disk in
    let new = g.D.Disk.means c.apply_planned.new.disk in
    let stores : OnlyStores (data_of middle) (blocks_of middle) mid new = subst (λ (b : ℕ). OnlyStores b (blocks_of middle) mid new) (ap (λ (a : DataArea). a.base) c.area-area.ensures) c.apply_planned.ensures.device in
    let after = record middle { slots = c.apply_planned.new.meta; blocks = c.apply_planned.new.blocks; disk = c.apply_planned.new.disk } in
    stores-goes (g.D.Disk.means c.args.self.now.disk) mid new c.args.self.now middle after c.free_blocks.ensures.attempt c.in_ok-free_blocks.ensures.goes_on stores refl
    (subst (λ (l : Limits). AreFiles l (table_of after) (blocks_of after)) c.limits-limits.ensures c.in-Ok.ensures.files) c.apply_planned.ensures.busy
    (c.apply_planned.ensures.stripped middle.stripped c.in_ok-free_blocks.ensures.goes_on.whole.stripped)

pub returns-in-Err-clause-goes_on : goal.returns-in-Err-clause-goes_on
returns-in-Err-clause-goes_on g c =
    let middle = c.free_blocks.new.self in
    let mid = g.D.Disk.means middle.disk in
    let new = g.D.Disk.means c.apply_planned.new.disk in
    let stores : OnlyStores (data_of middle) (blocks_of middle) mid new = subst (λ (b : ℕ). OnlyStores b (blocks_of middle) mid new) (ap (λ (a : DataArea). a.base) c.area-area.ensures) c.apply_planned.ensures.device in
    let after = record middle { slots = c.apply_planned.new.meta; blocks = c.apply_planned.new.blocks; disk = c.apply_planned.new.disk } in
    let files = c.in_ok-free_blocks.ensures.goes_on.whole.files in
    ⊎_elim
    (λ (read : (c.in-Err.fault ≡ ReadFault) × IsAllocated (table_of middle) (blocks_of after)).
    inr (stores-goes (g.D.Disk.means c.args.self.now.disk) mid new c.args.self.now middle after c.free_blocks.ensures.attempt c.in_ok-free_blocks.ensures.goes_on stores refl
    (subst (λ (t : Table). AreFiles (limits_of (table_of middle)) t (blocks_of after)) (sym c.in-Err.ensures.table)
    (record { ours = files.ours; allocated = read.1; limit = files.limit; records = files.records }))
    c.apply_planned.ensures.busy
    (c.apply_planned.ensures.stripped middle.stripped c.in_ok-free_blocks.ensures.goes_on.whole.stripped)))
    (λ (write : c.in-Err.fault ≡ WriteFault). inl write)
    c.in-Err.ensures.err

pub returns-in-Err-clause-err : goal.returns-in-Err-clause-err
returns-in-Err-clause-err g c = λ told.
    let middle = c.free_blocks.new.self in
    let mid = g.D.Disk.means middle.disk in
    let new = g.D.Disk.means c.apply_planned.new.disk in
    let stores : OnlyStores (data_of middle) (blocks_of middle) mid new = subst (λ (b : ℕ). OnlyStores b (blocks_of middle) mid new) (ap (λ (a : DataArea). a.base) c.area-area.ensures) c.apply_planned.ensures.device in
    let after = record middle { slots = c.apply_planned.new.meta; blocks = c.apply_planned.new.blocks; disk = c.apply_planned.new.disk } in
    let mid_told : IsTrue mid.tells = subst IsTrue (sym c.free_blocks.ensures.attempt.runs.tells) told in
    stores-world mid new middle after mid_told c.in_ok-free_blocks.ensures.goes_on.whole stores refl c.in-Err.ensures.table refl ∙ c.free_blocks.ensures.world told

pub returns-in-Ok-clause-ok : goal.returns-in-Ok-clause-ok
returns-in-Ok-clause-ok g c = λ told.
    let middle = c.free_blocks.new.self in
    let mid = g.D.Disk.means middle.disk in
    let new = g.D.Disk.means c.apply_planned.new.disk in
    let after = record middle { slots = c.apply_planned.new.meta; blocks = c.apply_planned.new.blocks; disk = c.apply_planned.new.disk } in
    let mid_told : IsTrue mid.tells = subst IsTrue (sym c.free_blocks.ensures.attempt.runs.tells) told in
    subst (λ w. changing w (changed_by w c.args.call.now) ≡ answered_with Done (world_of new.shows after)) (c.free_blocks.ensures.world told)
    (subst (λ (a : DataArea). let w = world_on (store_on mid.shows a.base) (mounts_of middle) (table_of middle) in
    changing w (changed_by w c.args.call.now) ≡ answered_with Done (world_on (store_on new.shows a.base) (mounts_of middle) (table_of after))) c.area-area.ensures
    (c.in-Ok.ensures.done mid_told (mounts_of middle)))
