use Rattle.std.proofs.Common.{IsTrue, ◌≡◌, ◌<◌, ◌-◌, min, Some, ◌/◌, refl, sym, ap, subst, ◌∙◌, arith, map as list_map}
use Rattle.std.specs.List.{range_with_len}
use Rattle.std.specs.Option.{option_and_then}
use Rattle.ck_model.specs.Chain.{value_at}
use Rattle.ck_model.specs.Cells.{size_at}
use Rattle.ck_model.specs.Contents.{file_byte}
use Rattle.ck_model.specs.Rules.{block_in}
use Rattle.ck_model.specs.Values.{cells_on}
use Rattle.ck_data.specs.Device.{store_on}
use Rattle.ck_tree.proofs.MapLaws.{stands_on as stands}
use Rattle.ck_files.proofs.StandsLaws.{value_below}
use Rattle.ck_model.specs.declared.key.Key.TheVariants.{Block}
use Rattle.ck_model.specs.TableWorld.{values_of}
use Rattle.ck_model.proofs.ValueLaws.{get-values_of}
use Rattle.ck_data.proofs.ReadLemmas.{range_more}
use Rattle.ck_disk.proofs.RunLaws.{reads_on}
use Rattle.ck_data.proofs.range.read_range.Goals as goal

pub loop-place-preserved : goal.loop-place-preserved
loop-place-preserved g c =
    let t = g.M.Meta.table c.args.meta.now in
    let values = values_of t c.args.fs in
    let so_far = c.loop-place.invariant in
    let old = g.D.Disk.means c.args.disk.now in
    let mid = g.D.Disk.means c.loop-place.disk in
    record {
      above = omega arith;
      below = omega arith;
      bytes = λ told. range_more old.shows mid.shows c.args.area.base values c.args.node c.args.at c.loop-place.place c.min-part.result _ _ _ _ so_far.above (omega arith)
          so_far.device.shows (c.held_at.ensures ∙ sym (get-values_of t c.args.fs (Block c.args.node (c.loop-place.place / 4096)))) c.block_of-named.ensures (so_far.bytes told)
          (c.in_ok-append_part.ensures.bytes (subst IsTrue (sym so_far.device.step.tells) told));
      device = reads_on old mid (g.D.Disk.means c.append_part.new.disk) (g.met.D.Disk.lawful c.args.disk.now) so_far.device c.in_ok-append_part.ensures.device;
    }

pub append_part-requires-clause-named : goal.append_part-requires-clause-named
append_part-requires-clause-named g c = λ x is.
    let t = g.M.Meta.table c.args.meta.now in
    let key = Block c.args.node (c.loop-place.place / 4096) in
    let low = value_below t c.requires.ours.sound c.args.fs key (value_at t c.args.fs key) refl x in
    let named : option_and_then block_in (value_at t c.args.fs key) ≡ Some x = ap (option_and_then block_in) (sym c.held_at.ensures) ∙ sym c.block_of-named.ensures ∙ is in
    subst (λ n. x < n) (sym c.requires.blocks) (low named)

pub returns-clause-bytes : goal.returns-clause-bytes
returns-clause-bytes g c = λ told.
    let t = g.M.Meta.table c.args.meta.now in
    let store = store_on (g.D.Disk.means c.args.disk.now).shows c.args.area.base in
    let cells = cells_on store (values_of t c.args.fs) in
    let size : c.size_at.result ≡ size_at cells c.args.node = c.size_at.ensures cells (stands store t c.args.fs) in
    let above = c.loop-place.invariant.above in
    let below = c.loop-place.invariant.below in
    let end = c.loop-place-test.false in
    let count : c.loop-place.place - c.args.at ≡ min c.args.len (size_at cells c.args.node - c.args.at) = omega (arith, size, above, below, end, c.min-count.ensures, c.saturating_sub.ensures, c.from.ensures) in
    c.loop-place.invariant.bytes told ∙ ap (λ n. list_map (file_byte cells c.args.node) (range_with_len c.args.at n)) count
