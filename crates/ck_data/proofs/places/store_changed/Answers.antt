use Rattle.std.proofs.Common.{◌≡◌, ℕ, ◌+◌, ◌-◌, ◌<◌, ◌%◌, Option, List, [], refl, sym, ap, subst, ◌∙◌, arith}
use Rattle.std.specs.Option.{ForSome, option_and_then}
use Rattle.std.specs.FinMap as map
use Rattle.ck_model.specs.declared.call.Call.{Call}
use Rattle.ck_model.specs.declared.call.Call.TheVariants.{Write, Fill, Trunc}
use Rattle.ck_model.specs.declared.held.Held.{Held}
use Rattle.ck_model.specs.Changes.{block_after}
use Rattle.ck_model.specs.World.{World}
use Rattle.ck_model.specs.declared.key.Key.TheVariants.{Block}
use Rattle.ck_model.specs.Chain.{value_at}
use Rattle.ck_model.specs.Rules.{IsSound, block_in}
use Rattle.ck_model.specs.TableWorld.{values_of, world_on}
use Rattle.ck_model.specs.Table.{Table}
use Rattle.ck_model.proofs.ValueLaws.{get-values_of}
use Rattle.ck_tree.specs.Plan.{block_by}
use Rattle.ck_data.specs.Device.{store_on}
use Rattle.ck_model.proofs.CaseLaws.{if_ok_map}
use Rattle.ck_data.proofs.PieceLemmas.{bytes-block, fill-block, same-block, trunc-block}
use Rattle.ck_data.specs.Piece.{IsPiece}
use Rattle.ck_files.proofs.StandsLaws.{value_below}
use Rattle.ck_data.proofs.places.store_changed.Goals as goal

-- the old data block is one of the area's
old_low : (t : Table) → IsSound t → (node index n : ℕ) (held : Option Held) (old : Option ℕ) → old ≡ option_and_then block_in held → held ≡ value_at t 0 (Block node index) → n ≡ t.blocks
    → ForSome old (λ block. block < n)
old_low t sound node index n held old block got many =
    let key = Block node index in
    subst (λ m. ForSome old (λ block. block < m)) (sym many)
    (subst (λ o. ForSome o (λ block. block < t.blocks)) (sym (block ∙ ap (option_and_then block_in) got)) (value_below t sound 0 key (value_at t 0 key) refl))

named : (t : Table) (node index : ℕ) (held : Option Held) (old : Option ℕ) → old ≡ option_and_then block_in held → held ≡ value_at t 0 (Block node index) → old ≡ option_and_then block_in (map.get (values_of t 0) (Block node index))
named t node index held old block got = block ∙ ap (option_and_then block_in) (got ∙ sym (get-values_of t 0 (Block node index)))

-- a call that writes no bytes
other-block : (w : World) (node index : ℕ) (call : Call) → ((path : List (List ℕ)) (place : ℕ) (bytes : List ℕ) → call ≡ Write path place bytes → ⊥) → ((path : List (List ℕ)) (place len byte : ℕ) → call ≡ Fill path place len byte → ⊥)
    → ((path : List (List ℕ)) (size : ℕ) → call ≡ Trunc path size → ⊥) → block_by w call node index ≡ block_after w.primary node 0 [] index
other-block w node index (Write path place bytes) write fill trunc = absurd (write path place bytes refl)
other-block w node index (Fill path place len byte) write fill trunc = absurd (fill path place len byte refl)
other-block w node index (Trunc path size) write fill trunc = absurd (trunc path size refl)
other-block w node index _ write fill trunc = refl

pub store_block-requires-clause-old : goal.store_block-requires-clause-old
store_block-requires-clause-old g c = old_low (g.M.Meta.table c.args.meta.now) c.requires.ours.sound c.args.node c.args.index c.args.area.blocks c.held_at.result c.block_of-old.result c.block_of-old.ensures c.held_at.ensures c.requires.blocks_are

pub store_block-requires-in-Fill-clause-old : goal.store_block-requires-in-Fill-clause-old
store_block-requires-in-Fill-clause-old g c = old_low (g.M.Meta.table c.args.meta.now) c.requires.ours.sound c.args.node c.args.index c.args.area.blocks c.held_at.result c.block_of-old.result c.block_of-old.ensures c.held_at.ensures c.requires.blocks_are

pub store_block-requires-in-Trunc-clause-old : goal.store_block-requires-in-Trunc-clause-old
store_block-requires-in-Trunc-clause-old g c = old_low (g.M.Meta.table c.args.meta.now) c.requires.ours.sound c.args.node c.args.index c.args.area.blocks c.held_at.result c.block_of-old.result c.block_of-old.ensures c.held_at.ensures c.requires.blocks_are

pub store_block-requires-in_default : goal.store_block-requires-in_default
store_block-requires-in_default g c = record {
  within = omega arith;
  old = old_low (g.M.Meta.table c.args.meta.now) c.requires.ours.sound c.args.node c.args.index c.args.area.blocks c.held_at.result c.block_of-old.result c.block_of-old.ensures c.held_at.ensures c.requires.blocks_are;
  free = c.requires.free;
  partition = c.requires.partition;
  total = c.requires.total;
  area = c.requires.area;
}

pub returns-in-Write-clause-stored : goal.returns-in-Write-clause-stored
returns-in-Write-clause-stored g c =
    let t = g.M.Meta.table c.args.meta.now in
    let store = store_on (g.D.Disk.means c.args.disk.now).shows c.args.area.base in
    let piece = c.piece_of-piece.result in
    let old = named t c.args.node c.args.index c.held_at.result c.block_of-old.result c.block_of-old.ensures c.held_at.ensures in
    if_ok_map _ _ c.store_block.result
    (λ block stored told mounts.
    stored told
    ∙ bytes-block store (values_of t 0) c.args.node c.args.index c.block_of-old.result old c.in-Write.place c.in-Write.bytes c.items-bytes.result.now piece.at piece.from piece.count (piece.from + piece.count - piece.from)
    c.items-bytes.ensures (omega arith) c.piece_of-piece.ensures
    ∙ sym (ap (λ (call : Call). block_by (world_on store mounts t) call c.args.node c.args.index) c.in-Write.is))
    c.store_block.ensures.stored

pub returns-in-Fill-clause-stored : goal.returns-in-Fill-clause-stored
returns-in-Fill-clause-stored g c =
    let t = g.M.Meta.table c.args.meta.now in
    let store = store_on (g.D.Disk.means c.args.disk.now).shows c.args.area.base in
    let piece = c.piece_of-piece-in-Fill.result in
    let old = named t c.args.node c.args.index c.held_at.result c.block_of-old.result c.block_of-old.ensures c.held_at.ensures in
    let found : IsPiece c.in-Fill.place c.in-Fill.len c.args.index piece.at piece.from piece.count = subst (λ n. IsPiece c.in-Fill.place n c.args.index piece.at piece.from piece.count) c.from.ensures c.piece_of-piece-in-Fill.ensures in
    if_ok_map _ _ c.store_block-in-Fill.result
    (λ block stored told mounts.
    stored told
    ∙ fill-block store (values_of t 0) c.args.node c.args.index c.block_of-old.result old c.in-Fill.place c.in-Fill.byte c.in-Fill.len piece.at piece.from piece.count c.filled-all.result c.filled-all.ensures found
    ∙ sym (ap (λ (call : Call). block_by (world_on store mounts t) call c.args.node c.args.index) c.in-Fill.is))
    c.store_block-in-Fill.ensures.stored

pub returns-in-Trunc-clause-stored : goal.returns-in-Trunc-clause-stored
returns-in-Trunc-clause-stored g c =
    let t = g.M.Meta.table c.args.meta.now in
    let store = store_on (g.D.Disk.means c.args.disk.now).shows c.args.area.base in
    let old = named t c.args.node c.args.index c.held_at.result c.block_of-old.result c.block_of-old.ensures c.held_at.ensures in
    if_ok_map _ _ c.store_block-in-Trunc.result
    (λ block stored told mounts.
    stored told
    ∙ trunc-block store (values_of t 0) c.args.node c.args.index c.block_of-old.result old (c.in-Trunc.size % 4096) c.filled-zeros.result c.filled-zeros.ensures (omega arith)
    ∙ sym (ap (λ (call : Call). block_by (world_on store mounts t) call c.args.node c.args.index) c.in-Trunc.is))
    c.store_block-in-Trunc.ensures.stored

pub returns-in_default : goal.returns-in_default
returns-in_default g c =
    let t = g.M.Meta.table c.args.meta.now in
    let store = store_on (g.D.Disk.means c.args.disk.now).shows c.args.area.base in
    let old = named t c.args.node c.args.index c.held_at.result c.block_of-old.result c.block_of-old.ensures c.held_at.ensures in
    let e = c.store_block-in_default.ensures in
    record {
      free_block = e.free_block;
      taken = e.taken;
      partition = e.partition;
      stored = if_ok_map _ _ c.store_block-in_default.result
          (λ block stored told mounts.
          stored told
          ∙ same-block store (values_of t 0) c.args.node c.args.index c.block_of-old.result old
          ∙ sym (other-block (world_on store mounts t) c.args.node c.args.index c.args.call.now c.in_default.not-Write c.in_default.not-Fill c.in_default.not-Trunc))
          e.stored;
      others = e.others;
      busy = e.busy;
      device = e.device;
      fault = e.fault;
      err = e.err;
    }
