use Rattle.std.proofs.Common.{◌≡◌, ◌+◌, ◌-◌, ◌%◌, ◌/◌, ◌≤◌, ◌++◌, min, Result, Ok, Err, OnOk, ap, ◌∙◌, arith}
use Rattle.std.specs.Option.{option_and_then}
use Rattle.ck_model.specs.declared.key.Key.TheVariants.{Block}
use Rattle.ck_model.specs.Rules.{block_in}
use Rattle.ck_read.specs.Block.{map_on, part_of, store_on}
use Rattle.ck_read.specs.Progress.{bytes_from, next_part}
use Rattle.ck_read.proofs.MapLemmas.{block_within}
use Rattle.ck_read.proofs.PartLemmas.{part_in_file}
use Rattle.ck_read.proofs.progress.ReadProgress.read_block.Goals as goal

on_ok_map : {A E P Q : Type 0} (r : Result A E) → (P → Q) → OnOk r P → OnOk r Q
on_ok_map (Ok x) f h = f h
on_ok_map (Err e) f h = tt

pub append_part-requires-clause-named : goal.append_part-requires-clause-named
append_part-requires-clause-named g c =
    block_within (g.M.Meta.table c.args.meta.now) c.args.self.now.ckpt (Block c.args.self.now.node (c.next_place-place.result / 4096)) c.value.result c.block_of-named.result
    c.args.base (g.D.Disk.means c.args.disk.now).size c.requires.orderly c.value.ensures c.block_of-named.ensures c.requires.area

pub returns-clause-bytes : goal.returns-clause-bytes
returns-clause-bytes g c =
    let t = g.M.Meta.table c.args.meta.now in
    let p = c.args.self.now in
    let store = store_on (g.D.Disk.means c.args.disk.now).shows c.args.base in
    let cells = map_on store t p.ckpt in
    let place = c.next_place-place.result in
    let count = c.min-count.result in
    let within : place % 4096 + count ≤ 4096 = omega (arith, c.min-count.ensures) in
    let part : part_of store c.block_of-named.result (place % 4096) count ≡ next_part cells p =
    ap (λ named. part_of store named (place % 4096) count) (c.block_of-named.ensures ∙ ap (option_and_then block_in) c.value.ensures)
    ∙ part_in_file store t p.ckpt p.node place count (g.met.M.Meta.lawful c.args.meta.now) c.requires.live within
    ∙ ap (λ n. bytes_from cells p.node place n) c.min-count.ensures
    ∙ ap (λ k. bytes_from cells p.node k (min (4096 - k % 4096) (p.to - k))) c.next_place-place.ensures in
    on_ok_map c.append_part.result (λ is told. is told ∙ ap (λ ys. p.bytes ++ ys) part) c.append_part.ensures.bytes
