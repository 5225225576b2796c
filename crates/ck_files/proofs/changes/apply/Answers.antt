use Rattle.std.proofs.Common.{inl, inr, ap, ◌∙◌}
use Rattle.ck_chain.specs.Named.{block_of}
use Rattle.ck_chain.specs.Changes.{key_of, value_after}
use Rattle.ck_files.specs.Allocated.{blocks_held}
use Rattle.ck_files.proofs.UseLemmas.{each_some, allocated_after, busy_after, held_block, block_held}
use Rattle.ck_files.proofs.NamedLaws.{named-is}
use Rattle.ck_files.proofs.changes.apply.Goals as goal

pub give_up-requires : goal.give_up-requires
give_up-requires g c = each_some c.change-freed.result.block _ (λ block is.
    c.requires.used block (named-is (g.M.Meta.table c.args.meta.now) block ((c.change-freed.ensures.freed block).0 is).0))

pub returns-clause-ours : goal.returns-clause-ours
returns-clause-ours g c = record {
  lawful = g.met.M.Meta.lawful c.change-freed.new.meta;
  sized = g.met.M.Meta.sized c.change-freed.new.meta;
  sound = c.change-freed.ensures.changed.sound;
}

pub returns-clause-allocated : goal.returns-clause-allocated
returns-clause-allocated g c = λ rest unnamed allocated.
    let e = c.change-freed.ensures in
    let item = c.args.item.now in
    let new = value_after item c.args.stamp in
    allocated_after (g.M.Meta.table c.args.meta.now) (g.M.Meta.table c.change-freed.new.meta) c.change-freed.result (blocks_held new) rest e.freed
    (λ block named. elim (e.changed.named block named) [ inl was ↦ inl was | inr is ↦ inr (held_block new block is) ])
    (λ block took. (0, (key_of item, ap block_of e.changed.primary ∙ block_held new block took))) unnamed c.args.blocks.now c.give_up.new.blocks allocated e.changed.blocks
    (record { given = c.give_up.ensures.given; partition = c.give_up.ensures.partition; same = c.give_up.ensures.same })

pub returns-clause-busy : goal.returns-clause-busy
returns-clause-busy g c =
    busy_after c.change-freed.result c.args.blocks.now c.give_up.new.blocks
    (record { given = c.give_up.ensures.given; partition = c.give_up.ensures.partition; same = c.give_up.ensures.same })
