use Rattle.ck_files.proofs.UnseenLemmas.{alike_unseen}
use Rattle.ck_files.proofs.UseLemmas.{allocated_unseen, busy_after, freed_unseen}
use Rattle.ck_nodata.proofs.HeldLaws.{no_more_left}
use Rattle.ck_nodata.proofs.StrippedLaws.{left_before, stripped_still}
use Rattle.ck_files.proofs.removal.remove_next.Goals as goal

pub give_up-requires : goal.give_up-requires
give_up-requires g c =
    let e = c.step-freed.ensures in
    freed_unseen (g.M.Meta.table c.args.meta.now) (g.M.Meta.table c.step-freed.new.meta) c.step-freed.result e.freed e.unseen.named c.args.blocks.now c.requires.allocated

pub returns-clause-alike : goal.returns-clause-alike
returns-clause-alike g c = alike_unseen (g.M.Meta.table c.args.meta.now) (g.M.Meta.table c.step-freed.new.meta) c.requires.ours.lawful (g.met.M.Meta.lawful c.step-freed.new.meta) c.step-freed.ensures.unseen

pub returns-clause-ours : goal.returns-clause-ours
returns-clause-ours g c = record {
  lawful = g.met.M.Meta.lawful c.step-freed.new.meta;
  sized = g.met.M.Meta.sized c.step-freed.new.meta;
  sound = c.step-freed.ensures.sound;
}

pub returns-clause-allocated : goal.returns-clause-allocated
returns-clause-allocated g c =
    let e = c.step-freed.ensures in
    allocated_unseen (g.M.Meta.table c.args.meta.now) (g.M.Meta.table c.step-freed.new.meta) c.step-freed.result e.freed e.unseen.named c.args.blocks.now c.give_up.new.blocks c.requires.allocated e.unseen.blocks
    (record { given = c.give_up.ensures.given; partition = c.give_up.ensures.partition; same = c.give_up.ensures.same })

pub returns-clause-busy : goal.returns-clause-busy
returns-clause-busy g c =
    busy_after c.step-freed.result c.args.blocks.now c.give_up.new.blocks
    (record { given = c.give_up.ensures.given; partition = c.give_up.ensures.partition; same = c.give_up.ensures.same })

pub returns-clause-no_more : goal.returns-clause-no_more
returns-clause-no_more g c =
    let t = g.M.Meta.table c.args.meta.now in
    let u = g.M.Meta.table c.step-freed.new.meta in
    no_more_left t u (left_before t u c.step-freed.ensures.unseen)

pub returns-clause-stripped : goal.returns-clause-stripped
returns-clause-stripped g c last = stripped_still (g.M.Meta.table c.args.meta.now) (g.M.Meta.table c.step-freed.new.meta) last c.step-freed.ensures.unseen
