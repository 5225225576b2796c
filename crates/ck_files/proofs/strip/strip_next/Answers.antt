use Rattle.std.proofs.Common.{sym, ◌∙◌}
use Rattle.std.proofs.lemmas.Bool.{false≢true}
use Rattle.ck_nodata.proofs.HeldLaws.{none_where_zero}
use Rattle.ck_nodata.proofs.StrippedLaws.{stripped_to}
use Rattle.ck_nodata.proofs.WorkLaws.{none_without_work, work_left}
use Rattle.ck_files.proofs.UseLemmas.{allocated_unseen, busy_after, freed_unseen}
use Rattle.ck_files.proofs.strip.strip_next.Goals as goal

pub returns-in_default-clause-none : goal.returns-in_default-clause-none
returns-in_default-clause-none g c _ = none_without_work (g.M.Meta.table c.args.meta.now) c.requires.ours.lawful (sym c.strip_work_behind.ensures ∙ c.in_default.is)

pub returns-in_default-clause-stripped : goal.returns-in_default-clause-stripped
returns-in_default-clause-stripped g c fs key left =
    let t = g.M.Meta.table c.args.meta.now in
    let nothing = none_without_work t c.requires.ours.lawful (sym c.strip_work_behind.ensures ∙ c.in_default.is) in
    absurd (false≢true (sym (none_where_zero t nothing fs key) ∙ left))

pub strip-freed-requires-clause-unstripped : goal.strip-freed-requires-clause-unstripped
strip-freed-requires-clause-unstripped g c = work_left (g.M.Meta.table c.args.meta.now) c.in-Some.item (sym c.strip_work_behind.ensures ∙ c.in-Some.is)

pub give_up-requires : goal.give_up-requires
give_up-requires g c =
    let e = c.strip-freed.ensures in
    freed_unseen (g.M.Meta.table c.args.meta.now) (g.M.Meta.table c.strip-freed.new.meta) c.strip-freed.result e.freed e.unseen.named c.args.blocks.now c.requires.allocated

pub returns-clause-allocated : goal.returns-clause-allocated
returns-clause-allocated g c =
    let e = c.strip-freed.ensures in
    allocated_unseen (g.M.Meta.table c.args.meta.now) (g.M.Meta.table c.strip-freed.new.meta) c.strip-freed.result e.freed e.unseen.named c.args.blocks.now c.give_up.new.blocks c.requires.allocated e.unseen.blocks
    (record { given = c.give_up.ensures.given; partition = c.give_up.ensures.partition; same = c.give_up.ensures.same })

pub returns-clause-busy : goal.returns-clause-busy
returns-clause-busy g c =
    busy_after c.strip-freed.result c.args.blocks.now c.give_up.new.blocks
    (record { given = c.give_up.ensures.given; partition = c.give_up.ensures.partition; same = c.give_up.ensures.same })

pub returns-clause-stripped : goal.returns-clause-stripped
returns-clause-stripped g c =
    stripped_to (g.M.Meta.table c.args.meta.now) (g.M.Meta.table c.strip-freed.new.meta) c.in-Some.item c.strip-freed.result c.requires.ours.lawful (sym c.strip_work_behind.ensures ∙ c.in-Some.is) c.strip-freed.ensures
