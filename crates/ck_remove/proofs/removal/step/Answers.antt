use Rattle.std.proofs.Common.{◌∙◌}
use Rattle.ck_remove.proofs.OldestLemmas.{first_held, none_held, oldest_is, work_parts}
use Rattle.ck_remove.proofs.WorldLaws.{unseen_world}
use Rattle.ck_remove.proofs.removal.step.Goals as goal

pub remove_entry-requires-clause-held : goal.remove_entry-requires-clause-held
remove_entry-requires-clause-held g c =
    let t = g.M.Meta.table c.args.meta.now in
    let work = work_parts t c.args.item c.requires.work in
    first_held t c.args.item.id c.in-Some.key (work.least ∙ c.in-Some.is)

pub remove_empty-requires-clause-gone : goal.remove_empty-requires-clause-gone
remove_empty-requires-clause-gone g c =
    let t = g.M.Meta.table c.args.meta.now in
    let work = work_parts t c.args.item c.requires.work in
    (oldest_is t c.args.item.id (g.met.M.Meta.lawful c.args.meta.now) work.oldest).gone

pub remove_empty-requires-clause-empty : goal.remove_empty-requires-clause-empty
remove_empty-requires-clause-empty g c =
    let t = g.M.Meta.table c.args.meta.now in
    let work = work_parts t c.args.item c.requires.work in
    (none_held t c.args.item.id (work.least ∙ c.in-None.is)).1

pub returns-in-Some-clause-world : goal.returns-in-Some-clause-world
returns-in-Some-clause-world g c =
    let before = c.args.meta.now in
    let after = c.remove_entry.new.meta in
    unseen_world (g.M.Meta.table before) (g.M.Meta.table after) (g.met.M.Meta.lawful before) (g.met.M.Meta.lawful after) c.remove_entry.ensures.unseen

pub returns-in-None-clause-world : goal.returns-in-None-clause-world
returns-in-None-clause-world g c =
    let before = c.args.meta.now in
    let after = c.remove_empty.new.meta in
    unseen_world (g.M.Meta.table before) (g.M.Meta.table after) (g.met.M.Meta.lawful before) (g.met.M.Meta.lawful after) c.remove_empty.ensures.unseen
