use Rattle.std.proofs.Common.{sym, ap, ◌∙◌}
use Rattle.ck_model.specs.TableWorld.{world_on}
use Rattle.ck_model.specs.declared.reply.Reply.TheVariants.{Done}
use Rattle.ck_files.specs.Room.{answered_with}
use Rattle.ck_files.proofs.MountLemmas.{mounted-unnamed, mounted-in_use, mounted-done}
use Rattle.ck_files.proofs.mounts.mount.Goals as goal

pub returns-in_default-clause-ok : goal.returns-in_default-clause-ok
returns-in_default-clause-ok g c store =
    let t = g.M.Meta.table c.args.meta.now in
    mounted-unnamed store c.args.mounts.now t c.requires.lawful c.args.actor c.args.letter c.args.name.now (sym c.in_default.ensures.id)

pub returns-then-contains_key-clause-ok : goal.returns-then-contains_key-clause-ok
returns-then-contains_key-clause-ok g c store =
    let t = g.M.Meta.table c.args.meta.now in
    mounted-in_use store c.args.mounts.now t c.requires.lawful c.args.actor c.args.letter c.args.name.now c.in-Some.id (sym c.in-Some.ensures.id) c.in-Some.ensures.found
    (sym c.contains_key.ensures ∙ c.if-contains_key.true)

pub returns-clause-ok : goal.returns-clause-ok
returns-clause-ok g c store =
    let t = g.M.Meta.table c.args.meta.now in
    mounted-done store c.args.mounts.now t c.requires.lawful c.args.actor c.args.letter c.args.name.now c.in-Some.id (sym c.in-Some.ensures.id) c.in-Some.ensures.found
    (sym c.contains_key.ensures ∙ c.if-contains_key.false)
    ∙ ap (λ m. answered_with Done (world_on store m t)) (sym c.in_ok-insert.ensures.ok)
