use Rattle.std.proofs.Common.{sym, ap, subst, ◌∙◌}
use Rattle.ck_model.specs.declared.reply.Reply.TheVariants.{Done}
use Rattle.ck_model.specs.Step.{done}
use Rattle.ck_model.specs.TableWorld.{world_on}
use Rattle.ck_table.proofs.WorldLaws.{flagged-is, flagged-none, named_live}
use Rattle.ck_nodata.specs.StripItem.{IsStrippedTo}
use Rattle.ck_nodata.proofs.PlaceLaws.{stripped_flagged}
use Rattle.ck_files.specs.Room.{answered_with}
use Rattle.ck_files.proofs.flag.make_removable.Goals as goal

pub returns-in-Some-clause-reply : goal.returns-in-Some-clause-reply
returns-in-Some-clause-reply g c store mounts =
    let t = g.M.Meta.table c.args.meta.now in
    ap (done (world_on store mounts t)) (flagged-is store mounts t c.requires.ours.lawful c.args.name.now c.requires.ours.sound c.in-Some.id c.args.on (sym c.in-Some.ensures.id) c.in-Some.ensures.found)
    ∙ ap (λ u. answered_with Done (world_on store mounts u)) (sym c.set_removable.ensures.table)

pub returns-in-Some-clause-stripped : goal.returns-in-Some-clause-stripped
returns-in-Some-clause-stripped g c last stripped =
    let t = g.M.Meta.table c.args.meta.now in
    subst (λ u. IsStrippedTo u last) (sym c.set_removable.ensures.table)
    (stripped_flagged t c.in-Some.id c.args.on last (named_live t c.args.name.now c.in-Some.id c.in-Some.ensures.found) stripped)

pub returns-in-None-clause-reply : goal.returns-in-None-clause-reply
returns-in-None-clause-reply g c store mounts =
    let t = g.M.Meta.table c.args.meta.now in
    ap (done (world_on store mounts t)) (flagged-none store mounts t c.requires.ours.lawful c.args.name.now c.args.on (sym c.in-None.ensures.id))
