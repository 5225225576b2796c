use Rattle.std.proofs.Common.{sym, ap, subst, ◌∙◌}
use Rattle.ck_model.specs.declared.reply.Reply.TheVariants.{Done}
use Rattle.ck_model.specs.Step.{done}
use Rattle.ck_model.specs.TableWorld.{world_on}
use Rattle.ck_table.proofs.WorldLaws.{dropped-is, dropped-none, named_live}
use Rattle.ck_nodata.specs.StripItem.{IsStrippedTo}
use Rattle.ck_files.specs.Room.{answered_with}
use Rattle.ck_files.proofs.CheckpointLemmas.{place_gone}
use Rattle.ck_files.proofs.removal.remove.Goals as goal

pub mark_gone-requires-clause-live : goal.mark_gone-requires-clause-live
mark_gone-requires-clause-live g c = named_live (g.M.Meta.table c.args.meta.now) c.args.name.now c.in-Some.id c.in-Some.ensures.found

pub returns-in-Some-clause-reply : goal.returns-in-Some-clause-reply
returns-in-Some-clause-reply g c store mounts =
    let t = g.M.Meta.table c.args.meta.now in
    ap (done (world_on store mounts t)) (dropped-is store mounts t c.requires.ours.lawful c.args.name.now c.in-Some.id (sym c.in-Some.ensures.id) c.in-Some.ensures.found)
    ∙ ap (λ u. answered_with Done (world_on store mounts u)) (sym c.mark_gone.ensures.table)

pub returns-in-Some-clause-ours : goal.returns-in-Some-clause-ours
returns-in-Some-clause-ours g c = record {
  lawful = g.met.M.Meta.lawful c.mark_gone.new.meta;
  sized = g.met.M.Meta.sized c.mark_gone.new.meta;
  sound = c.mark_gone.ensures.sound;
}

pub returns-in-Some-clause-stripped : goal.returns-in-Some-clause-stripped
returns-in-Some-clause-stripped g c =
    let t = g.M.Meta.table c.args.meta.now in
    subst (λ u. IsStrippedTo u c.go_back.new.stripped) (sym c.mark_gone.ensures.table)
    (place_gone t c.in-Some.id (named_live t c.args.name.now c.in-Some.id c.in-Some.ensures.found) c.args.stripped.now c.go_back.new.stripped c.requires.stripped c.go_back.ensures.back c.go_back.ensures.same)

pub returns-in-None-clause-reply : goal.returns-in-None-clause-reply
returns-in-None-clause-reply g c store mounts =
    let t = g.M.Meta.table c.args.meta.now in
    ap (done (world_on store mounts t)) (dropped-none store mounts t c.requires.ours.lawful c.args.name.now (sym c.in-None.ensures.id))
