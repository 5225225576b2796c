use Rattle.std.proofs.Common.{true, false, sym, subst, ◌∙◌}
use Rattle.ck_table.proofs.WorldLaws.{converted-none, named_live}
use Rattle.ck_chain.proofs.OrderlyLaws.{positive_id}
use Rattle.ck_chain.proofs.ReadLaws.{live_stands}
use Rattle.ck_nodata.specs.StripItem.{IsStrippedTo}
use Rattle.ck_files.proofs.CheckpointLemmas.{converted-to, place_nodata}
use Rattle.ck_files.proofs.conversion.convert.Goals as goal

pub returns-in_default-clause-reply : goal.returns-in_default-clause-reply
returns-in_default-clause-reply g c store mounts =
    converted-none store mounts (g.M.Meta.table c.args.meta.now) c.requires.ours.lawful c.args.name.now (sym c.in_default.ensures.id)

pub returns-then-keeps-clause-reply : goal.returns-then-keeps-clause-reply
returns-then-keeps-clause-reply g c store mounts =
    converted-to store mounts (g.M.Meta.table c.args.meta.now) c.requires.ours.lawful c.requires.ours.sound c.args.name.now c.in-Some.id (sym c.in-Some.ensures.id) c.in-Some.ensures.found
    (g.M.Meta.table c.set_nodata.new.meta) c.set_nodata.ensures.table true (sym c.if-keeps.true ∙ c.keeps.ensures)

pub returns-else-keeps-clause-reply : goal.returns-else-keeps-clause-reply
returns-else-keeps-clause-reply g c store mounts =
    converted-to store mounts (g.M.Meta.table c.args.meta.now) c.requires.ours.lawful c.requires.ours.sound c.args.name.now c.in-Some.id (sym c.in-Some.ensures.id) c.in-Some.ensures.found
    (g.M.Meta.table c.set_nodata.new.meta) c.set_nodata.ensures.table false (sym c.if-keeps.false ∙ c.keeps.ensures)

pub returns-then-keeps-clause-ours : goal.returns-then-keeps-clause-ours
returns-then-keeps-clause-ours g c = record {
  lawful = g.met.M.Meta.lawful c.set_nodata.new.meta;
  sized = g.met.M.Meta.sized c.set_nodata.new.meta;
  sound = c.set_nodata.ensures.sound;
}

pub returns-else-keeps-clause-ours : goal.returns-else-keeps-clause-ours
returns-else-keeps-clause-ours g c = record {
  lawful = g.met.M.Meta.lawful c.set_nodata.new.meta;
  sized = g.met.M.Meta.sized c.set_nodata.new.meta;
  sound = c.set_nodata.ensures.sound;
}

pub returns-then-keeps-clause-stripped : goal.returns-then-keeps-clause-stripped
returns-then-keeps-clause-stripped g c =
    let t = g.M.Meta.table c.args.meta.now in
    let live = named_live t c.args.name.now c.in-Some.id c.in-Some.ensures.found in
    subst (λ u. IsStrippedTo u c.go_back.new.stripped) (sym c.set_nodata.ensures.table)
    (place_nodata t c.in-Some.id live c.args.stripped.now c.go_back.new.stripped c.requires.stripped
    (positive_id t c.in-Some.id c.requires.ours.lawful (live_stands t c.in-Some.id live)) c.go_back.ensures.back c.go_back.ensures.same)

pub returns-else-keeps-clause-stripped : goal.returns-else-keeps-clause-stripped
returns-else-keeps-clause-stripped g c =
    let t = g.M.Meta.table c.args.meta.now in
    let live = named_live t c.args.name.now c.in-Some.id c.in-Some.ensures.found in
    subst (λ u. IsStrippedTo u c.go_back.new.stripped) (sym c.set_nodata.ensures.table)
    (place_nodata t c.in-Some.id live c.args.stripped.now c.go_back.new.stripped c.requires.stripped
    (positive_id t c.in-Some.id c.requires.ours.lawful (live_stands t c.in-Some.id live)) c.go_back.ensures.back c.go_back.ensures.same)
