use Rattle.std.proofs.Common.{◌≡◌, ◌<◌, sym, ap, subst, ◌∙◌, arith}
use Rattle.ck_model.specs.declared.checkpoint.Kind.{Kind}
use Rattle.ck_model.specs.declared.checkpoint.Limits.{Limits}
use Rattle.ck_model.specs.declared.reply.Reply.TheVariants.{Created, NoSpace}
use Rattle.ck_model.specs.declared.reply.SpaceOf.TheVariants.{Records}
use Rattle.ck_model.specs.CheckpointCalls.{kind_of}
use Rattle.ck_model.specs.Table.{IsTable, spare_count}
use Rattle.ck_model.specs.TableWorld.{world_on}
use Rattle.ck_table.specs.Added.{new_id, new_fileset, with_added}
use Rattle.ck_table.proofs.AddedLaws.{world-with_added}
use Rattle.ck_nodata.specs.StripItem.{IsStrippedTo}
use Rattle.ck_nodata.proofs.PlaceLaws.{stripped_added}
use Rattle.ck_files.specs.Freeze.{refusal_of, refused_or}
use Rattle.ck_files.specs.Room.{answered_with}
use Rattle.ck_files.proofs.CreateLemmas.{created-refused, created-lack, created-fits}
use Rattle.ck_files.proofs.freeze.add_checkpoint.Goals as goal

pub returns-then-spare-eq0-clause-reply : goal.returns-then-spare-eq0-clause-reply
returns-then-spare-eq0-clause-reply g c store mounts =
    let t = g.M.Meta.table c.args.meta.now in
    let w = world_on store mounts t in
    let full = c.requires.full (sym c.spare.ensures ∙ c.if-spare-eq0.true) in
    created-lack store mounts t c.requires.ours c.args.name.now c.args.nodata c.args.removable c.args.at full.drained full.none full.spare
    ∙ ap (λ (l : Limits). answered_with (refused_or l.checkpoints (NoSpace Records l.records 1 l.records) (new_id t c.args.name.now)) w) (sym c.requires.limits)
    ∙ ap (λ reply. answered_with reply w) (sym c.lack.ensures)

pub returns-in-Ok-clause-reply : goal.returns-in-Ok-clause-reply
returns-in-Ok-clause-reply g c store mounts =
    let t = g.M.Meta.table c.args.meta.now in
    let n = g.M.Meta.table c.add.new.meta in
    let name = c.args.name.now in
    let same : n ≡ with_added t (new_fileset name (kind_of c.args.nodata) c.args.removable c.args.at) = c.in-Ok.ensures.ok ∙ ap (λ (kind : Kind). with_added t (new_fileset name kind c.args.removable c.args.at)) c.kind_of.ensures in
    let some : 0 < spare_count t = omega (arith, c.spare.ensures, c.if-spare-eq0.false) in
    let world = world-with_added store mounts t c.requires.ours.lawful c.requires.ours.sound.orderly name c.args.nodata c.args.removable c.args.at (subst IsTable same (g.met.M.Meta.lawful c.add.new.meta)) in
    created-fits store mounts t c.requires.ours name c.args.nodata c.args.removable c.args.at c.in-Ok.id (sym c.in-Ok.ensures.result) some
    ∙ ap (answered_with (Created c.in-Ok.id)) (sym world ∙ ap (world_on store mounts) (sym same))

pub returns-in-Ok-clause-ours : goal.returns-in-Ok-clause-ours
returns-in-Ok-clause-ours g c =
    let t = g.M.Meta.table c.args.meta.now in
    record {
      lawful = g.met.M.Meta.lawful c.add.new.meta;
      sized = g.met.M.Meta.sized c.add.new.meta;
      sound = c.in-Ok.ensures.sound;
    }

pub returns-in-Ok-clause-stripped : goal.returns-in-Ok-clause-stripped
returns-in-Ok-clause-stripped g c last done =
    subst (λ u. IsStrippedTo u last) (sym c.in-Ok.ensures.ok)
    (stripped_added (g.M.Meta.table c.args.meta.now) (new_fileset c.args.name.now c.kind_of.result c.args.removable c.args.at) c.requires.ours.lawful c.requires.ours.sound.orderly last done)

pub returns-in-Err-clause-reply : goal.returns-in-Err-clause-reply
returns-in-Err-clause-reply g c store mounts =
    let t = g.M.Meta.table c.args.meta.now in
    created-refused store mounts t c.requires.ours c.args.name.now c.args.nodata c.args.removable c.args.at c.in-Err.fault (sym c.in-Err.ensures.result)
    ∙ ap (λ (l : Limits). answered_with (refusal_of l.checkpoints c.in-Err.fault) (world_on store mounts t)) (sym c.requires.limits)
    ∙ ap (λ reply. answered_with reply (world_on store mounts t)) (sym c.refusal.ensures)
    ∙ ap (λ u. answered_with c.refusal.result (world_on store mounts u)) (sym c.in-Err.ensures.err)
