use Rattle.std.proofs.Common.{rules, ◌≢◌, sym, ap, ◌∙◌}
use Rattle.ck_model.specs.Step.{answered}
use Rattle.ck_model.specs.TableWorld.{world_on}
use Rattle.ck_model.specs.Values.{no_store}
use Rattle.ck_files.specs.Room.{answered_with}
use Rattle.ck_read.specs.declared.fault.StartFault.TheVariants.{NoMemory}
use Rattle.ck_read.specs.Block.{map_on}
use Rattle.ck_read.specs.StartFault.{file_read, reply_of}
use Rattle.ck_read.proofs.MountedLaws.{begun_now}
use Rattle.ck_read.proofs.ReplyLaws.{cread_refused}
use Rattle.ck_tree.proofs.MapLaws.{stands_on}
use Rattle.ck_engine.specs.Engine.{mounts_of, table_of}
use Rattle.ck_engine.proofs.engine.Engine.begin_read.Goals as goal

pub returns-in-Ok-clause-fits : goal.returns-in-Ok-clause-fits
returns-in-Ok-clause-fits g c = λ store.
    let self = c.args.self.now in
    let t = table_of self in
    let cells = map_on store t c.in-Some.ckpt in
    begun_now store (mounts_of self) t c.args.actor c.args.letter c.args.path.now c.args.at c.args.len c.in-Some.ckpt c.in-Ok.read
    (sym c.in-Some.ensures) c.in-Ok.ensures.ckpt
    (ap (file_read t cells c.in-Some.ckpt) (sym (c.walk-found.ensures cells (stands_on store t c.in-Some.ckpt))) ∙ c.in-Ok.ensures.node store)
    c.in-Ok.ensures.from (c.in-Ok.ensures.to store) (c.in-Ok.ensures.fits store)

pub returns-in-Ok-clause-under_way : goal.returns-in-Ok-clause-under_way
returns-in-Ok-clause-under_way g c = (c.in-Ok.ensures.fits no_store).under_way

pub returns-in-Err-2-clause-refused : goal.returns-in-Err-2-clause-refused
returns-in-Err-2-clause-refused g c = λ store.
    let self = c.args.self.now in
    let t = table_of self in
    let w = world_on store (mounts_of self) t in
    let cells = map_on store t c.in-Some.ckpt in
    let other : c.in-Err-2.why ≢ NoMemory = search rules in
    ap (answered w) (cread_refused store (mounts_of self) t c.args.actor c.args.letter c.in-Some.ckpt (sym c.in-Some.ensures) c.args.path.now c.args.at c.args.len c.in-Err-2.why
    (ap (file_read t cells c.in-Some.ckpt) (sym (c.walk-found.ensures cells (stands_on store t c.in-Some.ckpt))) ∙ c.in-Err-2.ensures.refused other store))
    ∙ ap (λ why. answered_with (reply_of c.in-Some.ckpt why) w) (sym c.in-Err-2.why-is)
    ∙ ap (λ r. answered_with r w) (sym c.reply.ensures)
