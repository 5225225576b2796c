use Rattle.std.proofs.Common.{◌≡◌, Ok, Err, sym, ap, ◌∙◌}
use Rattle.ck_model.specs.declared.reply.Reply.TheVariants.{Bytes}
use Rattle.ck_model.specs.Refusals.{and_then}
use Rattle.ck_model.specs.Contents.{file_range}
use Rattle.ck_model.specs.Step.{answered}
use Rattle.ck_model.specs.Walk.{file_at}
use Rattle.ck_model.specs.TableWorld.{world_on}
use Rattle.ck_data.specs.Device.{store_on}
use Rattle.ck_files.specs.Room.{answered_with}
use Rattle.ck_tree.proofs.MapLaws.{stands_on as stands}
use Rattle.ck_data.proofs.reads.read.Goals as goal

pub returns-in_ok-bytes-in-Ok-clause-reply : goal.returns-in_ok-bytes-in-Ok-clause-reply
returns-in_ok-bytes-in-Ok-clause-reply g c = λ told.
    let t = g.M.Meta.table c.args.meta.now in
    let store = store_on (g.D.Disk.means c.args.disk.now).shows c.args.area.base in
    let w = world_on store c.args.mounts.now t in
    let is : Ok c.in-Ok.node ≡ file_at w.primary c.args.path.now = c.in-Ok.ensures.value w.primary (stands store t 0) ∙ ap (file_at w.primary) c.items.ensures.names in
    ap (λ found. answered w (and_then found (λ node. Ok (Bytes (file_range w.primary node c.args.at c.args.len))))) (sym is)
    ∙ ap (λ bytes. answered_with (Bytes bytes) w) (sym (c.in_ok-bytes-in-Ok.ensures.bytes told) ∙ sym c.of.ensures)
    ∙ ap (λ shows. answered_with (Bytes c.of.result) (world_on (store_on shows c.args.area.base) c.args.mounts.now t)) (sym c.in_ok-bytes-in-Ok.ensures.device.shows)

pub returns-in-Err-clause-reply : goal.returns-in-Err-clause-reply
returns-in-Err-clause-reply g c = λ told.
    let t = g.M.Meta.table c.args.meta.now in
    let store = store_on (g.D.Disk.means c.args.disk.now).shows c.args.area.base in
    let w = world_on store c.args.mounts.now t in
    let is : Err c.in-Err.reply ≡ file_at w.primary c.args.path.now = c.in-Err.ensures.value w.primary (stands store t 0) ∙ ap (file_at w.primary) c.items.ensures.names in
    ap (λ found. answered w (and_then found (λ node. Ok (Bytes (file_range w.primary node c.args.at c.args.len))))) (sym is)
