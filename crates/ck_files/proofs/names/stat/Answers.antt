use Rattle.std.proofs.Common.{◌≡◌, Ok, Err, sym, ap, ◌∙◌}
use Rattle.ck_model.specs.declared.reply.Reply.{Reply}
use Rattle.ck_model.specs.Refusals.{and_then}
use Rattle.ck_model.specs.ReadCalls.{stat_reply}
use Rattle.ck_model.specs.TableWorld.{values_of, world_on}
use Rattle.ck_model.specs.Step.{answered}
use Rattle.ck_model.specs.Values.{cells_on}
use Rattle.ck_model.specs.Walk.{node_at}
use Rattle.ck_files.specs.Room.{answered_with}
use Rattle.ck_model.proofs.CaseLaws.{if_ok_map}
use Rattle.ck_tree.proofs.MapLaws.{stands_on as stands}
use Rattle.ck_files.proofs.names.stat.Goals as goal

pub returns-in-Ok-clause-reply : goal.returns-in-Ok-clause-reply
returns-in-Ok-clause-reply g c =
    if_ok_map _ _ c.status.result
    (λ reply told store mounts.
    let t = g.M.Meta.table c.args.meta.now in
    let w = world_on store mounts t in
    let cells = cells_on store (values_of t 0) in
    let is : Ok c.in-Ok.node ≡ node_at cells c.args.path.now = c.in-Ok.ensures.value cells (stands store t 0) ∙ ap (node_at cells) c.items.ensures.names in
    ap (λ found. answered w (and_then found (λ node. Ok (stat_reply cells node)))) (sym is)
    ∙ ap (λ (r : Reply). answered_with r w) (sym (told store)))
    c.status.ensures.reply

pub returns-in-Err-clause-reply : goal.returns-in-Err-clause-reply
returns-in-Err-clause-reply g c = λ store mounts.
    let t = g.M.Meta.table c.args.meta.now in
    let w = world_on store mounts t in
    let cells = cells_on store (values_of t 0) in
    let is : Err c.in-Err.reply ≡ node_at cells c.args.path.now = c.in-Err.ensures.value cells (stands store t 0) ∙ ap (node_at cells) c.items.ensures.names in
    ap (λ found. answered w (and_then found (λ node. Ok (stat_reply cells node)))) (sym is)
