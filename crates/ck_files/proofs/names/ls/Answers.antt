use Rattle.ck_model.specs.TableWorld.{world_on}
use Rattle.ck_model.proofs.CaseLaws.{if_ok_map}
use Rattle.ck_tree.proofs.MapLaws.{stands_on as stands}
use Rattle.ck_files.proofs.names.ls.Goals as goal

pub returns-clause-reply : goal.returns-clause-reply
returns-clause-reply g c =
    let t = g.M.Meta.table c.args.meta.now in
    if_ok_map _ _ c.names_in.result (λ reply told store mounts. let w = world_on store mounts t in told w.primary w (stands store t 0)) c.names_in.ensures.reply
