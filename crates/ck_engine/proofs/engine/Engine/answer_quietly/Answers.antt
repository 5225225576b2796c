use Rattle.std.proofs.Common.{sym, ap, ◌∙◌}
use Rattle.std.specs.FinMap as map
use Rattle.ck_model.specs.declared.call.Call.{Call}
use Rattle.ck_model.specs.declared.reply.Reply.{Reply}
use Rattle.ck_model.specs.History.{is_fault}
use Rattle.ck_model.specs.TableWorld.{world_on}
use Rattle.ck_model.specs.ReadCalls.{info_of}
use Rattle.ck_model.specs.Step.{step}
use Rattle.ck_model.specs.World.{World}
use Rattle.ck_files.specs.Room.{answered_with}
use Rattle.ck_slots.specs.Slots.{table_in}
use Rattle.ck_engine.specs.Engine.{table_of, mounts_of}
use Rattle.ck_model.proofs.CaseLaws.{if_ok_map}
use Rattle.ck_model.specs.Values.{no_store}
use Rattle.ck_engine.proofs.engine.Engine.answer_quietly.Goals as goal

pub returns-in-List-clause-ok : goal.returns-in-List-clause-ok
returns-in-List-clause-ok g c =
    let v = c.args.self.now in
    if_ok_map _ _ c.ls.result
    (λ reply ok store texts. ap (λ (x : Call). step texts (world_on store (mounts_of v) (table_of v)) c.args.actor c.args.moment x) c.in-List.is ∙ ok store (mounts_of v))
    c.ls.ensures.reply

pub returns-in-Stat-clause-ok : goal.returns-in-Stat-clause-ok
returns-in-Stat-clause-ok g c =
    let v = c.args.self.now in
    if_ok_map _ _ c.stat.result
    (λ reply ok store texts. ap (λ (x : Call). step texts (world_on store (mounts_of v) (table_of v)) c.args.actor c.args.moment x) c.in-Stat.is ∙ ok store (mounts_of v))
    c.stat.ensures.reply

pub returns-in-Clist-clause-ok : goal.returns-in-Clist-clause-ok
returns-in-Clist-clause-ok g c =
    let v = c.args.self.now in
    if_ok_map _ _ c.cls.result
    (λ reply ok store texts. ap (λ (x : Call). step texts (world_on store (mounts_of v) (table_of v)) c.args.actor c.args.moment x) c.in-Clist.is ∙ ok store)
    c.cls.ensures.reply

pub returns-in-Mount-clause-ok : goal.returns-in-Mount-clause-ok
returns-in-Mount-clause-ok g c =
    let v = c.args.self.now in
    if_ok_map _ _ c.mount.result
    (λ reply ok store texts. ap (λ (x : Call). step texts (world_on store (mounts_of v) (table_of v)) c.args.actor c.args.moment x) c.in-Mount.is ∙ ok store)
    c.mount.ensures.ok

pub returns-in-Umount-clause-ok : goal.returns-in-Umount-clause-ok
returns-in-Umount-clause-ok g c = λ store texts.
    let v = c.args.self.now in
    ap (λ (x : Call). step texts (world_on store (mounts_of v) (table_of v)) c.args.actor c.args.moment x) c.in-Umount.is ∙ c.umount.ensures.reply store (table_of v)

pub returns-in-Ckpts-clause-ok : goal.returns-in-Ckpts-clause-ok
returns-in-Ckpts-clause-ok g c =
    let v = c.args.self.now in
    if_ok_map _ _ c.ckpts.result
    (λ reply ok store texts.
    ap (λ (x : Call). step texts (world_on store (mounts_of v) (table_of v)) c.args.actor c.args.moment x) c.in-Ckpts.is
    ∙ ap (λ (r : Reply). answered_with r (world_on store (mounts_of v) (table_of v))) (sym (ok store (mounts_of v))))
    c.ckpts.ensures

pub returns-in-Ckpts-clause-ordinary : goal.returns-in-Ckpts-clause-ordinary
returns-in-Ckpts-clause-ordinary g c = if_ok_map _ _ c.ckpts.result (λ reply ok. ap is_fault (ok no_store map.empty)) c.ckpts.ensures

pub returns-in-Info-clause-ok : goal.returns-in-Info-clause-ok
returns-in-Info-clause-ok g c = λ store texts.
    let v = c.args.self.now in
    let u = table_in c.drain.new.meta in
    ap (λ (x : Call). step texts (world_on store (mounts_of v) (table_of v)) c.args.actor c.args.moment x) c.in-Info.is
    ∙ ap (λ (w : World). answered_with (info_of w) w) (sym (c.drain.ensures.alike.worlds store (mounts_of v)))
    ∙ ap (λ (r : Reply). answered_with r (world_on store (mounts_of v) u)) (sym (c.info.ensures store (mounts_of v)))

pub returns-in-Info-clause-ordinary : goal.returns-in-Info-clause-ordinary
returns-in-Info-clause-ordinary g c = ap is_fault (c.info.ensures no_store map.empty)
