use Rattle.std.proofs.Common.{◌≡◌, ◌-◌, List, None, IfOk, IfErr, refl, sym, subst}
use Rattle.ck_model.specs.declared.change.Change.{Change}
use Rattle.ck_reclaim.specs.Removable.{pick_of}
use Rattle.ck_push.specs.Growth.{gains, losses, write_count}
use Rattle.ck_files.specs.declared.given.Given.{Given}
use Rattle.ck_files.specs.declared.planned.Planned.{Planned}
use Rattle.ck_files.specs.Planned.{IsPlanned}
use Rattle.ck_files.specs.Room.{HasRoom, IsLacking}
use Rattle.ck_model.proofs.CaseLaws.{if_ok_map}
use Rattle.ck_files.proofs.PlacedLemmas.{lack-ordinary, planned-full, planned-refused, ordinary_refusal}
use Rattle.ck_files.proofs.PlanLemmas.{plan_alike}
use Rattle.ck_files.proofs.planned.plan_changes.Goals as goal
use Rattle.ck_files.proofs.planned.plan_changes.Goals.{in-Ok-answer, in-Err-answer}

pub returns-in-Err-clause-planned : goal.returns-in-Err-clause-planned
returns-in-Err-clause-planned g c =
    let t = g.M.Meta.table c.args.meta.now in
    if_ok_map _ _ c.refused.result
    (λ planned told. subst (λ (planned : Given Planned). IsPlanned t c.args.call.now planned.answer) (sym told.1)
    (ordinary_refusal c.in-Err.fault told.0, λ store mounts. planned-refused store mounts t c.args.call.now c.in-Err.fault c.in-Err.ensures.refusal told.0))
    c.refused.ensures

pub returns-clause-planned : goal.returns-clause-planned
returns-clause-planned g c =
    let call = c.args.call.now in
    let u = g.M.Meta.table c.make_room-count.new.meta in
    let made = c.make_room-count.ensures in
    let changes : List Change = c.in-Ok.changes.items in
    let plan = plan_alike c.make_room-count.result.count (g.M.Meta.table c.args.meta.now) u made.without call changes c.in-Ok.ensures.plan in
    let told = c.deref.ensures.value in
    elim c.match-answer.branch [
      | in-Ok-answer w ↦
          let writes = w.in-Ok-answer.writes in
          let there : HasRoom u c.deref.result.now writes = subst (λ answer. IfOk answer (HasRoom u c.deref.result.now)) w.in-Ok-answer.is made.fits in
          let room = subst (λ (items : List Change). HasRoom u items writes) told there in
          subst (IsPlanned u call) (sym w.answer-is) (plan, room.fits, room.writes_are)
      | in-Err-answer w ↦
          let reply = w.in-Err-answer.reply in
          let there : IsLacking u c.deref.result.now reply × (pick_of u ≡ None) = subst (λ answer. IfErr answer (λ reply. IsLacking u c.deref.result.now reply × (pick_of u ≡ None))) w.in-Err-answer.is made.lack in
          let lack = subst (λ (items : List Change). IsLacking u items reply) told there.0 in
          subst (IsPlanned u call) (sym w.answer-is) (
            lack-ordinary u (write_count changes) (gains u changes - losses u changes) reply lack.reply,
            λ store mounts.
                planned-full store mounts u call changes made.files.ours plan lack.drained there.1 (write_count changes) (gains u changes - losses u changes) reply refl refl lack.full lack.reply,
          )
    ]
