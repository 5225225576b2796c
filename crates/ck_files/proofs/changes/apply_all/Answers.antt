use Rattle.std.proofs.Common.{◌≡◌, ◌+◌, suc, drop, drop-cons, ◌∷◌, sym, ap, subst, ◌∙◌, arith}
use Rattle.ck_files.specs.Changes.{written_by}
use Rattle.ck_push.specs.Changes.{changed_all}
use Rattle.ck_files.proofs.MadeLemmas.{MayMake, made_one, unnamed_all}
use Rattle.ck_push.proofs.RoomLaws.{room_first}
use Rattle.ck_files.proofs.changes.apply_all.Goals as goal

pub apply-requires-clause-room : goal.apply-requires-clause-room
apply-requires-clause-room g c =
    let i = c.loop-item.item-index in
    let items = c.args.items.now in
    let split : drop i items ≡ c.item-item.result ∷ drop (suc i) items = drop-cons items i c.item-item.result (omega arith) ∙ ap (λ x. x ∷ drop (suc i) items) (sym c.item-item.is) in
    let may = subst (λ rest. MayMake (g.M.Meta.table c.loop-item.meta) c.loop-item.blocks rest c.args.stamp) split c.loop-item.invariant.may in
    room_first (g.M.Meta.table c.loop-item.meta) c.item-item.result (drop (suc i) items) may.first may.room

pub loop-item-preserved : goal.loop-item-preserved
loop-item-preserved g c =
    let i = c.loop-item.item-index in
    let items = c.args.items.now in
    let item = c.item-item.result in
    let t = g.M.Meta.table c.loop-item.meta in
    let u = g.M.Meta.table c.apply.new.meta in
    let next : suc i ≡ i + 1 = omega arith in
    let rest = drop (i + 1) items in
    let split : drop i items ≡ item ∷ rest = drop-cons items i item (omega arith) ∙ ap (λ x. x ∷ drop (suc i) items) (sym c.item-item.is) ∙ ap (λ n. item ∷ drop n items) next in
    let may : MayMake t c.loop-item.blocks (item ∷ rest) c.args.stamp = subst (λ rest. MayMake t c.loop-item.blocks rest c.args.stamp) split c.loop-item.invariant.may in
    record {
      within = omega arith;
      ours = c.apply.ensures.ours;
      may = made_one t u c.loop-item.blocks c.apply.new.blocks item rest c.args.stamp c.loop-item.invariant.ours c.apply.ensures.ours.sized may c.apply.ensures.changed
          (c.apply.ensures.allocated (written_by rest c.args.stamp) (unnamed_all t rest c.args.stamp may.may.2) may.allocated);
      leads = ap (λ x. changed_all x rest c.args.stamp) c.apply.ensures.changed ∙ ap (λ left. changed_all t left c.args.stamp) (sym split) ∙ c.loop-item.invariant.leads;
      busy = λ block h. c.apply.ensures.busy block (c.loop-item.invariant.busy block h);
    }
