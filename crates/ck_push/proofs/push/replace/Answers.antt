use Rattle.std.proofs.Common.{◌≤◌, ◌⊎◌, ◌<◌, ◌+◌, Option, IsSome, MatchOption, is_some, not, sym, ap, subst, ◌∙◌}
use Rattle.ck_model.specs.declared.held.Held.{Held}
use Rattle.ck_model.specs.Table.{column, spare_count}
use Rattle.ck_push.specs.Changed.{replaced}
use Rattle.ck_push.specs.Growth.{one_if}
use Rattle.ck_push.proofs.ReplacedLemmas.{after_push, del_first, room_to_set, room_after_del, if_pushed}
use Rattle.ck_push.proofs.push.replace.Goals as goal

pub put-requires-clause-room : goal.put-requires-clause-room
put-requires-clause-room g c =
    let t = g.M.Meta.table c.args.meta.now in
    let key = c.args.key.now in
    let room = subst (λ (new : Option Held). MatchOption new (IsSome (column t key 0)) (λ held. one_if (is_some c.args.entry) + one_if (not (is_some (column t key 0))) ≤ spare_count t)) c.in-Some.is c.requires.room in
    subst (λ u. IsSome (column u key 0) ⊎ (0 < spare_count u)) (sym c.push.ensures) (room_to_set t key c.args.entry c.requires.checkpoint room)

pub push-requires-in-None-clause-room : goal.push-requires-in-None-clause-room
push-requires-in-None-clause-room g c =
    let t = g.M.Meta.table c.args.meta.now in
    let key = c.args.key.now in
    let some = subst (λ (new : Option Held). MatchOption new (IsSome (column t key 0)) (λ held. one_if (is_some c.args.entry) + one_if (not (is_some (column t key 0))) ≤ spare_count t)) c.in-None.is c.requires.room in
    if_pushed c.args.entry (0 < spare_count (g.M.Meta.table c.del.new.self)) (
    subst (λ u. 0 < spare_count u) (sym c.del.ensures) (room_after_del t key (g.met.M.Meta.sized c.args.meta.now) some))

pub returns-in-None : goal.returns-in-None
returns-in-None g c =
    let t = g.M.Meta.table c.args.meta.now in
    let key = c.args.key.now in
    c.push-in-None.ensures
    ∙ ap (λ u. after_push u key c.args.entry) c.del.ensures
    ∙ del_first t key c.args.entry c.requires.checkpoint
    ∙ ap (replaced t key c.args.entry) (sym c.in-None.is)
