use Rattle.std.proofs.Common.{◌≡◌, ◌≤◌, ℕ, suc, ◌+◌, ◌-◌, List, [], ◌∷◌, ◌++◌, get_or, take as list_take, sym, ap, subst, ◌∙◌, arith}
use Rattle.std.proofs.lemmas.List.{take_more}
use Rattle.std.proofs.lemmas.List.Elements.{recursion_from_All}
use Rattle.ck_script.specs.declared.line.Line.{Line}
use Rattle.ck_volume.specs.Volume.{origin_of}
use Rattle.ck_actor.specs.Played.{AreTurned}
use Rattle.ck_actor.proofs.TurnedLemmas.{background_turned, own_turned}
use Rattle.ck_actor.proofs.script.take.Goals as goal

pub returns-then-number-eq0-clause-turned : goal.returns-then-number-eq0-clause-turned
returns-then-number-eq0-clause-turned g c =
    let origin = origin_of c.args.volume.now in
    let clock = g.C.Clock.means c.args.clock.now in
    let script = c.args.script.now in
    let at = c.args.at in
    let is : get_or script.turns at 0 ≡ 0 = subst (λ (xs : List ℕ). get_or xs at 0 ≡ 0) c.items.ensures c.if-number-eq0.true in
    let more : list_take (at + 1) script.turns ≡ list_take at script.turns ++ 0 ∷ [] = take_more script.turns at 0 c.requires.within ∙ ap (λ n. list_take at script.turns ++ n ∷ []) is in
    subst (λ turns. AreTurned g.D.Disk.means origin clock script.calls turns c.background.new.self c.args.actors.now) (sym more)
    (background_turned g.D.Disk.means origin clock script.calls c.args.volume.now c.background.new.self (list_take at script.turns) c.args.actors.now c.requires.turned
    (recursion_from_All (λ (line : Line). (1 ≤ line.actor) × (line.actor ≤ 64)) script.calls script.within.actors) c.background.ensures.log)

pub returns-else-number-eq0-clause-turned : goal.returns-else-number-eq0-clause-turned
returns-else-number-eq0-clause-turned g c =
    let origin = origin_of c.args.volume.now in
    let clock = g.C.Clock.means c.args.clock.now in
    let script = c.args.script.now in
    let at = c.args.at in
    let so_far = c.requires.turned in
    let number : ℕ = get_or c.items.result.now at 0 in
    let some : number ≡ suc (number - 1) = omega (arith, c.if-number-eq0.false) in
    let is : get_or script.turns at 0 ≡ suc (number - 1) = ap (λ (xs : List ℕ). get_or xs at 0) (sym c.items.ensures) ∙ some in
    let more : list_take (at + 1) script.turns ≡ list_take at script.turns ++ suc (number - 1) ∷ [] = take_more script.turns at 0 c.requires.within ∙ ap (λ n. list_take at script.turns ++ n ∷ []) is in
    subst (λ turns. AreTurned g.D.Disk.means origin clock script.calls turns c.take_own.new.volume c.take_own.new.actors) (sym more)
    (own_turned g.D.Disk.means origin clock script.calls c.args.volume.now c.take_own.new.volume (list_take at script.turns) c.args.actors.now so_far (suc (number - 1)) c.take_own.new.actors
    (c.take_own.ensures.stepped so_far.at so_far.known so_far.under_way))
