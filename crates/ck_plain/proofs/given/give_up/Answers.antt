use Rattle.std.proofs.Common.{◌≡◌, ℕ, suc, ◌+◌, ◌-◌, true, false, Some, None, vec_len, map as list_map, sym, ap, ◌∙◌, arith, rules}
use Rattle.ck_plain.specs.declared.world.PlainCheckpoint.{PlainCheckpoint}
use Rattle.ck_plain.specs.Plain.{checkpoint_of}
use Rattle.ck_plain.specs.Room.{ask_of, has_room, pick_among, picks_for, left_of, without_id}
use Rattle.ck_plain.proofs.Picks.{picks_for-fits, picks_for-none, picks_for-some, left_of-some}
use Rattle.ck_plain.proofs.given.give_up.Goals as goal

pub returns-then-fits-clause-given : goal.returns-then-fits-clause-given
returns-then-fits-clause-given c =
    let ask = ask_of c.args.room.now in
    let all = list_map checkpoint_of c.args.checkpoints.now.items in
    let now = list_map checkpoint_of c.loop-given.checkpoints.items in
    let most : c.len-most.result ≡ vec_len c.args.checkpoints.now = search rules in
    let fits : has_room ask now ≡ true = search rules in
    let done = picks_for-fits (c.len-most.result - c.loop-given.given) ask now fits in
    omega (arith, ap (λ n. picks_for n ask all) most, c.loop-given.invariant.given, done)

pub returns-then-fits-clause-left : goal.returns-then-fits-clause-left
returns-then-fits-clause-left c =
    let all = list_map checkpoint_of c.args.checkpoints.now.items in
    let zero_more : c.loop-given.given ≡ c.loop-given.given + 0 = omega arith in
    sym (ap (λ n. left_of n all) zero_more ∙ c.loop-given.invariant.left 0)

pub returns-in-None-clause-given : goal.returns-in-None-clause-given
returns-in-None-clause-given c =
    let ask = ask_of c.args.room.now in
    let all = list_map checkpoint_of c.args.checkpoints.now.items in
    let now = list_map checkpoint_of c.loop-given.checkpoints.items in
    let most : c.len-most.result ≡ vec_len c.args.checkpoints.now = search rules in
    let none : pick_among now ≡ None = search rules in
    let done = picks_for-none (c.len-most.result - c.loop-given.given) ask now none in
    omega (arith, ap (λ n. picks_for n ask all) most, c.loop-given.invariant.given, done)

pub returns-in-None-clause-left : goal.returns-in-None-clause-left
returns-in-None-clause-left c =
    let all = list_map checkpoint_of c.args.checkpoints.now.items in
    let zero_more : c.loop-given.given ≡ c.loop-given.given + 0 = omega arith in
    sym (ap (λ n. left_of n all) zero_more ∙ c.loop-given.invariant.left 0)

pub loop-given-preserved : goal.loop-given-preserved
loop-given-preserved c =
    let ask = ask_of c.args.room.now in
    let all = list_map checkpoint_of c.args.checkpoints.now.items in
    let now = list_map checkpoint_of c.loop-given.checkpoints.items in
    let given = c.loop-given.given in
    let full : has_room ask now ≡ false = search rules in
    let picked : pick_among now ≡ Some c.in-Some.id = search rules in
    let dropped = c.drop_id.ensures.others in
    let step = picks_for-some c.len-most.result given ask now c.in-Some.id c.loop-given-test.true full picked in
    record {
      fewer = omega (arith, c.drop_id.ensures.fewer, c.loop-given.invariant.fewer);
      capacity = c.drop_id.ensures.capacity ∙ c.loop-given.invariant.capacity;
      given = omega (arith, c.loop-given.invariant.given, step, ap (picks_for (c.len-most.result - (given + 1)) ask) dropped);
      left = λ k.
          let later : given + 1 + k ≡ given + suc k = omega arith in
          ap (λ n. left_of n all) later ∙ c.loop-given.invariant.left (suc k) ∙ left_of-some k now c.in-Some.id picked ∙ ap (left_of k) (sym dropped);
    }

pub returns-clause-left : goal.returns-clause-left
returns-clause-left c =
    let all = list_map checkpoint_of c.args.checkpoints.now.items in
    let all_given : c.len-most.result ≡ c.loop-given.given + 0 = omega arith in
    sym (ap (λ n. left_of n all) all_given ∙ c.loop-given.invariant.left 0)
