use Rattle.std.proofs.Common.{◌≡◌, ◌+◌, true, false, List, [], ◌∷◌, ◌++◌, length, vec_len, map as list_map, sym, ap, ◌∙◌, arith, rules}
use Rattle.std.specs.FinMap as map
use Rattle.std.proofs.lemmas.List.{length-map}
use Rattle.ck_model.specs.declared.reply.Reply.{Reply}
use Rattle.ck_model.specs.declared.reply.Reply.TheVariants.{Created}
use Rattle.ck_model.specs.Cells.{Cells}
use Rattle.ck_model.specs.World.{Checkpoint, shown_by}
use Rattle.ck_model.specs.CheckpointCalls.{kind_of, frozen_world}
use Rattle.ck_model.proofs.DifferenceLaws.{len-shown_by}
use Rattle.ck_plain.specs.Plain.{checkpoint_of, world_of}
use Rattle.ck_plain.specs.Room.{has_room, picks_for}
use Rattle.ck_plain.proofs.Lists.{map_append}
use Rattle.ck_plain.proofs.Questions.{Gives, beside, frozen_ask, frozen-asked, with_room-fits, with_room-full}
use Rattle.ck_plain.proofs.world.Plain.freeze.Goals as goal

pub invariant_of-push_reserved : goal.invariant_of-push_reserved
invariant_of-push_reserved c = record {
  few_cells = omega (
    arith,
    ap (λ (cells : Cells). map.len cells) c.requires.shows,
    len-shown_by (kind_of c.args.nodata) c.args.self.now.primary,
    c.args.self.now.few_cells,
  );
}

pub returns-then-not-fits : goal.returns-then-not-fits
returns-then-not-fits c =
    let w = world_of c.args.self.now in
    let effect = frozen_world c.args.name.now c.args.nodata c.args.removable c.args.at in
    let ask = frozen_ask w in
    let left = list_map checkpoint_of c.give_up-given.new.checkpoints.items in
    let all : vec_len c.args.self.now.checkpoints ≡ length w.checkpoints = search (rules, length-map) in
    let gives : Gives ask w c.give_up-given.result left = record {
      count = c.give_up-given.ensures.given ∙ ap (λ n. picks_for n ask w.checkpoints) all;
      rest = c.give_up-given.ensures.left;
    } in
    let full : has_room ask left ≡ false = search rules in
    with_room-full ask w effect 0 (Created w.next.id) c.give_up-given.result left (frozen-asked c.args.name.now c.args.nodata c.args.removable c.args.at w) gives full
    ∙ ap (λ (reply : Reply). record { reply = reply; given = c.give_up-given.result; next = beside w left }) (sym (rw c.deref-then-not-fits.ensures.value at c.no_space-reply.ensures))

pub returns : goal.returns
returns c =
    let w = world_of c.args.self.now in
    let effect = frozen_world c.args.name.now c.args.nodata c.args.removable c.args.at in
    let ask = frozen_ask w in
    let left = list_map checkpoint_of c.give_up-given.new.checkpoints.items in
    let all : vec_len c.args.self.now.checkpoints ≡ length w.checkpoints = search (rules, length-map) in
    let gives : Gives ask w c.give_up-given.result left = record {
      count = c.give_up-given.ensures.given ∙ ap (λ n. picks_for n ask w.checkpoints) all;
      rest = c.give_up-given.ensures.left;
    } in
    let fit : has_room ask left ≡ true = search rules in
    let new : Checkpoint = record {
      id = w.next.id;
      name = c.args.name.now;
      kind = kind_of c.args.nodata;
      removable = c.args.removable;
      ctime = c.args.at;
      cells = shown_by (kind_of c.args.nodata) w.primary;
    } in
    let pushed : list_map checkpoint_of c.push_reserved.new.self.items ≡ left ++ new ∷ [] =
    ap (list_map checkpoint_of) c.push_reserved.ensures.items
    ∙ map_append checkpoint_of c.give_up-given.new.checkpoints.items _
    ∙ (λ i. left ++ record new { kind = c.kind_of.ensures i; cells = c.requires.shows i } ∷ []) in
    with_room-fits ask w effect 0 (Created w.next.id) c.give_up-given.result left (frozen-asked c.args.name.now c.args.nodata c.args.removable c.args.at w) gives fit
    ∙ ap (λ (checkpoints : List Checkpoint). record { reply = Created w.next.id; given = c.give_up-given.result; next = record w { checkpoints = checkpoints; next = record (w.next) { id = w.next.id + 1 } } }) (sym pushed)
