use Rattle.std.proofs.Common.{◌≡◌, true, false, length, vec_len, map as list_map, sym, ap, ◌∙◌, arith, rules}
use Rattle.std.specs.FinMap as map
use Rattle.std.proofs.lemmas.List.{length-map}
use Rattle.ck_model.specs.declared.reply.Reply.{Reply}
use Rattle.ck_model.specs.declared.reply.Reply.TheVariants.{Done}
use Rattle.ck_model.specs.Key.{key_cmp_total, key_cmp_exact}
use Rattle.ck_model.specs.Space.{is_new_block}
use Rattle.ck_model.specs.Step.{with_room}
use Rattle.ck_model.proofs.SizeLaws.{len-retain_keys-le}
use Rattle.ck_plain.specs.Plain.{checkpoint_of, world_of}
use Rattle.ck_plain.specs.Changed.{with_next}
use Rattle.ck_plain.specs.Outcome.{with_files}
use Rattle.ck_plain.specs.Room.{has_room, picks_for}
use Rattle.ck_plain.proofs.Questions.{Gives, beside, files_ask, files-asked, with_room-fits, with_room-full}
use Rattle.ck_plain.proofs.world.Plain.put_files.Goals as goal

pub invariant_of-room : goal.invariant_of-room
invariant_of-room c =
    let cells = c.args.next.primary in
    record {
      few_cells = omega (arith, c.args.self.now.few_cells);
      few_next = c.requires.cells;
      few_records = omega arith;
      few_blocks = omega (arith, c.new_block_count.ensures, len-retain_keys-le key_cmp_total key_cmp_exact cells (λ key. is_new_block c.args.self.now.next.stamp key (map.get cells key)), c.requires.cells);
    }

pub returns-then-not-fits : goal.returns-then-not-fits
returns-then-not-fits c =
    let w = world_of c.args.self.now in
    let changed = with_next w c.args.next in
    let ask = files_ask w c.args.next.primary c.new_block_count.result in
    let left = list_map checkpoint_of c.give_up-given.new.checkpoints.items in
    let all : vec_len c.args.self.now.checkpoints ≡ length w.checkpoints = search (rules, length-map) in
    let gives : Gives ask w c.give_up-given.result left = record {
      count = c.give_up-given.ensures.given ∙ ap (λ n. picks_for n ask w.checkpoints) all;
      rest = c.give_up-given.ensures.left;
    } in
    let full : has_room ask left ≡ false = search rules in
    ap (λ n. with_room w (with_files changed) n Done) (sym c.new_block_count.ensures)
    ∙ with_room-full ask w (with_files changed) c.new_block_count.result Done c.give_up-given.result left (files-asked w changed c.new_block_count.result) gives full
    ∙ ap (λ (reply : Reply). record { reply = reply; given = c.give_up-given.result; next = beside w left }) (sym (rw c.deref-then-not-fits.ensures.value at c.no_space-reply.ensures))

pub returns : goal.returns
returns c =
    let w = world_of c.args.self.now in
    let changed = with_next w c.args.next in
    let ask = files_ask w c.args.next.primary c.new_block_count.result in
    let left = list_map checkpoint_of c.give_up-given.new.checkpoints.items in
    let all : vec_len c.args.self.now.checkpoints ≡ length w.checkpoints = search (rules, length-map) in
    let gives : Gives ask w c.give_up-given.result left = record {
      count = c.give_up-given.ensures.given ∙ ap (λ n. picks_for n ask w.checkpoints) all;
      rest = c.give_up-given.ensures.left;
    } in
    let fit : has_room ask left ≡ true = search rules in
    ap (λ n. with_room w (with_files changed) n Done) (sym c.new_block_count.ensures)
    ∙ with_room-fits ask w (with_files changed) c.new_block_count.result Done c.give_up-given.result left (files-asked w changed c.new_block_count.result) gives fit
