use Rattle.std.proofs.Common.{◌≡◌, ◌+◌, ◌<◌, ◌≤◌, [], true, false, not, List, length, get_or, take, drop, map as list_map, sym, ap, ◌∙◌, arith, rules}
use Rattle.std.specs.Option.{option_map}
use Rattle.std.specs.List.{find, take_while}
use Rattle.std.proofs.lemmas.Option.{slice_get_past}
use Rattle.std.proofs.Math.ListN.{drop_of_length-le}
use Rattle.ck_model.specs.World.{Checkpoint, is_named}
use Rattle.ck_plain.specs.declared.world.PlainCheckpoint.{PlainCheckpoint}
use Rattle.ck_plain.specs.Plain.{checkpoint_of}
use Rattle.ck_plain.proofs.Lists.{find_here, find_later, get_here, take_while_later}
use Rattle.ck_plain.proofs.frozen.place_named.Goals as goal

pub returns-then-is_named-clause-found : goal.returns-then-is_named-clause-found
returns-then-is_named-clause-found c =
    let all = c.args.checkpoints.now in
    let here = c.index-checkpoints-at.result in
    let within : c.loop-at.at < length all = omega arith in
    let named : is_named c.args.name.now (checkpoint_of here) ≡ true = search rules in
    ap (option_map checkpoint_of) (get_here checkpoint_of all c.loop-at.at here within c.index-checkpoints-at.is)
    ∙ sym (c.loop-at.invariant.found ∙ find_here checkpoint_of all c.loop-at.at here within c.index-checkpoints-at.is (is_named c.args.name.now) named)

pub loop-at-preserved : goal.loop-at-preserved
loop-at-preserved c =
    let all = c.args.checkpoints.now in
    let here = c.index-checkpoints-at.result in
    let within : c.loop-at.at < length all = omega arith in
    let other : is_named c.args.name.now (checkpoint_of here) ≡ false = search rules in
    record {
      older = c.loop-at.invariant.older
          ∙ take_while_later checkpoint_of all c.loop-at.at here within c.index-checkpoints-at.is (λ checkpoint. not (is_named c.args.name.now checkpoint)) (ap not other);
      found = c.loop-at.invariant.found ∙ find_later checkpoint_of all c.loop-at.at here within c.index-checkpoints-at.is (is_named c.args.name.now) other;
    }

pub returns-clause-found : goal.returns-clause-found
returns-clause-found c =
    let all = c.args.checkpoints.now in
    let past : length all ≤ c.loop-at.at = omega arith in
    let nothing : drop c.loop-at.at all ≡ [] = drop_of_length-le all past in
    ap (option_map checkpoint_of) (slice_get_past all (length all) (omega arith))
    ∙ sym (c.loop-at.invariant.found ∙ ap (λ (xs : List PlainCheckpoint). find (is_named c.args.name.now) (list_map checkpoint_of xs)) nothing)
