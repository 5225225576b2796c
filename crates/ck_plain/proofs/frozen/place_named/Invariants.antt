use Rattle.std.proofs.Common.{◌≡◌, ◌++◌, not, take, drop, map as list_map}
use Rattle.std.specs.List.{find, take_while}
use Rattle.ck_model.specs.World.{is_named}
use Rattle.ck_plain.specs.Plain.{checkpoint_of}
use Rattle.ck_plain.proofs.frozen.place_named.Given as goal

abbrev pub invariant-loop-at : goal.invariant-loop-at
invariant-loop-at l = record {
  older : take_while (λ checkpoint. not (is_named l.name checkpoint)) (list_map checkpoint_of l.checkpoints)
      ≡ list_map checkpoint_of (take l.at l.checkpoints) ++ take_while (λ checkpoint. not (is_named l.name checkpoint)) (list_map checkpoint_of (drop l.at l.checkpoints));
  found : find (is_named l.name) (list_map checkpoint_of l.checkpoints) ≡ find (is_named l.name) (list_map checkpoint_of (drop l.at l.checkpoints));
}
