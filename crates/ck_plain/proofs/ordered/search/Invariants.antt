use Rattle.std.proofs.Common.{◌≡◌, ◌+◌, drop, true}
use Rattle.std.specs.FinMap.{find, is_sorted}
use Rattle.ck_model.specs.Key.{key_cmp}
use Rattle.ck_model.specs.Ordered.{place_of}
use Rattle.ck_plain.proofs.ordered.search.Given as goal

abbrev pub invariant-loop-at : goal.invariant-loop-at
invariant-loop-at l = record {
  place : place_of key_cmp l.key l.entries ≡ l.at + place_of key_cmp l.key (drop l.at l.entries);
  found : find key_cmp l.key l.entries ≡ find key_cmp l.key (drop l.at l.entries);
  sorted : is_sorted key_cmp (drop l.at l.entries) ≡ true;
}
