use Rattle.std.proofs.Common.{◌≡◌, ℕ, ◌<◌, false, take}
use Rattle.std.specs.Ordering.{eq_by_cmp}
use Rattle.std.specs.BTreeSet.{contains}
use Rattle.ck_area.specs.Firsts.{stands_in, repeats}
use Rattle.ck_area.proofs.repeats.first_repeat.Given as goal

abbrev pub invariant-loop-at : goal.invariant-loop-at
invariant-loop-at g l = record {
  seen : (q : _) → contains g.K.Ord.cmp l.seen q ≡ stands_in (eq_by_cmp g.K.Ord.cmp) (take l.at l.items) q;
  none : (k : ℕ) → k < l.at → repeats (eq_by_cmp g.K.Ord.cmp) l.items k ≡ false;
}
