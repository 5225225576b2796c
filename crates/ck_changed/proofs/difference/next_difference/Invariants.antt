use Rattle.std.proofs.Common.{◌≡◌, true, false, IfSome}
use Rattle.std.specs.Option.{option_copied}
use Rattle.ck_model.specs.declared.key.Key.{Key}
use Rattle.ck_chain.specs.Order.{is_after, is_before, keys_left}
use Rattle.ck_changed.specs.Difference.{differs_at}
use Rattle.ck_changed.proofs.difference.next_difference.Given as goal

abbrev pub invariant-loop-here : goal.invariant-loop-here
invariant-loop-here g l =
    let t = g.M.Meta.table l.meta in
    record {
      behind : IfSome l.here (λ k. is_after (option_copied l.after) k ≡ true);
      between : (q : Key) → is_after (option_copied l.after) q ≡ true → is_before l.here q ≡ true → differs_at t l.from l.to q ≡ false;
    }

abbrev pub decreases-loop-here : goal.decreases-loop-here
decreases-loop-here g l = keys_left (g.M.Meta.table l.meta) l.here
