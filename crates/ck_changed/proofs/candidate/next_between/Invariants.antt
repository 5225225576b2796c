use Rattle.std.proofs.Common.{◌≡◌, ◌-◌, ◌^◌, ◌<◌, ◌≤◌, ◌∷◌, true, IfSome}
use Rattle.std.specs.Option.{option_copied}
use Rattle.ck_model.specs.declared.key.Key.{Key}
use Rattle.ck_model.specs.Table.{column, newer}
use Rattle.ck_model.specs.Chain.{first_entry}
use Rattle.ck_chain.specs.Order.{is_after, is_before, IsHeld}
use Rattle.ck_changed.specs.Difference.{EntryBetween}
use Rattle.ck_changed.proofs.candidate.next_between.Given as goal

abbrev pub invariant-loop-id : goal.invariant-loop-id
invariant-loop-id g l =
    let t = g.M.Meta.table l.meta in
    record {
      below : l.at < l.newer;
      from : l.older ≤ l.at;
      behind : IfSome l.found (λ k. is_after (option_copied l.after) k ≡ true);
      held : IfSome l.found (IsHeld t);
      entry : IfSome l.found (EntryBetween t l.older l.newer);
      between : (q : Key) → is_after (option_copied l.after) q ≡ true → is_before l.found q ≡ true
          → first_entry (column t q) (l.older ∷ newer t l.older) ≡ first_entry (column t q) (newer t l.at);
    }

abbrev pub decreases-loop-id : goal.decreases-loop-id
decreases-loop-id g l = 2 ^ 32 - l.at
