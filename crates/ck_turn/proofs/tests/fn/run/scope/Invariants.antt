use Rattle.std.proofs.Common.{◌≡◌, ◌+◌, ◌≤◌, vec_len, true, false, All, length}
use Rattle.ck_turn.specs.Pass.{IsPassOf}
use Rattle.ck_turn.proofs.tests.fn.run.scope.Given as goal

abbrev pub invariant-loop-by : goal.invariant-loop-by
invariant-loop-by g l =
    IsPassOf l.lock l.first × (l.first.first ≡ true) × (l.first.inside ≡ false) × (l.first.splits ≡ l.by) × (l.first.joins + vec_len l.handles ≡ l.by)
    × All (λ h. h.promise.0.value ≡ l.lock) l.handles.items

abbrev pub invariant-loop-handle : goal.invariant-loop-handle
invariant-loop-handle g l =
    IsPassOf l.lock l.first × (l.first.first ≡ true) × (l.first.inside ≡ false) × (l.first.joins + vec_len l.handles ≡ l.first.splits)
    × All (λ h. h.promise.0.value ≡ l.lock) l.handles.items

abbrev pub decreases-loop-handle : goal.decreases-loop-handle
decreases-loop-handle g l = vec_len l.handles
