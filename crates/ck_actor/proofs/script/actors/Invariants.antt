use Rattle.std.proofs.Common.{◌≡◌, ℕ, suc, ◌+◌, Some, length}
use Rattle.std.specs.Prelude.{slice_get}
use Rattle.ck_actor.specs.declared.actor.Actor.{Actor}
use Rattle.ck_actor.specs.Actor.{IsNew}
use Rattle.ck_actor.proofs.script.actors.Given as goal

abbrev pub invariant-loop-number : goal.invariant-loop-number
invariant-loop-number l = record {
  many : length l.actors.items + 1 ≡ l.number;
  each : (place : ℕ) (actor : Actor) → slice_get l.actors.items place ≡ Some actor → IsNew (suc place) actor;
}
