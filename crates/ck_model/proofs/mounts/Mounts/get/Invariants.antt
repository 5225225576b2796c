use Rattle.std.proofs.Common.{◌≡◌, drop}
use Rattle.std.specs.FinMap.{get, find}
use Rattle.ck_model.specs.World.{mount_cmp}
use Rattle.ck_model.proofs.mounts.Mounts.get.Given as goal

abbrev pub invariant-loop-entry : goal.invariant-loop-entry
invariant-loop-entry l = get l.self l.mount ≡ find mount_cmp l.mount (drop l.entry-index l.entry-items)
