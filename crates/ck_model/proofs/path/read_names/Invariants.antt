use Rattle.std.proofs.Common.{length}
use Rattle.ck_model.proofs.PathLemmas.{HasRead}
use Rattle.ck_model.proofs.path.read_names.Given as goal

abbrev pub invariant-loop-rest : goal.invariant-loop-rest
invariant-loop-rest l = HasRead l.bytes l.names.items l.rest

abbrev pub decreases-loop-rest : goal.decreases-loop-rest
decreases-loop-rest l = length l.rest
