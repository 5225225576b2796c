use Rattle.std.proofs.Common.{length}
use Rattle.ck_plain.proofs.space.+difference_count.Given as goal

abbrev pub decreases-difference_count : goal.decreases-difference_count
decreases-difference_count l = length l.checkpoints.now
