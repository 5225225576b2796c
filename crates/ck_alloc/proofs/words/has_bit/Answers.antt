use Rattle.std.proofs.lemmas.Nat.Bits.{shr_and_one}
use Rattle.ck_alloc.specs.Bits.{has}
use Rattle.ck_alloc.proofs.words.has_bit.Goals as goal

pub returns : goal.returns
unfolding has
returns c = rw shr_and_one
