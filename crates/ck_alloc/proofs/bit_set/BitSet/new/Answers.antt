use Rattle.std.proofs.Common.{arith}
use Rattle.ck_alloc.proofs.MarkLemmas.{has-zeros}
use Rattle.ck_alloc.proofs.IndexLemmas.{IsIndexed-zeros}
use Rattle.ck_alloc.proofs.bit_set.BitSet.new.Goals as goal

pub invariant_of-result : goal.invariant_of-result
invariant_of-result c =
    rw (c.in_ok-zeros.ensures, c.in_ok-zeros-2.ensures)
    (record { indexed = IsIndexed-zeros c.args.limit _ _ c.ranges.limit.fits (omega arith) (omega arith) })

pub returns-clause-empty : goal.returns-clause-empty
returns-clause-empty c k = rw c.in_ok-zeros.ensures (has-zeros _ k)
