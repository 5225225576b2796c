use Rattle.std.proofs.Common.{ap, arith}
use Rattle.ck_io.specs.Memory.{MemSourceState}
use Rattle.ck_io.proofs.BytesLemmas.{gives_front}
use Rattle.ck_io.proofs.memory.MemSourceSource.read.Goals as goal

pub returns-clause-gives : goal.returns-clause-gives
returns-clause-gives c =
    gives_front c.min-count.result c.self.inside.given _ _ _ _ _ c.deref-2.ensures.value
    (ap (λ (s : MemSourceState). s.left) c.self.view_is) (omega arith) c.copy_from_slice.ensures.after
