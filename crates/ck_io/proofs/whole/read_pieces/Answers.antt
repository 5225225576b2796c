use Rattle.ck_io.proofs.BytesLemmas.{ends_on}
use Rattle.ck_io.proofs.ByteLaws.{told_on}
use Rattle.ck_io.proofs.whole.read_pieces.Goals as goal

pub returns-in_err-take_piece-clause-rest : goal.returns-in_err-take_piece-clause-rest
returns-in_err-take_piece-clause-rest g c = λ told.
    let still = told_on _ _ c.loop-bytes.invariant.tells told in
    ends_on _ _ _ (record { taken = c.loop-bytes.bytes.items; parts = c.loop-bytes.invariant.none_lost told }) (c.take_piece.ensures.rest still)
