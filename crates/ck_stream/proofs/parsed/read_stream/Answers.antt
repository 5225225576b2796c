use Rattle.std.proofs.Common.{subst, arith}
use Rattle.ck_stream.specs.Parsed.{Gives}
use Rattle.ck_stream.proofs.StreamLemmas.{is_right, is_spelled, stream_again}
use Rattle.ck_stream.proofs.parsed.read_stream.Goals as goal

pub returns-clause-right : goal.returns-clause-right
returns-clause-right c =
    is_right c.args.bytes.now c.args.at c.stream_in.result c.requires (λ i. omega (arith, c.type_inv.bytes i)) c.stream_in.ensures

pub returns-clause-spelled : goal.returns-clause-spelled
returns-clause-spelled c =
    is_spelled c.args.bytes.now c.args.at c.stream_in.result c.requires (λ i. omega (arith, c.type_inv.bytes i)) c.stream_in.ensures

pub returns-clause-only : goal.returns-clause-only
returns-clause-only c = λ s end right there.
    subst (λ read. Gives (λ x. x) c.stream_in.result read) (stream_again c.args.bytes.now c.args.at end s c.requires right there) c.stream_in.ensures
