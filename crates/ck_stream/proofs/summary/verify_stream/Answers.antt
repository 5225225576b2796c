use Rattle.std.proofs.Common.{ap, sym, ◌∙◌, arith}
use Rattle.ck_stream.specs.Seen.{seen}
use Rattle.ck_stream.proofs.StreamLemmas.{stream_again}
use Rattle.ck_stream.proofs.SeenLemmas.{seen_is, tells_of}
use Rattle.ck_stream.proofs.summary.verify_stream.Goals as goal

pub returns-clause-stands : goal.returns-clause-stands
returns-clause-stands c =
    tells_of c.args.bytes.now c.args.at c.summary_in.result c.requires (λ i. omega (arith, c.type_inv.bytes i))
    (c.summary_in.ensures ∙ sym (seen_is c.args.bytes.now c.args.at))

pub returns-clause-only : goal.returns-clause-only
returns-clause-only c = λ s end right there.
    c.summary_in.ensures ∙ sym (seen_is c.args.bytes.now c.args.at) ∙ ap seen (stream_again c.args.bytes.now c.args.at end s c.requires right there)

pub returns-clause-exact : goal.returns-clause-exact
returns-clause-exact c = c.summary_in.ensures ∙ sym (seen_is c.args.bytes.now c.args.at)
