use Rattle.std.proofs.Common.{◌*◌, ◌/◌, ap, ◌∙◌}
use Rattle.ck_generate.specs.Generator.{after}
use Rattle.ck_generate.proofs.GeneratorLemmas.{after-add, always_ok}
use Rattle.ck_generate.proofs.generator.put_round.Goals as goal

pub returns-clause-state : goal.returns-clause-state
returns-clause-state c =
    let files = c.args.files in
    always_ok c.put_round_end.result (
    c.in_ok-put_reads.ensures.state ∙ ap (after (2 * (files / 20))) c.in_ok-put_fills.ensures.state
    ∙ after-add (4 * (files / 10)) (2 * (files / 20)) c.args.draws.now)
