use Rattle.std.proofs.Common.{◌+◌, arith}
use Rattle.ck_generate.specs.Generator.{round_text, round_draws}
use Rattle.ck_generate.proofs.GeneratorLemmas.{texts_more, texts_done}
use Rattle.ck_generate.proofs.generator.put_rounds.Goals as goal

pub loop-done-preserved : goal.loop-done-preserved
loop-done-preserved c = texts_more (round_text c.args.files) (round_draws c.args.files) c.args.rounds c.loop-done.done 1 (c.loop-done.done + 1) c.loop-done.draws c.put_round.new.draws _ c.loop-done.out.items c.put_round.new.out.items c.loop-done-test.true (omega arith) c.in_ok-put_round.ensures.state c.loop-done.invariant (c.in_ok-put_round.ensures.text)

pub returns : goal.returns
returns c = texts_done (round_text c.args.files) (round_draws c.args.files) c.args.rounds c.loop-done.done (1 + c.loop-done.done) c.loop-done.draws _ c.loop-done.out.items c.loop-done-test.false c.loop-done.invariant
