use Rattle.std.proofs.Common.{◌+◌, refl}
use Rattle.ck_generate.specs.Generator.{some_read}
use Rattle.ck_generate.proofs.GeneratorLemmas.{texts_more, draws_more, texts_done, draws_done}
use Rattle.ck_generate.proofs.generator.put_reads.Goals as goal

pub loop-done-preserved : goal.loop-done-preserved
loop-done-preserved c = record {
  text = texts_more (some_read c.args.files) 2 c.args.count c.loop-done._done 0 (0 + c.loop-done._done) c.loop-done.draws c.put_some_read.new.draws _ c.loop-done.out.items c.put_some_read.new.out.items c.loop-done-test.true (refl) c.put_some_read.ensures.state c.loop-done.invariant.text (c.in_ok-put_some_read.ensures.text (0 + c.loop-done._done));
  state = draws_more 2 c.args.count c.loop-done._done c.loop-done.draws c.put_some_read.new.draws _ c.loop-done-test.true c.put_some_read.ensures.state c.loop-done.invariant.state;
}

pub returns-clause-text : goal.returns-clause-text
returns-clause-text c = texts_done (some_read c.args.files) 2 c.args.count c.loop-done._done (0 + c.loop-done._done) c.loop-done.draws _ c.loop-done.out.items c.loop-done-test.false c.loop-done.invariant.text

pub returns-clause-state : goal.returns-clause-state
returns-clause-state c = draws_done 2 c.args.count c.loop-done._done c.loop-done.draws _ c.loop-done-test.false c.loop-done.invariant.state
