use Rattle.std.proofs.Common.{◌+◌, refl}
use Rattle.ck_generate.specs.Generator.{some_fill}
use Rattle.ck_generate.proofs.GeneratorLemmas.{texts_more, draws_more, texts_done, draws_done}
use Rattle.ck_generate.proofs.generator.put_fills.Goals as goal

pub loop-done-preserved : goal.loop-done-preserved
loop-done-preserved c = record {
  text = texts_more (some_fill c.args.files) 4 c.args.count c.loop-done._done 0 (0 + c.loop-done._done) c.loop-done.draws c.put_some_fill.new.draws _ c.loop-done.out.items c.put_some_fill.new.out.items c.loop-done-test.true (refl) c.put_some_fill.ensures.state c.loop-done.invariant.text (c.in_ok-put_some_fill.ensures.text (0 + c.loop-done._done));
  state = draws_more 4 c.args.count c.loop-done._done c.loop-done.draws c.put_some_fill.new.draws _ c.loop-done-test.true c.put_some_fill.ensures.state c.loop-done.invariant.state;
}

pub returns-clause-text : goal.returns-clause-text
returns-clause-text c = texts_done (some_fill c.args.files) 4 c.args.count c.loop-done._done (0 + c.loop-done._done) c.loop-done.draws _ c.loop-done.out.items c.loop-done-test.false c.loop-done.invariant.text

pub returns-clause-state : goal.returns-clause-state
returns-clause-state c = draws_done 4 c.args.count c.loop-done._done c.loop-done.draws _ c.loop-done-test.false c.loop-done.invariant.state
