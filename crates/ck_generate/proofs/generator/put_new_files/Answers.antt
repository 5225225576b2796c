use Rattle.std.proofs.Common.{◌+◌, arith}
use Rattle.ck_generate.specs.Generator.{file_lines}
use Rattle.ck_generate.proofs.GeneratorLemmas.{texts_more, draws_more, texts_done, draws_done}
use Rattle.ck_generate.proofs.generator.put_new_files.Goals as goal

pub loop-done-preserved : goal.loop-done-preserved
loop-done-preserved c = record {
  text = texts_more file_lines 2 c.args.files c.loop-done.done 1 (c.loop-done.done + 1) c.loop-done.draws c.put_new_file.new.draws _ c.loop-done.out.items c.put_new_file.new.out.items c.loop-done-test.true (omega arith) c.put_new_file.ensures.state c.loop-done.invariant.text (c.in_ok-put_new_file.ensures.text);
  state = draws_more 2 c.args.files c.loop-done.done c.loop-done.draws c.put_new_file.new.draws _ c.loop-done-test.true c.put_new_file.ensures.state c.loop-done.invariant.state;
}

pub returns-clause-text : goal.returns-clause-text
returns-clause-text c = texts_done file_lines 2 c.args.files c.loop-done.done (1 + c.loop-done.done) c.loop-done.draws _ c.loop-done.out.items c.loop-done-test.false c.loop-done.invariant.text

pub returns-clause-state : goal.returns-clause-state
returns-clause-state c = draws_done 2 c.args.files c.loop-done.done c.loop-done.draws _ c.loop-done-test.false c.loop-done.invariant.state
