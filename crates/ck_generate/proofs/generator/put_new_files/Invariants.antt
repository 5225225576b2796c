use Rattle.std.proofs.Common.{◌≡◌, ◌++◌, ◌+◌, ◌-◌, ◌*◌}
use Rattle.ck_generate.specs.Generator.{after, texts, file_lines}
use Rattle.ck_generate.proofs.generator.put_new_files.Given as goal

abbrev pub invariant-loop-done : goal.invariant-loop-done
invariant-loop-done l = record {
  text : l.out.items ++ texts file_lines 2 (l.files - l.done) (1 + l.done) l.draws ≡ l.initial.out.items ++ texts file_lines 2 l.files 1 l.initial.draws;
  state : after (2 * (l.files - l.done)) l.draws ≡ after (2 * l.files) l.initial.draws;
}
