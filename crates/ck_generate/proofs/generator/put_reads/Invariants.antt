use Rattle.std.proofs.Common.{◌≡◌, ◌++◌, ◌+◌, ◌-◌, ◌*◌}
use Rattle.ck_generate.specs.Generator.{after, texts, some_read}
use Rattle.ck_generate.proofs.generator.put_reads.Given as goal

abbrev pub invariant-loop-done : goal.invariant-loop-done
invariant-loop-done l = record {
  text : l.out.items ++ texts (some_read l.files) 2 (l.count - l._done) (0 + l._done) l.draws ≡ l.initial.out.items ++ texts (some_read l.files) 2 l.count 0 l.initial.draws;
  state : after (2 * (l.count - l._done)) l.draws ≡ after (2 * l.count) l.initial.draws;
}
