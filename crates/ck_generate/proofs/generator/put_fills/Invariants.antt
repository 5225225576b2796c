use Rattle.std.proofs.Common.{◌≡◌, ◌++◌, ◌+◌, ◌-◌, ◌*◌}
use Rattle.ck_generate.specs.Generator.{after, texts, some_fill}
use Rattle.ck_generate.proofs.generator.put_fills.Given as goal

abbrev pub invariant-loop-done : goal.invariant-loop-done
invariant-loop-done l = record {
  text : l.out.items ++ texts (some_fill l.files) 4 (l.count - l._done) (0 + l._done) l.draws ≡ l.initial.out.items ++ texts (some_fill l.files) 4 l.count 0 l.initial.draws;
  state : after (4 * (l.count - l._done)) l.draws ≡ after (4 * l.count) l.initial.draws;
}
