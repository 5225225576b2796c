use Rattle.std.proofs.Common.{◌≡◌, ◌++◌, ◌+◌, ◌-◌}
use Rattle.ck_generate.specs.Generator.{texts, round_text, round_draws}
use Rattle.ck_generate.proofs.generator.put_rounds.Given as goal

abbrev pub invariant-loop-done : goal.invariant-loop-done
invariant-loop-done l =
    l.out.items ++ texts (round_text l.files) (round_draws l.files) (l.rounds - l.done) (1 + l.done) l.draws ≡ l.initial.out.items ++ texts (round_text l.files) (round_draws l.files) l.rounds 1 l.initial.draws
