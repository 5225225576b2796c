use Rattle.std.proofs.Common.{◌≡◌, ◌++◌, map as list_map, drop}
use Rattle.std.specs.Option.{option_map}
use Rattle.ck_script.specs.Grammar.{turns_of as turns_in}
use Rattle.ck_script.proofs.form.turns_of.Given as goal

abbrev pub invariant-loop-word : goal.invariant-loop-word
invariant-loop-word l =
    option_map (λ rest. l.turns.items ++ rest) (turns_in (list_map (λ word. word.now) (drop l.word-index l.words))) ≡ turns_in (list_map (λ word. word.now) l.words)
