use Rattle.std.proofs.Common.{◌≡◌, ◌++◌, ◌<◌, ◌≤◌, ◌-◌, length, map, drop}
use Rattle.std.specs.Prelude.{slice_range}
use Rattle.std.specs.List.{All, AllByRecursion, AllPairs}
use Rattle.ck_text.specs.Words.{words_of}
use Rattle.ck_text.proofs.blanks.words.Given as goal

abbrev pub invariant-loop-at : goal.invariant-loop-at
invariant-loop-at l = record {
  found : map (λ word. slice_range l.line word.0 word.1) l.words.items ++ words_of (drop l.at l.line) ≡ words_of l.line;
  within : AllByRecursion (λ word. (word.0 < word.1) × (word.1 ≤ length l.line)) l.words.items;
  before : All (λ word. word.1 < l.at) l.words.items;
  apart : AllPairs (λ earlier later. earlier.1 < later.0) l.words.items;
}

abbrev pub decreases-loop-at : goal.decreases-loop-at
decreases-loop-at l = length l.initial.line - l.at
