use Rattle.std.proofs.Common.{◌≡◌, take, map as list_map}
use Rattle.std.specs.Prelude.{slice_range}
use Rattle.ck_script.proofs.words.words_in.Given as goal

abbrev pub invariant-loop-place : goal.invariant-loop-place
invariant-loop-place l = list_map (λ word. word.now) l.words.items ≡ list_map (λ place. slice_range l.line place.0 place.1) (take l.place-index l.place-items)
