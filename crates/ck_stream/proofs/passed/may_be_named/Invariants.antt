use Rattle.std.proofs.Common.{◌≡◌, length}
use Rattle.std.specs.List.{list_all}
use Rattle.ck_stream.specs.Parsed.{is_name_byte}
use Rattle.ck_stream.proofs.passed.may_be_named.Given as goal

abbrev pub invariant-loop-eight : goal.invariant-loop-eight
invariant-loop-eight l = list_all is_name_byte l.rest ≡ list_all is_name_byte l.bytes

abbrev pub decreases-loop-eight : goal.decreases-loop-eight
decreases-loop-eight l = length l.rest
