-- The places and sizes in a script.
use Rattle.std.specs.Prelude.{◌≤◌, List, ⊤}
use Rattle.std.specs.List.{AllByRecursion}
use Rattle.ck_model.specs.declared.call.Call.{Call}
use Rattle.ck_model.specs.declared.call.Call.TheVariants.{Write, Fill, Trunc, Read, Cread}
use Rattle.ck_model.specs.Limits.{file_limit}
use Rattle.ck_script.specs.declared.line.Line.{Line}

-- the place or size that the call names, if it names one, is within the limit of a file's size
abbrev pub HasPlaces : Call → Type 0
HasPlaces (Write path place bytes) = place ≤ file_limit
HasPlaces (Fill path place len byte) = place ≤ file_limit
HasPlaces (Trunc path size) = size ≤ file_limit
HasPlaces (Read path place len) = place ≤ file_limit
HasPlaces (Cread letter path place len) = place ≤ file_limit
HasPlaces _ = ⊤

-- so does the call of each line
abbrev pub HavePlaces : List Line → Type 0
HavePlaces lines = AllByRecursion (λ line. HasPlaces line.call) lines
