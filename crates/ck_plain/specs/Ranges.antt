-- Which numbers the plain program has room for.
use Rattle.std.specs.Prelude.{◌≤◌, ◌<◌, ◌^◌}
use Rattle.std.specs.FinMap as map
use Rattle.ck_model.specs.declared.checkpoint.Counters.{Counters}
use Rattle.ck_model.specs.Cells.{Cells}

-- no stamp is above the one at which none is left
abbrev pub HasStamps : Counters → Type 0
HasStamps next = next.stamp ≤ 2 ^ 63

-- a map whose cells can be counted in a reply
abbrev pub IsCountable : Cells → Type 0
IsCountable cells = map.len cells < 2 ^ 32
