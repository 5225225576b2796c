use Rattle.std.proofs.Common.{◌≡◌, drop, false}
use Rattle.ck_disk.specs.MemRecord.{is_written}
use Rattle.ck_disk.proofs.mem_disk.was_written.Given as goal

abbrev pub invariant-loop-step : goal.invariant-loop-step
invariant-loop-step l = is_written (drop l.step-index l.steps) l.at l.written ≡ is_written l.steps l.at false
