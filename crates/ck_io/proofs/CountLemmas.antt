-- Counts of faults over several calls.
use Rattle.std.proofs.Common.{◌≤◌, ℕ, arith}
use Rattle.ck_io.specs.Faults.{Rose}

-- a rise in a later call
pub rose_later : (first mid last : ℕ) → first ≤ mid → Rose mid last → Rose first last
rose_later first mid last le rose = omega arith
