-- Counts of faults, and what a fault carries.
use Rattle.std.specs.Prelude.{◌+◌, ◌-◌, ◌^◌, ◌≤◌, ℕ, min, List, ⊤}
use Rattle.ck_io.specs.declared.fault.InputFault.{InputFault}
use Rattle.ck_io.specs.declared.fault.InputFault.TheVariants.{ReadFault, TooLong, NoMemory}

-- a count of 64 bits raised by one; at its end it stays
abbrev pub raised : ℕ → ℕ
raised count = min (count + 1) (2 ^ 64 - 1)

-- a count that doesn't fall rose, or stands at its end before and after
abbrev pub Rose : ℕ → ℕ → Type 0
Rose before now = raised before ≤ now

-- P of the bytes that a fault carries, if they were too many
abbrev pub IfTooLong : InputFault → (List ℕ → Type 0) → Type 0
IfTooLong ReadFault P = ⊤
IfTooLong (TooLong bytes) P = P bytes.items
IfTooLong NoMemory P = ⊤
