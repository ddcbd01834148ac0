-- A copy of one record onto another.
use Rattle.std.specs.Prelude.{ℕ, [], Option, slice_index_or}
use Rattle.std.specs.Option.{option_or}
use Rattle.interfaces.specs.declared.fault.Fault.{Fault}
use Rattle.interfaces.specs.Homes.{Meaning, read_fault, write_fault, unless, after_write}

-- the fault of the read, or else that of the write
abbrev pub copy_fault : Meaning → ℕ → ℕ → Option Fault
copy_fault m from to = option_or (read_fault m from) (write_fault m to)

abbrev pub after_copy : Meaning → ℕ → ℕ → Meaning
after_copy m from to = unless (read_fault m from) m (after_write m to (slice_index_or m.bodies from []))
