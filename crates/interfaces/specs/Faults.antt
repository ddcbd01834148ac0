-- Causes, faults, and what a layer makes of a fault from below.
use Rattle.std.specs.Prelude.{ℕ, ◌+◌, min, Some, None, Ok, Err, Option, Result, option_map}
use Rattle.interfaces.specs.declared.fault.Cause.{Cause}
use Rattle.interfaces.specs.declared.fault.Cause.TheVariants.{Outside, AllowanceSpent, AlreadyWritten}
use Rattle.interfaces.specs.declared.fault.Fault.{Fault}

-- the number of each cause
abbrev pub cause_number : Cause → ℕ
cause_number Outside = 1
cause_number AllowanceSpent = 2
cause_number AlreadyWritten = 3

-- a fault of record k, where it arises
abbrev pub arisen : Cause → ℕ → Fault
arisen cause k = record { cause = cause; depth = 0; number = k }

-- the same fault, one layer above; a depth above 255 counts as 255
abbrev pub deeper : Fault → Fault
deeper f = record { cause = f.cause; depth = min (f.depth + 1) 255; number = f.number }

-- a fault or none, one layer above
abbrev pub raised : Option Fault → Option Fault
raised = option_map deeper

-- a call's answer: refused with the fault, if there is one
abbrev pub answer : Option Fault → Result Unit Fault
answer None = Ok tt
answer (Some f) = Err f

-- an answer, one layer above
abbrev pub passed_up : Result Unit Fault → Result Unit Fault
passed_up (Ok u) = Ok u
passed_up (Err f) = Err (deeper f)
