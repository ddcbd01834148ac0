-- Causes and faults in words.
use Rattle.std.specs.Prelude.{ℕ, List, ◌++◌, codes, decimal}
use Rattle.interfaces.specs.declared.fault.Cause.{Cause}
use Rattle.interfaces.specs.declared.fault.Cause.TheVariants.{Outside, AllowanceSpent, AlreadyWritten}
use Rattle.interfaces.specs.declared.fault.Fault.{Fault}

abbrev pub cause_words : Cause → List ℕ
cause_words Outside = codes "outside"
cause_words AllowanceSpent = codes "allowance spent"
cause_words AlreadyWritten = codes "already written"

abbrev pub fault_words : Fault → List ℕ
fault_words f = cause_words f.cause ++ (codes ", at depth " ++ (decimal f.depth ++ (codes ", record " ++ decimal f.number)))
