-- Writes in a row, and what becomes of three of them through an allowance of two.
use Rattle.std.specs.Prelude.{ℕ, List, [], ◌∷◌, Ok, Err, Result}
use Rattle.interfaces.specs.declared.fault.Cause.TheVariants.{AllowanceSpent}
use Rattle.interfaces.specs.declared.fault.Fault.{Fault}
use Rattle.interfaces.specs.Faults.{arisen, answer}
use Rattle.interfaces.specs.Homes.{Meaning, write_fault, after_write}

-- the home after writes to these records, each accepted or refused
abbrev pub after_writes : Meaning → List ℕ → List ℕ → Meaning
after_writes m [] body = m
after_writes m (k ∷ ks) body = after_writes (after_write m k body) ks body

-- each write is answered by the home as the writes before it have left it
abbrev pub answers_of : Meaning → List ℕ → List ℕ → List (Result Unit Fault)
answers_of m [] body = []
answers_of m (k ∷ ks) body = answer (write_fault m k) ∷ answers_of (after_write m k body) ks body

-- two are accepted, and the third, of record 1, is refused by the allowance itself
abbrev pub two_of_three : List (Result Unit Fault)
two_of_three = Ok tt ∷ Ok tt ∷ Err (arisen AllowanceSpent 1) ∷ []
