-- What the calls of a home come to: where the record is below the count, and one layer above.
use Rattle.std.proofs.Common.{◌≡◌, ℕ, ◌<◌, [], length, Some, None, Ok, Option, Result, refl, arith}
use Rattle.std.proofs.lemmas.Bool.Decides.{nat_tests}
use Rattle.interfaces.specs.declared.fault.Fault.{Fault}
use Rattle.interfaces.specs.Faults.{raised, answer, passed_up}
use Rattle.interfaces.specs.Homes.{Meaning, write_fault}

pub verdict_inside : (m : Meaning) (k : ℕ) → k < length m.bodies → write_fault m k ≡ m.verdict [] k
verdict_inside m k h = grind (arith, nat_tests)

-- a record that took a write is below the count
pub accepted_inside : (m : Meaning) (k : ℕ) (r : Result Unit Fault) (u : Unit {0}) → r ≡ answer (write_fault m k) → r ≡ Ok u → k < length m.bodies
accepted_inside m k r u said ok = grind (arith, nat_tests)

-- an answer passed up is the answer of the fault raised
pub passes : (o : Option Fault) → passed_up (answer o) ≡ answer (raised o)
passes None = refl
passes (Some f) = refl
