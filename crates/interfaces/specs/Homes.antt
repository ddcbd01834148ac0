-- What a home means to its user, and what its calls answer and leave.
use Rattle.std.specs.Prelude.{◌≡◌, ℕ, ◌<◌, ◌≤◌, cond, List, [], ◌∷◌, length, Some, None, Option, nat_lt, slice_index_or, slice_set}
use Rattle.interfaces.specs.declared.fault.Cause.TheVariants.{Outside}
use Rattle.interfaces.specs.declared.fault.Fault.{Fault}
use Rattle.interfaces.specs.Faults.{arisen}

pub record Meaning : Type 0 where
  -- the bytes of each record; there are as many as the home counts
  pub bodies : List (List ℕ)
  -- `verdict h k`: the fault that record k gives to a write, once the records of h, first to last, have had
  -- their writes accepted; None where it takes the write
  pub verdict : List ℕ → ℕ → Option Fault

-- what holds of every home's meaning
pub record WellFormed (m : Meaning) : Type 0 where
  pub few : length m.bodies ≤ 65535
  pub sixteen : (k : ℕ) → k < length m.bodies → length (slice_index_or m.bodies k []) ≡ 16

abbrev pub outside : ℕ → Fault
outside k = arisen Outside k

-- why a read of record k is refused
abbrev pub read_fault : Meaning → ℕ → Option Fault
read_fault m k = cond (nat_lt k (length m.bodies)) None (Some (outside k))

-- what a lent place holds after a read of record k was asked for
abbrev pub place_after : Meaning → ℕ → List ℕ → List ℕ
place_after m k place = cond (nat_lt k (length m.bodies)) (slice_index_or m.bodies k []) place

-- why a write of record k is refused
abbrev pub write_fault : Meaning → ℕ → Option Fault
write_fault m k = cond (nat_lt k (length m.bodies)) (m.verdict [] k) (Some (outside k))

-- the home after an accepted write
abbrev pub written : Meaning → ℕ → List ℕ → Meaning
written m k body = record { bodies = slice_set m.bodies k body; verdict = λ h. m.verdict (k ∷ h) }

-- what was, where there is a fault, and else what comes
abbrev pub unless : Option Fault → Meaning → Meaning → Meaning
unless None was comes = comes
unless (Some _) was comes = was

-- the home after a write was asked for, accepted or refused
abbrev pub after_write : Meaning → ℕ → List ℕ → Meaning
after_write m k body = unless (write_fault m k) m (written m k body)
