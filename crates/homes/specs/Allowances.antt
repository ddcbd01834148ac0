-- What a home means under an allowance of q more writes.
use Rattle.std.specs.Prelude.{ℕ, ◌-◌, cond, length, Some, Ok, Err, Result, nat_lt}
use Rattle.interfaces.specs.declared.fault.Cause.TheVariants.{AllowanceSpent}
use Rattle.interfaces.specs.declared.fault.Fault.{Fault}
use Rattle.interfaces.specs.Faults.{arisen, raised}
use Rattle.interfaces.specs.Homes.{Meaning, WellFormed}

-- after fewer than q accepted writes a record takes what the home below takes, and after q it takes none
abbrev pub allowing : ℕ → Meaning → Meaning
allowing q below = record {
  bodies = below.bodies;
  verdict = λ h k. cond (nat_lt (length h) q) (raised (below.verdict h k)) (Some (arisen AllowanceSpent k));
}

pub allowing_sound : (q : ℕ) (below : Meaning) → WellFormed below → WellFormed (allowing q below)
allowing_sound q below w = record { few = w.few; sixteen = w.sixteen }

-- the writes that are left after a write was answered so: only an accepted one lowers them, by one
abbrev pub writes_after : Result Unit Fault → ℕ → ℕ
writes_after (Ok _) q = q - 1
writes_after (Err _) q = q
