-- What a home means under a seal: each record counts as written already.
use Rattle.std.specs.Prelude.{Some}
use Rattle.interfaces.specs.declared.fault.Cause.TheVariants.{AlreadyWritten}
use Rattle.interfaces.specs.Faults.{arisen}
use Rattle.interfaces.specs.Homes.{Meaning, WellFormed}

abbrev pub sealed : Meaning → Meaning
sealed below = record { bodies = below.bodies; verdict = λ _ k. Some (arisen AlreadyWritten k) }

pub sealed_sound : (below : Meaning) → WellFormed below → WellFormed (sealed below)
sealed_sound below w = record { few = w.few; sixteen = w.sixteen }
