-- What the calls of a stamp source answer and leave.
use Rattle.std.specs.Prelude.{◌≡◌, ℕ, ◌<◌, ◌≤◌, Ok, Err, Result}
use Rattle.interfaces.specs.declared.source.StampsSpent.{StampsSpent}

-- the highest stamp that there is, 2 ^ 64 - 1
abbrev pub top : ℕ
top = 18446744073709551615

-- a mark: a stamp not below the highest before, which is the highest after
abbrev pub Marked : ℕ → ℕ → ℕ → Type 0
Marked before stamp after = (before ≤ stamp) × (after ≡ stamp)

-- a next: a stamp above the highest before, which is the highest after; refused, with no change, where the
-- highest is the top already, and only there, since no highest is above the top
abbrev pub Drawn : ℕ → Result ℕ StampsSpent → ℕ → Type 0
Drawn before (Ok stamp) after = (before < stamp) × (after ≡ stamp)
Drawn before (Err _) after = (before ≡ top) × (after ≡ before)
