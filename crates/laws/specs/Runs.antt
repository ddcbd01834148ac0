-- Runs: turns, one after another, from the first hour on.
use Rattle.std.specs.Prelude.{◌≡◌, ℕ, List, [], ◌∷◌, ◌++◌}
use Rattle.model.specs.Worlds.{World}
use Rattle.model.specs.Calls.{Turn}
use Rattle.model.specs.Steps.{Lawful, step}

-- one turn takes the world before to the world behind: by the step, with the step's answer, and under a stamp that the source may give
pub record Turned (before : World) (t : Turn) (behind : World) : Type 0 where
  pub stamp : ℕ
  pub lawful : Lawful before.highest stamp (step before stamp t.door t.call).drawn
  pub leaves : (step before stamp t.door t.call).after ≡ behind
  pub answers : (step before stamp t.door t.call).answer ≡ t.answer

-- the turns lead from the first world to the last
pub data Reached (first : World) : List Turn → World → Type 0 where
  begun : Reached first [] first
  turned : {turns : List Turn} {before : World} {t : Turn} {behind : World} → Reached first turns before → Turned before t behind → Reached first (turns ++ (t ∷ [])) behind
