-- What is proved of runs, and what a call says of itself.
use Rattle.std.specs.Prelude.{ℕ, List, [], ◌∷◌, ◌++◌}
use Rattle.interfaces.specs.Homes.{Meaning}
use Rattle.model.specs.Worlds.{World, first_hour, home_bytes}
use Rattle.model.specs.Calls.{Turn}
use Rattle.laws.specs.Runs.{Reached}
use Rattle.laws.specs.Laws.{Laws, LogsInOrder}

-- a fact of first bytes and turns holds of every run over every home, from every highest stamp on
abbrev pub OfEveryRun : ((ℕ → List ℕ) → List Turn → Type 0) → Type 0
OfEveryRun law = (home : Meaning) (highest : ℕ) (ts : List Turn) (w : World) → Reached (first_hour home highest) ts w → law (home_bytes home) ts

-- a fact of worlds holds of every world that a run leads to
abbrev pub OfEveryWorld : (World → Type 0) → Type 0
OfEveryWorld law = (home : Meaning) (highest : ℕ) (ts : List Turn) (w : World) → Reached (first_hour home highest) ts w → law w

-- for every first hour and every list of turns that leads to the world before, the list with this turn leads to the world behind, the laws hold of
-- that longer list, and the logs of the world behind are in order
pub record GoesOn (before : World) (t : Turn) (behind : World) : Type 0 where
  pub every : (home : Meaning) (highest : ℕ) (ts : List Turn) → Reached (first_hour home highest) ts before
      → Reached (first_hour home highest) (ts ++ (t ∷ [])) behind × Laws (home_bytes home) (ts ++ (t ∷ [])) × LogsInOrder behind

-- the same of several turns, one after another
pub record GoesThrough (before : World) (more : List Turn) (behind : World) : Type 0 where
  pub every : (home : Meaning) (highest : ℕ) (ts : List Turn) → Reached (first_hour home highest) ts before
      → Reached (first_hour home highest) (ts ++ more) behind × Laws (home_bytes home) (ts ++ more) × LogsInOrder behind
