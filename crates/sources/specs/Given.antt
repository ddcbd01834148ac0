-- The very stamps that the sources give.
use Rattle.std.specs.Prelude.{ℕ, ◌+◌, ◌≤◌, min, max, cond, Ok, Err, Result, ◌==◌}
use Rattle.std.proofs.Common.{arith}
use Rattle.interfaces.specs.declared.source.StampsSpent.{StampsSpent}
use Rattle.interfaces.specs.Stamps.{top}

-- a stamp that a source keeps: at most the top
abbrev pub stamp_of : ℕ → ℕ
stamp_of kept = min kept top

pub stamp_bounded : (kept : ℕ) → stamp_of kept ≤ top
stamp_bounded kept = omega arith

-- the latest tick that a clock knows; a later one counts as it
abbrev pub last_tick : ℕ
last_tick = 281474976710655

abbrev pub tick_of : ℕ → ℕ
tick_of tick = min tick last_tick

-- the stamp, unless none is above the highest
abbrev pub unless_spent : ℕ → ℕ → Result ℕ StampsSpent
unless_spent highest stamp = cond (highest == top) (Err (record {})) (Ok stamp)

-- what a counter's next answers
abbrev pub counted : ℕ → Result ℕ StampsSpent
counted highest = unless_spent highest (highest + 1)

-- what a clock's mark answers
abbrev pub clock_mark : ℕ → ℕ → ℕ
clock_mark highest tick = max (tick_of tick) highest

-- what a clock's next answers
abbrev pub clock_next : ℕ → ℕ → Result ℕ StampsSpent
clock_next highest tick = unless_spent highest (max (highest + 1) (tick_of tick))
