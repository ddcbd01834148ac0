use Rattle.std.proofs.Common.{◌≡◌, ◌*◌, ◌++◌, length, take, drop}
use Rattle.entries.specs.Digits.{spelled}
use Rattle.entries.proofs.spell_body.Given as goal

-- the digits so far, and those of the bytes that are left
abbrev pub invariant-loop-k : goal.invariant-loop-k
invariant-loop-k l = (take (2 * l.k) l.text ++ spelled (drop l.k l.body) ≡ spelled l.body) × (length l.text ≡ 32)
