use Rattle.std.proofs.Common.{◌≡◌, ◌≤◌, drop}
use Rattle.entries.specs.Digits.{number, number_after}
use Rattle.entries.proofs.line.number_of.Given as goal

-- the digits that are left, behind the number so far
abbrev pub invariant-loop-digit : goal.invariant-loop-digit
invariant-loop-digit l = (number_after l.number (drop l.digit-index l.digits) ≡ number l.digits) × (l.number ≤ 65535)
