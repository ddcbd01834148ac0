use Rattle.std.proofs.Common.{rules}
use Rattle.entries.proofs.Hexes.{decoded}
use Rattle.entries.proofs.line.bytes_of.Goals as goal

pub returns : goal.returns
returns c = search (rules, decoded c.args.digits.now _ c.told-digits c.from_hex.ensures)
