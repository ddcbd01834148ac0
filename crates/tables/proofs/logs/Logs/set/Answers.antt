use Rattle.std.proofs.Common.{arith}
use Rattle.tables.proofs.Arrays.{slots_put}
use Rattle.tables.proofs.logs.Logs.set.Goals as goal

pub returns-clause-slots : goal.returns-clause-slots
returns-clause-slots c = rw (← c.from.ensures) (slots_put c.args.self.now.all c.from.result c.set.new.self (omega arith) _ _ c.set.ensures.slots)
