use Rattle.std.proofs.Common.{None, arith}
use Rattle.tables.proofs.Arrays.{slots_put}
use Rattle.tables.proofs.logs.Logs.free_oldest.Goals as goal

pub returns-clause-slots : goal.returns-clause-slots
returns-clause-slots c = rw (← c.from.ensures) (slots_put c.args.self.now.all c.from.result c.free_oldest.new.self (omega arith) _ None c.free_oldest.ensures.slots)
