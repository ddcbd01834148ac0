use Rattle.std.proofs.Common.{refl, rules}
use Rattle.tables.proofs.log.Log.settle.Goals as goal

pub returns : goal.returns
returns c = c.change.ensures _ (λ slot made called. search rules) refl
