use Rattle.std.proofs.Common.{rules}
use Rattle.tables.proofs.log.Log.write.Goals as goal

pub returns : goal.returns
returns c = c.edit.ensures _ (λ body made called. search rules)
