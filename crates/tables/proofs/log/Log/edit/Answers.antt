use Rattle.std.proofs.Common.{refl, rules, tests}
use Rattle.tables.proofs.log.Log.edit.Goals as goal

pub returns : goal.returns
returns g c = λ f computes. c.change.ensures _ (λ slot made called. search (rules, tests)) refl
