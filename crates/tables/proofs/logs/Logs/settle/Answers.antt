use Rattle.std.proofs.Common.{ℕ, arith}
use Rattle.std.proofs.lemmas.Grind.{common_steps}
use mathlib.Core.Path.{fun_ext}
use Rattle.tables.proofs.logs.Logs.settle.Goals as goal

pub returns : goal.returns
returns c = record {
  slots = λ o p. grind (arith, common_steps);
  oldest = fun_ext (λ (o : ℕ). grind (arith, common_steps));
}
