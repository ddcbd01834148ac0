use Rattle.std.proofs.Common.{ℕ, ◌∙◌}
use mathlib.Core.Path.{fun_ext}
use Rattle.tables.specs.View.{places_of, no_log}
use Rattle.tables.proofs.Arrays.{replicated_alike}
use Rattle.tables.proofs.logs.Logs.new.Goals as goal

pub returns-clause-slots : goal.returns-clause-slots
returns-clause-slots c =
    fun_ext (λ u. replicated_alike {B = ℕ → _} places_of 8 u c.new.result no_log c.new.ensures.slots ∙ c.new.ensures.slots)
