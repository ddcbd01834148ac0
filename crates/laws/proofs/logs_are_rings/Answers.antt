-- Logs in order, from the lemma over runs.
use Rattle.laws.proofs.logs_are_rings.Goals as goal
use Rattle.laws.proofs.Ordering.{logs_in_order}

pub returns : goal.returns
returns c = logs_in_order
