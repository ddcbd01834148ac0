-- Equal finds, from the lemma over runs.
use Rattle.laws.proofs.finds_are_equal.Goals as goal
use Rattle.laws.proofs.Runs.{equal_finds}

pub returns : goal.returns
returns c = equal_finds
