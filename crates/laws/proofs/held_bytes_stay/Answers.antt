-- Held bytes, from the lemma over runs.
use Rattle.laws.proofs.held_bytes_stay.Goals as goal
use Rattle.laws.proofs.Runs.{held_bytes}

pub returns : goal.returns
returns c = held_bytes
