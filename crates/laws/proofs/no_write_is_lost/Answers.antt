-- No write is lost, from the lemma over runs.
use Rattle.laws.proofs.no_write_is_lost.Goals as goal
use Rattle.laws.proofs.Writes.{no_write_lost}

pub returns : goal.returns
returns c = no_write_lost
