-- Drafts are own, from the lemma over runs.
use Rattle.laws.proofs.drafts_are_own.Goals as goal
use Rattle.laws.proofs.Owning.{drafts_own}

pub returns : goal.returns
returns c = drafts_own
