use Rattle.loading.proofs.Turns.{shows_first}
use Rattle.loading.proofs.session.Session.new.Goals as goal

pub returns-clause-table : goal.returns-clause-table
returns-clause-table g c = shows_first _ _ c.none_loaded.ensures
