use Rattle.std.proofs.Common.{not, ◌&&◌, eqb, ◌∙◌, rules, tests}
use Rattle.std.proofs.lemmas.Iterator.{YieldsList-from_slice}
use Rattle.std.proofs.lemmas.Iterator.Consumers.{YieldsList-from_enumerate}
use Rattle.std.proofs.lemmas.Iterator.Search.{any_from_yields_List}
use Rattle.model.specs.Drafts.{has_draft}
use Rattle.tables.specs.View.{places_of, no_log}
use Rattle.tables.proofs.Leasts.{any_least}
use Rattle.tables.proofs.logs.Logs.locked_by_other.Goals as goal

pub returns : goal.returns
returns c =
    any_from_yields_List (λ x. not (eqb x.0 c.args.user.number) && has_draft (places_of x.1) x.1.first c.args.number) _ _ c.any.result c.any.ensures.ran (YieldsList-from_enumerate (YieldsList-from_slice c.args.self.now.all cc) (cc)) (λ x b q k. search (rules, tests))
    ∙ any_least _ c.args.self.now.all no_log 8 (search rules)
