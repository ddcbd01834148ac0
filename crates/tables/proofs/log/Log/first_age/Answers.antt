use Rattle.std.proofs.Common.{sym, refl, ◌∙◌, rules}
use Rattle.std.proofs.lemmas.Iterator.{YieldsList-from_range}
use Rattle.std.proofs.lemmas.Iterator.Adapters.{option_map_id}
use Rattle.std.proofs.lemmas.Iterator.Search.{find_from_yields_List}
use Rattle.tables.proofs.Leasts.{find_least}
use Rattle.tables.proofs.log.Log.first_age.Goals as goal

pub returns : goal.returns
returns g c =
    λ t computes.
    sym (option_map_id _) ∙ find_from_yields_List t _ _ c.find.result c.find.ensures.ran (YieldsList-from_range 0 8 8 refl refl) (λ age b q k. (search rules, computes age b (search rules)))
    ∙ find_least t 8
