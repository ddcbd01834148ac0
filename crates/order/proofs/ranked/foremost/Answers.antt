use Rattle.std.proofs.Common.{rules}
use Rattle.std.proofs.lemmas.Iterator.{YieldsList-from_slice}
use Rattle.std.proofs.lemmas.Iterator.Consumers.{YieldsList-from_copied, YieldsList-at}
use Rattle.std.proofs.lemmas.Iterator.Adapters.{YieldsList-from_flatten, YieldsList-from_once}
use Rattle.order.proofs.Bests.{picked_from_reduce}
use Rattle.order.proofs.ranked.foremost.Goals as goal

pub returns : goal.returns
returns g c =
    let laws = g.met.T.Ranked in
    let road = YieldsList-from_copied (YieldsList-at c.copied.ensures.source (YieldsList-from_slice c.args.row.now c.iter.ensures.rest)) in
    picked_from_reduce (record { irreflexive = laws.irreflexive; transitive = laws.transitive; total = laws.total }) _ c.flatten.result (λ m x r q k. search rules) c.args.row.now _
    (YieldsList-from_flatten _ _ _ _ (λ place inner made. YieldsList-from_once place (search rules)) (YieldsList-at c.flatten.ensures.source road) c.flatten.ensures.front c.flatten.ensures.back c.flatten.ensures.done)
    c.reduce.ensures.ran
