use Rattle.std.proofs.Common.{ℕ, None, rules}
use Rattle.order.specs.Order.{pick}
use Rattle.order.specs.Kinds.{candidate_test}
use Rattle.order.specs.declared.candidate.Place.TheVariants.{Slot}
use Rattle.order.proofs.Picks.{candidate_picked}
use Rattle.model.specs.Versions.{place_of, slot_shows}
use Rattle.tables.specs.View.{slots_of, oldest_of}
use Rattle.tables.proofs.FromFn.{of_values}
use Rattle.tables.proofs.inner.Inner.foremost_in.Goals as goal

pub returns : goal.returns
returns c =
    let t = c.args.self.now.logs in
    let u = c.args.user in
    let shows = λ (age : ℕ). slot_shows c.args.asked.number c.args.asked.limit (Slot u age) (slots_of t u (place_of (oldest_of t u) age)) in
    of_values _ shows _ 8 (λ i a f lt called. search rules) (pick candidate_test) _ _ None c.from_fn-ages.ensures.items (candidate_picked _ _ c.foremost.ensures)
