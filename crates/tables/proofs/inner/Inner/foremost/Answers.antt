use Rattle.std.proofs.Common.{[], ◌∷◌, ◌++◌, None, Option, sym, ap, ◌∙◌, rules}
use Rattle.std.specs.List.{range_with_len, flat_map}
use Rattle.order.specs.Order.{pick}
use Rattle.order.specs.Kinds.{candidate_test}
use Rattle.order.specs.declared.candidate.Candidate.{Candidate}
use Rattle.order.specs.declared.candidate.Place.TheVariants.{Master}
use Rattle.order.proofs.Picks.{candidate_picked, candidates}
use Rattle.model.specs.declared.slot.Master.{Master as MasterRow}
use Rattle.model.specs.Versions.{if_within, foremost}
use Rattle.tables.specs.View.{slots_of, oldest_of}
use Rattle.tables.specs.Inners.{slots_show}
use Rattle.tables.proofs.FromFn.{of_values}
use Rattle.tables.proofs.Picks.{pick_parts}
use Rattle.tables.proofs.inner.Inner.foremost.Goals as goal

pub returns : goal.returns
unfolding foremost
returns c =
    let users = range_with_len 0 8 in
    let rows = slots_show (slots_of c.args.self.now.logs) (oldest_of c.args.self.now.logs) c.args.number c.args.limit in
    let logs = of_values _ (λ u. pick candidate_test (rows u)) _ 8 (λ i a f lt called. search rules) (pick candidate_test) _ _ None c.from_fn-logs.ensures.items
    (candidate_picked _ _ c.foremost.ensures) in
    let master = c.if_within-master.ensures ∙ ap (λ (m : MasterRow). if_within c.args.limit m.version Master) c.get.ensures in
    sym (candidate_picked _ _ c.foremost-2.ensures)
    ∙ ap (λ (o : Option Candidate). pick candidate_test (o ∷ c.if_within-master.result ∷ [])) logs
    ∙ pick_parts candidates rows users c.if_within-master.result
    ∙ ap (λ (o : Option Candidate). pick candidate_test (flat_map rows users ++ o ∷ [])) master
