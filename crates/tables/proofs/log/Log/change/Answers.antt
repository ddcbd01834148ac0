use Rattle.std.proofs.Common.{◌≡◌, get_or, None, sym, refl, ap, ◌∙◌, subst, arith}
use Rattle.std.proofs.lemmas.List.{get_or_past}
use Rattle.tables.proofs.Rows.{halfway_none, halfway_set, halfway_all}
use Rattle.tables.proofs.log.Log.change.Goals as goal

pub loop-slot-init : goal.loop-slot-init
loop-slot-init g c = halfway_none None _ c.args.self.now.slots

pub loop-slot-preserved : goal.loop-slot-preserved
loop-slot-preserved g c =
    let half = c.loop-slot.invariant in
    halfway_set None _ c.args.self.now.slots c.loop-slot.slot-items c.loop-slot.slot-index half _ (omega arith)
    (subst (λ x. g.F.Fn.post c.args.change (x, tt) c.change.result) (half.above c.loop-slot.slot-index (omega arith)) c.change.ensures)

pub returns : goal.returns
returns g c = λ f computes none.
    let half = c.loop-slot.invariant in
    let slots = c.args.self.now.slots in
    record {
      slots = halfway_all None (λ j y. y ≡ f (get_or slots j None)) slots c.loop-slot.slot-items c.loop-slot.slot-index
          (record { long = half.long; below = λ j h. computes _ _ (half.below j h); above = half.above }) (omega arith)
          (λ j past. sym none ∙ ap f (sym (get_or_past slots j None past)));
      first = refl;
    }
