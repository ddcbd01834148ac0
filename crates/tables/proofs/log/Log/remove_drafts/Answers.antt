use Rattle.std.proofs.Common.{◌≡◌, ℕ, ◌+◌, true, false, cond, get_or, Option, None, sym, refl, ap, ◌∙◌, subst, arith, rules, tests}
use Rattle.std.proofs.lemmas.List.{get_or_past}
use Rattle.model.specs.declared.slot.Slot.{Slot}
use Rattle.model.specs.Drafts.{any_draft}
use Rattle.tables.specs.View.{without_draft}
use Rattle.tables.proofs.Rows.{Halfway, halfway_none, halfway_set, halfway_all}
use Rattle.tables.proofs.log.Log.remove_drafts.Goals.{then-is_some_and, else-is_some_and}
use Rattle.tables.proofs.log.Log.remove_drafts.Goals as goal

-- a slot that is a draft is removed, and one that is none stays
removed_draft : (now before : Option Slot) → now ≡ before → any_draft now ≡ true → None ≡ without_draft before
removed_draft now before was draft = sym (ap (λ b. cond b None before) (sym (ap any_draft was) ∙ draft))

kept_slot : (now before : Option Slot) → now ≡ before → any_draft now ≡ false → now ≡ without_draft before
kept_slot now before was none = was ∙ sym (ap (λ b. cond b None before) (sym (ap any_draft was) ∙ none))

pub loop-slot-init : goal.loop-slot-init
loop-slot-init c = halfway_none None _ c.args.self.now.slots

pub loop-slot-preserved : goal.loop-slot-preserved
loop-slot-preserved c =
    let half = c.loop-slot.invariant in
    let before = c.args.self.now.slots in
    let slots = c.loop-slot.slot-items in
    let n = c.loop-slot.slot-index in
    let was : get_or slots n None ≡ get_or before n None = half.above n (omega arith) in
    let tested : c.is_some_and.result ≡ any_draft (get_or slots n None) = search (rules, tests) in
    let done = λ (j : ℕ) (y : Option Slot). y ≡ without_draft (get_or before j None) in
    elim c.if-is_some_and.branch [
      | then-is_some_and w ↦ subst (λ l. Halfway None done before l (n + 1)) (sym w.slot-items-is) (halfway_set None done before slots n half _ (omega arith) (removed_draft _ _ was (sym tested ∙ w.if-is_some_and.true)))
      | else-is_some_and w ↦ subst (λ l. Halfway None done before l (n + 1)) (sym w.slot-items-is) (halfway_set None done before slots n half _ (omega arith) (kept_slot _ _ was (sym tested ∙ w.if-is_some_and.false)))
    ]

pub returns : goal.returns
returns c = record {
  slots = halfway_all None _ c.args.self.now.slots c.loop-slot.slot-items c.loop-slot.slot-index c.loop-slot.invariant (omega arith)
      (λ j past. ap without_draft (sym (get_or_past c.args.self.now.slots j None past)));
  first = refl;
}
