use Rattle.std.proofs.Common.{List, None, Option, sym, ap, refl, ◌∙◌, arith, length-set, rules}
use Rattle.std.proofs.lemmas.List.FromFn.{fill_by_all}
use Rattle.order.specs.Order.{pick}
use Rattle.order.specs.Kinds.{open_section_test}
use Rattle.order.specs.declared.open_section.OpenSection.{OpenSection}
use Rattle.order.proofs.Picks.{open_section_picked}
use Rattle.model.specs.Versions.{opened_as, first_opened}
use Rattle.tables.specs.View.{sections_of}
use Rattle.tables.proofs.Rows.{filled_more}
use Rattle.tables.proofs.sections.Sections.first_opened.Goals as goal

pub loop-user-init : goal.loop-user-init
loop-user-init c = (refl, λ j h. absurd (let no : ⊥ = omega arith in no))

pub loop-user-preserved : goal.loop-user-preserved
loop-user-preserved c =
    let row = c.loop-user.row in
    (length-set row c.loop-user.user-counter _ ∙ c.loop-user.invariant.0, filled_more (λ u. opened_as u (sections_of c.args.self.now u)) None row c.loop-user.user-counter _ (omega (arith, c.loop-user.invariant.0)) (search rules) c.loop-user.invariant.1)

pub returns : goal.returns
unfolding first_opened
returns c =
    let whole = fill_by_all (λ u. opened_as u (sections_of c.args.self.now u)) c.loop-user.row 8 None c.loop-user.invariant.0
    (λ j h. c.loop-user.invariant.1 j (omega arith)) in
    sym (open_section_picked _ _ c.foremost.ensures) ∙ ap (λ (l : List (Option OpenSection)). pick open_section_test l) whole
