use Rattle.std.proofs.Common.{◌≡◌, get_or, None}
use Rattle.tables.specs.View.{without_draft}
use Rattle.tables.proofs.Rows.{Halfway}
use Rattle.tables.proofs.log.Log.remove_drafts.Given as goal

-- no slot below the index is a draft any more, and the others are as they were
abbrev pub invariant-loop-slot : goal.invariant-loop-slot
invariant-loop-slot l = Halfway None (λ j y. y ≡ without_draft (get_or l.initial.slot-items j None)) l.initial.slot-items l.slot-items l.slot-index
