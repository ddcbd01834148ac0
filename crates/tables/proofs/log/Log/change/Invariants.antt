use Rattle.std.proofs.Common.{get_or, None}
use Rattle.tables.proofs.Rows.{Halfway}
use Rattle.tables.proofs.log.Log.change.Given as goal

-- each slot below the index was changed, and the others are as they were
abbrev pub invariant-loop-slot : goal.invariant-loop-slot
invariant-loop-slot g l = Halfway None (λ j y. g.F.Fn.post l.change (get_or l.initial.slot-items j None, tt) y) l.initial.slot-items l.slot-items l.slot-index
