use Rattle.std.proofs.Common.{◌≡◌, ℕ, ◌<◌, ◌≤◌, eqb, get_or}
use Rattle.model.specs.Tools.{on_some}
use Rattle.model.specs.Drafts.{settled}
use Rattle.tables.specs.View.{places_of, no_log}
use Rattle.tables.proofs.logs.Logs.settle.Given as goal

-- the logs below have been settled, and the others are as they were
abbrev pub invariant-loop-other : goal.invariant-loop-other
invariant-loop-other l =
    record {
      places : (k p : ℕ) → k < l.other → places_of (get_or l.log-items k no_log) p ≡ on_some (settled (places_of l.committing) l.committing.first (eqb k l.own) l.stamp) (places_of (get_or l.initial.log-items k no_log) p);
      first : (k : ℕ) → k < l.other → (get_or l.log-items k no_log).first ≡ (get_or l.initial.log-items k no_log).first;
      after : (k : ℕ) → l.other ≤ k → get_or l.log-items k no_log ≡ get_or l.initial.log-items k no_log;
    }
