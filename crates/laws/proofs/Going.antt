-- A step goes on with every run, the laws hold of the longer run, and the logs stay in order.
use Rattle.std.proofs.Common.{◌≡◌, ℕ, List, [], ◌∷◌, ◌++◌, sym, subst, append_assoc, append-nil}
use Rattle.interfaces.specs.Homes.{Meaning}
use Rattle.model.specs.declared.door.Door.{Door}
use Rattle.model.specs.Worlds.{World, first_hour, home_bytes}
use Rattle.model.specs.Calls.{Call, Answer, Turn, turn}
use Rattle.model.specs.Steps.{Lawful, step}
use Rattle.laws.specs.Runs.{Reached, turned}
use Rattle.laws.specs.Laws.{Laws, LogsInOrder}
use Rattle.laws.specs.Theorems.{GoesOn, GoesThrough}
use Rattle.laws.proofs.Runs.{equal_finds, held_bytes}
use Rattle.laws.proofs.Writes.{no_write_lost}
use Rattle.laws.proofs.Owning.{drafts_own}
use Rattle.laws.proofs.Ordering.{logs_in_order}

pub laws_hold : {home : Meaning} {highest : ℕ} {ts : List Turn} {w : World} → Reached (first_hour home highest) ts w → Laws (home_bytes home) ts
laws_hold r =
    record {
      equal_finds = equal_finds _ _ _ _ r;
      held_bytes = held_bytes _ _ _ _ r;
      no_write_lost = no_write_lost _ _ _ _ r;
      drafts_own = drafts_own _ _ _ _ r;
    }

pub goes_on : {w x : World} {d : Door} {call : Call} {a : Answer} (s : ℕ) → Lawful w.highest s (step w s d call).drawn
    → (step w s d call).after ≡ x → (step w s d call).answer ≡ a → GoesOn w (turn d call a) x
goes_on {w} {x} {d} {call} {a} s lawful leaves answers =
    record { every = λ home highest ts r. (let r' = turned r (record { stamp = s; lawful = lawful; leaves = leaves; answers = answers }) in (r', laws_hold r', logs_in_order _ _ _ _ r')) }

-- no turn at all, and one more
pub through_none : {w : World} → GoesThrough w [] w
through_none {w} = record { every = λ home highest ts r. (let r' = subst (λ l. Reached (first_hour home highest) l w) (sym (append-nil ts)) r in (r', laws_hold r', logs_in_order _ _ _ _ r')) }

pub through_more : {w x y : World} {more : List Turn} {t : Turn} → GoesThrough w more x → GoesOn x t y → GoesThrough w (more ++ (t ∷ [])) y
through_more {w} {x} {y} {more} {t} through on =
    record {
      every = λ home highest ts r. subst (λ l. Reached (first_hour home highest) l y × Laws (home_bytes home) l × LogsInOrder y) (append_assoc ts more (t ∷ []))
          (on.every home highest (ts ++ more) (through.every home highest ts r).0);
    }
