-- The tables as the model has them.
use Rattle.std.specs.Prelude.{◌≡◌, ℕ, ◌+◌, true, cond, List, [], length, get_or, Some, None, Ok, Err, Option, Result, nat_le, slice_index_or}
use Rattle.model.specs.declared.refusal.Refusal.{Refusal}
use Rattle.model.specs.declared.refusal.Refusal.TheVariants.{NotOpen, AlreadyOpen}
use Rattle.model.specs.declared.slot.Slot.{Slot}
use Rattle.model.specs.declared.slot.Hold.{Hold}
use Rattle.model.specs.declared.slot.Hold.TheVariants.{Unset}
use Rattle.model.specs.declared.slot.Master.{Master}
use Rattle.model.specs.Tools.{put, on_some, is_some}
use Rattle.model.specs.declared.body.Body.{Body}
use Rattle.model.specs.Drafts.{any_draft, draft_of}
use Rattle.model.specs.Worlds as w
use Rattle.model.specs.Worlds.{first_master}
use Rattle.tables.specs.declared.section.Section.{Section}
use Rattle.tables.specs.declared.sections.Sections.{Sections}
use Rattle.tables.specs.declared.log.Log.{Log}
use Rattle.tables.specs.declared.logs.Logs.{Logs}
use Rattle.tables.specs.declared.masters.Masters.{Masters}

-- Sections: those that are open, and those of all users.

abbrev pub holds_of : Section → ℕ → Hold
holds_of s i = slice_index_or s.holds i Unset

abbrev pub section_of : Section → w.Section
section_of s = record { opening = s.opening; hold = holds_of s }

abbrev pub with_hold : ℕ → Hold → w.Section → w.Section
with_hold i on s = record { opening = s.opening; hold = put s.hold i on }

abbrev pub sections_of : Sections → ℕ → Option w.Section
sections_of t u = on_some section_of (slice_index_or t.all u None)

-- what the holds are on, if the section is open
abbrev pub holds_if : Option Section → ℕ → Hold
holds_if None i = Unset
holds_if (Some s) i = holds_of s i

abbrev pub holds_at : Sections → ℕ → ℕ → Hold
holds_at t u = holds_if (slice_index_or t.all u None)

-- the opening stamp of u's section, or refused
abbrev pub Opened : Sections → ℕ → Result ℕ Refusal → Type 0
Opened t u (Ok stamp) = sections_of t u ≡ Some (record { opening = stamp; hold = holds_at t u })
Opened t u (Err why) = (sections_of t u ≡ None) × (why ≡ NotOpen)

abbrev pub Closed : Sections → ℕ → Result Unit Refusal → Type 0
Closed t u (Ok _) = sections_of t u ≡ None
Closed t u (Err why) = (is_some (sections_of t u) ≡ true) × (why ≡ AlreadyOpen)

-- Logs: one log's places, and those of all.

abbrev pub places_of : Log → ℕ → Option Slot
places_of l p = slice_index_or l.slots p None

abbrev pub no_log : Log
no_log = record { slots = []; first = 0 }

abbrev pub slots_of : Logs → ℕ → ℕ → Option Slot
slots_of t u = places_of (slice_index_or t.all u no_log)

abbrev pub oldest_of : Logs → ℕ → ℕ
oldest_of t u = (get_or t.all u no_log).first

-- a draft of r has its body changed by f
abbrev pub edited_slot : ℕ → (Body → Body) → Slot → Slot
edited_slot r f sl = cond (draft_of r (Some sl)) (record { number = sl.number; body = f sl.body; stage = sl.stage }) sl

-- a draft is removed
abbrev pub without_draft : Option Slot → Option Slot
without_draft s = cond (any_draft s) None s

-- each slot of a log was changed by f, and its oldest slot stands where it stood
pub record EachSlot (f : Option Slot → Option Slot) (old new : Log) : Type 0 where
  pub slots : (p : ℕ) → places_of new p ≡ f (places_of old p)
  pub first : new.first ≡ old.first

-- the same of all logs, where f is told whose log it is
pub record EachSlotOf (f : ℕ → Option Slot → Option Slot) (old new : Logs) : Type 0 where
  pub slots : (o p : ℕ) → slots_of new o p ≡ f o (slots_of old o p)
  pub oldest : oldest_of new ≡ oldest_of old

-- new bytes where they fit into the sixteen
abbrev pub written_within : ℕ → List ℕ → Body → Body
written_within offset new b = cond (nat_le (offset + length new) 16) (w.written offset new b) b

-- Masters.

abbrev pub masters_of : Masters → ℕ → Master
masters_of t r = slice_index_or t.all r first_master
