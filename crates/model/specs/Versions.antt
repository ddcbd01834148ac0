-- The versions of a record, and the foremost of them that may be seen.
use Rattle.std.specs.Prelude.{ℕ, ◌+◌, ◌/◌, ◌%◌, Bool, true, cond, List, map, Some, None, Option, ◌==◌, nat_le, nat_lt}
use Rattle.std.specs.List.{range_with_len}
use Rattle.order.specs.Order.{pick}
use Rattle.order.specs.Kinds.{open_section_test, candidate_test}
use Rattle.order.specs.declared.open_section.OpenSection.{OpenSection}
use Rattle.order.specs.declared.candidate.Candidate.{Candidate}
use Rattle.order.specs.declared.candidate.Place.{Place}
use Rattle.order.specs.declared.candidate.Place.TheVariants as place
use Rattle.model.specs.declared.body.Body.{Body}
use Rattle.model.specs.declared.slot.Stage.{Stage}
use Rattle.model.specs.declared.slot.Stage.TheVariants.{Draft, Live, Retired}
use Rattle.model.specs.declared.slot.Slot.{Slot}
use Rattle.model.specs.declared.slot.Master.{Master}
use Rattle.model.specs.declared.slot.Hold.{Hold}
use Rattle.model.specs.declared.slot.Hold.TheVariants.{OnMaster, OnSlot}
use Rattle.model.specs.Worlds.{Entry, Section, World, master_entry, blank}

-- the place of the slot of age i in a log whose oldest slot is at the place first: the oldest has age 0
abbrev pub place_of : ℕ → ℕ → ℕ
place_of first i = (first + i) % 8

-- Open sections.

abbrev pub opened_as : ℕ → Option Section → Option OpenSection
opened_as u None = None
opened_as u (Some s) = Some (record { stamp = s.opening; user = u })

-- the open section with the lowest opening stamp
unfoldable pub first_opened : (ℕ → Option Section) → Option OpenSection
first_opened sections = pick open_section_test (map (λ u. opened_as u (sections u)) (range_with_len 0 8))

-- Versions.

-- a version is within a limit: a stamp that it is at or below, or none
abbrev pub within : Option ℕ → ℕ → Bool
within None v = true
within (Some s) v = nat_le v s

abbrev pub if_within : Option ℕ → ℕ → Place → Option Candidate
if_within limit v p = cond (within limit v) (Some (record { version = v; place = p })) None

-- a live or retired slot is a version, a draft is none
abbrev pub stage_shows : Option ℕ → Place → Stage → Option Candidate
stage_shows limit p Draft = None
stage_shows limit p (Live v) = if_within limit v p
stage_shows limit p (Retired v t) = if_within limit v p

-- what a place of a log shows of the record r
abbrev pub slot_shows : ℕ → Option ℕ → Place → Option Slot → Option Candidate
slot_shows r limit p None = None
slot_shows r limit p (Some sl) = cond (sl.number == r) (stage_shows limit p sl.stage) None

-- cell k is of the slot of age k % 8 in the log of user k / 8, and cell 64 is of the master
abbrev pub cell : (ℕ → ℕ → Option Slot) → (ℕ → ℕ) → (ℕ → Master) → ℕ → Option ℕ → ℕ → Option Candidate
cell slots oldest masters r limit k =
    cond (nat_lt k 64) (slot_shows r limit (place.Slot (k / 8) (k % 8)) (slots (k / 8) (place_of (oldest (k / 8)) (k % 8)))) (if_within limit (masters r).version place.Master)

-- all versions of r within the limit
abbrev pub row : (ℕ → ℕ → Option Slot) → (ℕ → ℕ) → (ℕ → Master) → ℕ → Option ℕ → List (Option Candidate)
row slots oldest masters r limit = map (cell slots oldest masters r limit) (range_with_len 0 65)

-- the foremost of them
unfoldable pub foremost : (ℕ → ℕ → Option Slot) → (ℕ → ℕ) → (ℕ → Master) → ℕ → Option ℕ → Option Candidate
foremost slots oldest masters r limit = pick candidate_test (row slots oldest masters r limit)

-- a version with the hold that is on it
pub record Seen : Type 0 where
  pub hold : Hold
  pub entry : Entry

abbrev pub body_in : Option Slot → Body
body_in None = blank
body_in (Some sl) = sl.body

abbrev pub seen_at : World → ℕ → ℕ → Place → Seen
seen_at w r v place.Master = record { hold = OnMaster r; entry = master_entry w r }
seen_at w r v (place.Slot u a) =
    record { hold = OnSlot u (place_of (w.oldest u) a); entry = record { version = v; body = body_in (w.slot u (place_of (w.oldest u) a)) } }

-- the master where there is no version within the limit, which no run leads to
abbrev pub seen_as : World → ℕ → Option Candidate → Seen
seen_as w r None = record { hold = OnMaster r; entry = master_entry w r }
seen_as w r (Some x) = seen_at w r x.version x.place

-- what a section with the opening stamp s sees of r: the foremost version at or below s
abbrev pub visible : World → ℕ → ℕ → Seen
visible w s r = seen_as w r (foremost w.slot w.oldest w.master r (Some s))

-- the newest version of r
abbrev pub newest : World → ℕ → Seen
newest w r = seen_as w r (foremost w.slot w.oldest w.master r None)
