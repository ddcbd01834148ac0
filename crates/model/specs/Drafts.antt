-- Drafts in logs, and what calls make of the slots of a log. One log is a table of its places, with the place of its oldest slot.
use Rattle.std.specs.Prelude.{ℕ, Bool, true, false, cond, not, ◌&&◌, Some, None, Option, ◌==◌}
use Rattle.model.specs.declared.body.Mark.{Mark}
use Rattle.model.specs.declared.body.Mark.TheVariants as mark
use Rattle.model.specs.declared.body.Body.{Body}
use Rattle.model.specs.declared.answer.State.{State}
use Rattle.model.specs.declared.answer.State.TheVariants as state
use Rattle.model.specs.declared.slot.Stage.{Stage}
use Rattle.model.specs.declared.slot.Stage.TheVariants.{Draft, Live, Retired}
use Rattle.model.specs.declared.slot.Slot.{Slot}
use Rattle.model.specs.Tools.{is_some, least}
use Rattle.model.specs.Versions.{place_of}

abbrev pub is_draft : Stage → Bool
is_draft Draft = true
is_draft (Live v) = false
is_draft (Retired v t) = false

abbrev pub any_draft : Option Slot → Bool
any_draft None = false
any_draft (Some sl) = is_draft sl.stage

abbrev pub draft_of : ℕ → Option Slot → Bool
draft_of r None = false
draft_of r (Some sl) = is_draft sl.stage && sl.number == r

-- the age of a log's draft of r
abbrev pub draft_age : (ℕ → Option Slot) → ℕ → ℕ → Option ℕ
draft_age slots first r = least 8 (λ i. draft_of r (slots (place_of first i)))

abbrev pub has_draft : (ℕ → Option Slot) → ℕ → ℕ → Bool
has_draft slots first r = is_some (draft_age slots first r)

abbrev pub has_drafts : (ℕ → Option Slot) → ℕ → Bool
has_drafts slots first = is_some (least 8 (λ i. any_draft (slots (place_of first i))))

-- another user than u has a draft of r
abbrev pub locked_by_other : (ℕ → ℕ → Option Slot) → (ℕ → ℕ) → ℕ → ℕ → Bool
locked_by_other slots oldest u r = is_some (least 8 (λ o. not (o == u) && has_draft (slots o) (oldest o) r))

-- the first age whose place is not used: behind the newest slot, since the used places follow one another
abbrev pub free_age : (ℕ → Option Slot) → ℕ → Option ℕ
free_age slots first = least 8 (λ i. not (is_some (slots (place_of first i))))

-- what a find says of a body, and of an own draft
abbrev pub version_state : Mark → State
version_state mark.Cleared = state.Cleared
version_state mark.Present = state.Present

abbrev pub draft_state : Mark → State
draft_state mark.Cleared = state.DraftCleared
draft_state mark.Present = state.DraftPresent

-- Put and clear: u's draft of r has its body changed by f. o is the user of the slot's log.
abbrev pub edited : ℕ → ℕ → (Body → Body) → ℕ → Slot → Slot
edited u r f o sl = cond (o == u && draft_of r (Some sl)) (record { number = sl.number; body = f sl.body; stage = sl.stage }) sl

-- Abort: u's drafts leave its log.
abbrev pub undrafted : ℕ → ℕ → Option Slot → Option Slot
undrafted u o s = cond (o == u && any_draft s) None s

-- Commit at the stamp c: own drafts go live, and the live slots of the records that they carry retire.
abbrev pub settled_stage : Bool → Bool → ℕ → Stage → Stage
settled_stage own carried c Draft = cond own (Live c) Draft
settled_stage own carried c (Live v) = cond carried (Retired v c) (Live v)
settled_stage own carried c (Retired v t) = Retired v t

-- the committing log has the slots and the first place given
abbrev pub settled : (ℕ → Option Slot) → ℕ → Bool → ℕ → Slot → Slot
settled slots first own c sl =
    record { number = sl.number; body = sl.body; stage = settled_stage own (has_draft slots first sl.number) c sl.stage }
