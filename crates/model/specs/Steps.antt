-- What each call comes to: its answer, the world after it, and which stamp it draws. Refusals are tested in the order written.
use Rattle.std.specs.Prelude.{ℕ, ◌+◌, ◌<◌, ◌≤◌, Bool, true, false, cond, not, ◌||◌, List, length, Some, None, Option, ◌==◌, nat_le, nat_lt}
use Rattle.interfaces.specs.declared.fault.Fault.{Fault}
use Rattle.interfaces.specs.Homes as home
use Rattle.interfaces.specs.Stamps.{top}
use Rattle.order.specs.declared.open_section.OpenSection.{OpenSection}
use Rattle.model.specs.declared.door.Door.{Door}
use Rattle.model.specs.declared.body.Body.{Body}
use Rattle.model.specs.declared.answer.Collected.TheVariants.{Nothing, Waits, WrittenBack, Freed}
use Rattle.model.specs.declared.refusal.Refusal.{Refusal}
use Rattle.model.specs.declared.refusal.Refusal.TheVariants.{OtherDoor, AlreadyOpen, NotOpen, NotServed, NoHold, BadRange, LockedByOther, NewerVersion, LogFull, NoDraft, StampsSpent, HomeRefused}
use Rattle.model.specs.declared.slot.Stage.{Stage}
use Rattle.model.specs.declared.slot.Stage.TheVariants.{Draft, Live, Retired}
use Rattle.model.specs.declared.slot.Slot.{Slot}
use Rattle.model.specs.declared.slot.Hold.{Hold}
use Rattle.model.specs.declared.slot.Hold.TheVariants.{Unset, OnMaster, OnSlot}
use Rattle.model.specs.Tools.{put, on_some, is_some}
use Rattle.model.specs.Worlds.{Section, World, served, master_entry, part, written, blank, with_section, with_highest, with_tick, with_watermark, with_slots, with_oldest, with_home, with_master, put_slot}
use Rattle.model.specs.Calls.{Call, Open, Find, Take, Lock, Put, Clear, Commit, Abort, Survey, Collect, Tick, Answer, refused, opened, found, taken, done, committed, surveyed, collected, foreign}
use Rattle.model.specs.Versions.{place_of, first_opened, Seen, visible, newest, body_in}
use Rattle.model.specs.Drafts.{draft_age, has_draft, has_drafts, locked_by_other, free_age, version_state, draft_state, edited, undrafted, settled}

-- which stamp a call draws from the source
pub data Drawn : Type 0 where
  no_stamp : Drawn
  a_mark : Drawn
  a_next : Drawn

pub record Outcome : Type 0 where
  pub after : World
  pub answer : Answer
  pub drawn : Drawn

-- a stamp as it may be drawn, after the highest: not below it for a mark, above it for a next
abbrev pub Lawful : ℕ → ℕ → Drawn → Type 0
Lawful highest stamp no_stamp = Unit {0}
Lawful highest stamp a_mark = highest ≤ stamp
Lawful highest stamp a_next = highest < stamp

abbrev pub gives : World → Answer → Outcome
gives w a = record { after = w; answer = a; drawn = no_stamp }

-- the stamp s was drawn, and is then the highest
abbrev pub gives_by : Drawn → World → ℕ → Answer → Outcome
gives_by d w s a = record { after = with_highest w s; answer = a; drawn = d }

-- a refused call changes nothing
abbrev pub refuse : World → Refusal → Outcome
refuse w why = gives w (refused why)

-- refused for this reason if the test holds, and else as said
abbrev pub unless : World → Bool → Refusal → Outcome → Outcome
unless w true why go = refuse w why
unless w false why go = go

-- refused if the user has no open section
abbrev pub in_section : World → Option Section → (Section → Outcome) → Outcome
in_section w None go = refuse w NotOpen
in_section w (Some s) go = go s

-- refused if the record is not served
abbrev pub of_served : World → ℕ → Outcome → Outcome
of_served w r go = unless w (nat_le (served w) r) NotServed go

-- no byte is named, or one behind the sixteenth
abbrev pub bad_range : ℕ → ℕ → Bool
bad_range offset count = count == 0 || nat_lt 16 (offset + count)

-- Open: a mark s; the new section holds nothing.
abbrev pub fresh : ℕ → Section
fresh s = record { opening = s; hold = λ i. Unset }

unfoldable pub open_step : World → ℕ → ℕ → Outcome
open_step w s u = unless w (is_some (w.section u)) AlreadyOpen (gives_by a_mark (with_section w u (Some (fresh s))) s (opened s))

-- Find: the hold is now on the user's own draft of r, if there is one, and else on the version of r that the section sees.
abbrev pub holding : World → ℕ → Section → ℕ → Hold → World
holding w u s i x = with_section w u (Some (record { opening = s.opening; hold = put s.hold i x }))

abbrev pub find_version : World → ℕ → Section → ℕ → Seen → Outcome
find_version w u s i x = gives (holding w u s i x.hold) (found (version_state x.entry.body.mark) x.entry.version)

abbrev pub find_draft : World → ℕ → Section → ℕ → ℕ → Outcome
find_draft w u s i p = gives (holding w u s i (OnSlot u p)) (found (draft_state (body_in (w.slot u p)).mark) 0)

abbrev pub find_in : World → ℕ → Section → ℕ → ℕ → Option ℕ → Outcome
find_in w u s i r (Some age) = find_draft w u s i (place_of (w.oldest u) age)
find_in w u s i r None = find_version w u s i (visible w s.opening r)

unfoldable pub find_step : World → ℕ → ℕ → ℕ → Outcome
find_step w u i r =
    in_section w (w.section u) (λ s. of_served w r (unless w (nat_lt 3 i) NoHold (find_in w u s i r (draft_age (w.slot u) (w.oldest u) r))))

-- Take: the named bytes of the body that stands now where the hold is.
abbrev pub held : World → Hold → Option Body
held w Unset = None
held w (OnMaster r) = cond (nat_lt r (served w)) (Some (master_entry w r).body) None
held w (OnSlot u p) = on_some (λ sl. sl.body) (w.slot u p)

abbrev pub take_from : World → ℕ → ℕ → Option Body → Outcome
take_from w offset count None = refuse w NoHold
take_from w offset count (Some b) = unless w (bad_range offset count) BadRange (gives w (taken (part offset count b.bytes)))

unfoldable pub take_step : World → ℕ → ℕ → ℕ → ℕ → Outcome
take_step w u i offset count = in_section w (w.section u) (λ s. unless w (nat_lt 3 i) NoHold (take_from w offset count (held w (s.hold i))))

-- Lock: nothing to do with an own draft of r; else a draft that copies the newest body goes behind the newest slot of the log.
abbrev pub lock_at : World → ℕ → ℕ → Option ℕ → Outcome
lock_at w u r None = refuse w LogFull
lock_at w u r (Some age) =
    gives (with_slots w (put_slot w.slot u (place_of (w.oldest u) age) (Some (record { number = r; body = (newest w r).entry.body; stage = Draft })))) done

abbrev pub lock_new : World → ℕ → Section → ℕ → Option ℕ → Outcome
lock_new w u s r (Some age) = gives w done
lock_new w u s r None =
    unless w (locked_by_other w.slot w.oldest u r) LockedByOther
    (unless w (nat_lt s.opening (newest w r).entry.version) NewerVersion (lock_at w u r (free_age (w.slot u) (w.oldest u))))

unfoldable pub lock_step : World → ℕ → ℕ → Outcome
lock_step w u r = in_section w (w.section u) (λ s. of_served w r (lock_new w u s r (draft_age (w.slot u) (w.oldest u) r)))

-- Put and clear: the draft's body is changed.
abbrev pub edit : World → ℕ → ℕ → (Body → Body) → Outcome
edit w u r f = gives (with_slots w (λ o p. on_some (edited u r f o) (w.slot o p))) done

abbrev pub of_draft : World → ℕ → ℕ → Outcome → Outcome
of_draft w u r go = unless w (not (has_draft (w.slot u) (w.oldest u) r)) NoDraft go

unfoldable pub put_step : World → ℕ → ℕ → ℕ → List ℕ → Outcome
put_step w u r offset bytes =
    in_section w (w.section u) (λ s. of_served w r (of_draft w u r
    (unless w (bad_range offset (length bytes)) BadRange (edit w u r (written offset bytes)))))

unfoldable pub clear_step : World → ℕ → ℕ → Outcome
clear_step w u r = in_section w (w.section u) (λ s. of_served w r (of_draft w u r (edit w u r (λ b. blank))))

-- Commit: with drafts a next s is drawn. They go live at s, and the live slots of their records, in every log, retire at s. The section closes.
abbrev pub settle : World → ℕ → ℕ → ℕ → ℕ → Option Slot
settle w u s o p = on_some (settled (w.slot u) (w.oldest u) (o == u) s) (w.slot o p)

abbrev pub commit_drafts : World → ℕ → ℕ → Bool → Outcome
commit_drafts w s u false = gives (with_section w u None) (committed 0)
commit_drafts w s u true =
    unless w (nat_le top w.highest) StampsSpent (gives_by a_next (with_section (with_slots w (settle w u s)) u None) s (committed s))

abbrev pub committing : ℕ → World → ℕ → Outcome
committing u w s = in_section w (w.section u) (λ _. commit_drafts w s u (has_drafts (w.slot u) (w.oldest u)))

unfoldable pub commit_step : World → ℕ → ℕ → Outcome
commit_step w s u = committing u w s

-- Abort: the drafts leave the log, and the section closes.
abbrev pub aborting : ℕ → World → Outcome
aborting u w = in_section w (w.section u) (λ _. gives (with_section (with_slots w (λ o p. undrafted u o (w.slot o p))) u None) done)

unfoldable pub abort_step : World → ℕ → Outcome
abort_step w u = aborting u w

-- Survey: the lowest opening stamp of an open section, or the source's highest if none is open.
abbrev pub lowest_of : ℕ → Option OpenSection → ℕ
lowest_of highest None = highest
lowest_of highest (Some x) = x.stamp

abbrev pub lowest : World → ℕ
lowest w = lowest_of w.highest (first_opened w.section)

unfoldable pub survey_step : World → Outcome
survey_step w = gives (with_watermark w (lowest w)) (surveyed (lowest w))

-- Collect: the oldest slot of u's log.
abbrev pub oldest_place : World → ℕ → ℕ
oldest_place w u = place_of (w.oldest u) 0

abbrev pub freed : World → ℕ → World
freed w u = with_oldest (with_slots w (put_slot w.slot u (oldest_place w u) None)) u (place_of (w.oldest u) 1)

-- its bytes go to the home, the master takes its version and mark, and it retires at s
abbrev pub written_back : World → ℕ → Slot → ℕ → ℕ → World
written_back w u sl v s =
    with_home (with_master (with_slots w (put_slot w.slot u (oldest_place w u) (Some (record { number = sl.number; body = sl.body; stage = Retired v s }))))
    sl.number (record { version = v; mark = sl.body.mark })) (home.written w.home sl.number sl.body.bytes)

-- refused by the home, or as said
abbrev pub unless_fault : World → Option Fault → Outcome → Outcome
unless_fault w None go = go
unless_fault w (Some fault) go = refuse w (HomeRefused fault)

abbrev pub collect_live : World → ℕ → ℕ → Slot → ℕ → Outcome
collect_live w s u sl v =
    unless w (nat_le top w.highest) StampsSpent
    (unless_fault w (home.write_fault w.home sl.number) (gives_by a_next (written_back w u sl v s) s (collected WrittenBack)))

abbrev pub collect_stage : World → ℕ → ℕ → Slot → Stage → Outcome
collect_stage w s u sl Draft = gives w (collected Waits)
collect_stage w s u sl (Retired v t) = cond (nat_le t w.watermark) (gives (freed w u) (collected Freed)) (gives w (collected Waits))
collect_stage w s u sl (Live v) = cond (nat_le v w.watermark) (collect_live w s u sl v) (gives w (collected Waits))

abbrev pub collect_slot : World → ℕ → ℕ → Option Slot → Outcome
collect_slot w s u None = gives w (collected Nothing)
collect_slot w s u (Some sl) = collect_stage w s u sl sl.stage

abbrev pub collecting : ℕ → World → ℕ → Outcome
collecting u w s = collect_slot w s u (w.slot u (oldest_place w u))

unfoldable pub collect_step : World → ℕ → ℕ → Outcome
collect_step w s u = collecting u w s

-- a call of a user of the right door; s is the stamp that it draws, if it draws one
abbrev pub own_step : World → ℕ → Call → Outcome
own_step w s (Open u) = open_step w s u
own_step w s (Find u i r) = find_step w u i r
own_step w s (Take u i offset count) = take_step w u i offset count
own_step w s (Lock u r) = lock_step w u r
own_step w s (Put u r offset bytes) = put_step w u r offset bytes
own_step w s (Clear u r) = clear_step w u r
own_step w s (Commit u) = commit_step w s u
own_step w s (Abort u) = abort_step w u
own_step w s Survey = survey_step w
own_step w s (Collect u) = collect_step w s u
own_step w s (Tick t) = gives (with_tick w t) done

-- a call at a door
abbrev pub step : World → ℕ → Door → Call → Outcome
step w s d call = unless w (foreign d call) OtherDoor (own_step w s call)
