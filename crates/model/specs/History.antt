-- The history of sections: what the turns alone, each a call with its answer, say of records, sections, drafts and holds.
use Rattle.std.specs.Prelude.{ℕ, suc, cond, List, [], ◌∷◌, take, Some, None, Option}
use Rattle.model.specs.declared.body.Mark.TheVariants.{Present}
use Rattle.model.specs.declared.body.Body.{Body}
use Rattle.model.specs.Tools.{put, on_some}
use Rattle.model.specs.Worlds.{Entry, written, blank}
use Rattle.model.specs.Calls.{Call, Open, Find, Take, Lock, Put, Clear, Commit, Abort, Survey, Collect, Tick, Answer, refused, opened, found, taken, done, committed, surveyed, collected, Turn, accepted}

-- what a hold is on: the section's own draft of a record, or a record at a version
pub data Held : Type 0 where
  nothing : Held
  own_draft : (r : ℕ) → Held
  version_of : (r version : ℕ) → Held

-- an open section: the position of the turn that opened it, its drafts by record, and its holds
pub record Reader : Type 0 where
  pub opened_at : ℕ
  pub draft : ℕ → Option Body
  pub hold : ℕ → Held

-- the entries of a record: the last, and those before it, the newer first
pub record Entries : Type 0 where
  pub last : Entry
  pub older : List Entry

pub record History : Type 0 where
  -- by record
  pub entries : ℕ → Entries
  -- by user
  pub section : ℕ → Option Reader

-- the version that a find or a commit answered
abbrev pub answered_version : Answer → ℕ
answered_version (refused why) = 0
answered_version (opened s) = 0
answered_version (found state v) = v
answered_version (taken bytes) = 0
answered_version done = 0
answered_version (committed c) = c
answered_version (surveyed x) = 0
answered_version (collected x) = 0

abbrev pub draft_in : Option Reader → ℕ → Option Body
draft_in None r = None
draft_in (Some s) r = s.draft r

-- u's draft of r
abbrev pub draft : History → ℕ → ℕ → Option Body
draft h u r = draft_in (h.section u) r

abbrev pub with_reader : History → ℕ → Option Reader → History
with_reader h u s = record { entries = h.entries; section = put h.section u s }

-- a section without drafts and holds
abbrev pub opening : ℕ → Reader
opening k = record { opened_at = k; draft = λ r. None; hold = λ i. nothing }

-- a find is of the own draft if there is one, and else of the version answered
abbrev pub held_by : ℕ → ℕ → Option Body → Held
held_by r v None = version_of r v
held_by r v (Some b) = own_draft r

abbrev pub finding : ℕ → ℕ → ℕ → Reader → Reader
finding i r v s = record { opened_at = s.opened_at; draft = s.draft; hold = put s.hold i (held_by r v (s.draft r)) }

-- the first lock of a record copies its last entry
abbrev pub drafted : Body → Option Body → Option Body
drafted new None = Some new
drafted new (Some b) = Some b

abbrev pub locking : ℕ → Body → Reader → Reader
locking r new s = record { opened_at = s.opened_at; draft = put s.draft r (drafted new (s.draft r)); hold = s.hold }

-- put and clear change the draft
abbrev pub editing : ℕ → (Body → Body) → Reader → Reader
editing r f s = record { opened_at = s.opened_at; draft = put s.draft r (on_some f (s.draft r)); hold = s.hold }

-- a commit stores each draft as a new last entry of its record, under the version that it answers
abbrev pub stored : ℕ → Option Body → Entries → Entries
stored c None es = es
stored c (Some b) es = record { last = record { version = c; body = b }; older = es.last ∷ es.older }

abbrev pub change : ℕ → History → Call → Answer → History
change k h (Open u) a = with_reader h u (Some (opening k))
change k h (Find u i r) a = with_reader h u (on_some (finding i r (answered_version a)) (h.section u))
change k h (Take u i offset count) a = h
change k h (Lock u r) a = with_reader h u (on_some (locking r (h.entries r).last.body) (h.section u))
change k h (Put u r offset bytes) a = with_reader h u (on_some (editing r (written offset bytes)) (h.section u))
change k h (Clear u r) a = with_reader h u (on_some (editing r (λ b. blank)) (h.section u))
change k h (Commit u) a =
    record { entries = λ r. stored (answered_version a) (draft h u r) (h.entries r); section = put h.section u None }
change k h (Abort u) a = with_reader h u None
change k h Survey a = h
change k h (Collect u) a = h
change k h (Tick t) a = h

-- the turn at the position k; a refused turn changes nothing
abbrev pub fed : ℕ → History → Turn → History
fed k h t = cond (accepted t.answer) (change k h t.call t.answer) h

-- the turns from the position k on
abbrev pub replay : ℕ → History → List Turn → History
replay k h [] = h
replay k h (t ∷ ts) = replay (suc k) (fed k h t) ts

-- at the outset each record has one entry: version 0, the home's first bytes, present; no section is open
abbrev pub outset : (ℕ → List ℕ) → History
outset first =
    record { entries = λ r. record { last = record { version = 0; body = record { bytes = first r; mark = Present } }; older = [] }; section = λ u. None }

-- the history before the turn at the position k; `first` has each record's first bytes
abbrev pub before : (ℕ → List ℕ) → List Turn → ℕ → History
before first ts k = replay 0 (outset first) (take k ts)
