-- What holds between the store and the history of sections before each turn.
use Rattle.std.proofs.Common.{◌≡◌, ℕ, ◌<◌, ◌≤◌, ◌⊎◌, Some, None, Option, refl, subst}
use mathlib.Core.Path.{subst₂}
use Rattle.model.specs.declared.door.Door.TheVariants.{Host}
use Rattle.model.specs.declared.body.Body.{Body}
use Rattle.model.specs.declared.slot.Stage.{Stage}
use Rattle.model.specs.declared.slot.Stage.TheVariants.{Draft, Live, Retired}
use Rattle.model.specs.declared.slot.Slot.{Slot}
use Rattle.model.specs.declared.slot.Master.{Master}
use Rattle.model.specs.declared.slot.Hold.{Hold}
use Rattle.model.specs.declared.slot.Hold.TheVariants.{Unset, OnMaster, OnSlot}
use Rattle.model.specs.Worlds.{Entry, Section, World, master_entry}
use Rattle.model.specs.Calls.{Call, turn}
use Rattle.model.specs.Steps.{Outcome, Lawful}
use Rattle.model.specs.History.{version_of, Reader, Entries, History, draft, fed}
use Rattle.laws.proofs.Basics.{option_case, In, HasVersion}

abbrev pub entry : ℕ → Body → Entry
entry v b = record { version = v; body = b }

-- e is an entry of the record
abbrev pub Ent : Entries → Entry → Type 0
Ent es e = (e ≡ es.last) ⊎ In e es.older

-- The entries of a record: one to a version, the last is the newest, and no version is above the highest stamp.
pub record Ledger (es : Entries) (high : ℕ) : Type 0 where
  pub unique : (e f : Entry) → Ent es e → Ent es f → e.version ≡ f.version → e ≡ f
  pub newest : (e : Entry) → Ent es e → e.version ≤ es.last.version
  pub bound : es.last.version ≤ high

-- A master is an entry, and not above the watermark.
pub record MasterOk (es : Entries) (m : Entry) (W : ℕ) : Type 0 where
  pub is_entry : Ent es m
  pub low : m.version ≤ W

-- some entry newer than v, and at most t
abbrev pub Newer : Entries → ℕ → ℕ → Type 0
Newer es v t = (e : Entry) × Ent es e × (v < e.version) × (e.version ≤ t)

-- A draft is the history's; a live slot is the last entry; a retired one is an entry that the master has reached, or that a newer one followed by the stamp t.
abbrev pub StateOk : Entries → ℕ → Option Body → Body → Stage → Type 0
StateOk es mv d b Draft = d ≡ Some b
StateOk es mv d b (Live v) = es.last ≡ entry v b
StateOk es mv d b (Retired v t) = Ent es (entry v b) × ((v ≤ mv) ⊎ Newer es v t)

-- of the slot sl of o's log, at the stage st
abbrev pub StateAt : (ℕ → Entries) → (ℕ → Master) → (ℕ → ℕ → Option Body) → ℕ → Slot → Stage → Type 0
StateAt ents ms drafts o sl st = StateOk (ents sl.number) (ms sl.number).version (drafts o sl.number) sl.body st

abbrev pub SlotOk : (ℕ → Entries) → (ℕ → Master) → (ℕ → ℕ → Option Body) → ℕ → ℕ → Slot → Type 0
SlotOk ents ms drafts o p sl = (o < 8) × (p < 8) × (sl.number < 64) × StateAt ents ms drafts o sl sl.stage

abbrev pub SlotsOk : (ℕ → Entries) → (ℕ → Master) → (ℕ → ℕ → Option Body) → (ℕ → ℕ → Option Slot) → Type 0
SlotsOk ents ms drafts slot = (o p : ℕ) (sl : Slot) → slot o p ≡ Some sl → SlotOk ents ms drafts o p sl

abbrev pub draft_slot : ℕ → Body → Slot
draft_slot r b = record { number = r; body = b; stage = Draft }

-- Each draft of the history stands in its user's log.
abbrev pub DraftsOk : (ℕ → ℕ → Option Body) → (ℕ → ℕ → Option Slot) → Type 0
DraftsOk drafts slot = (u r : ℕ) (b : Body) → drafts u r ≡ Some b → (p : ℕ) × (slot u p ≡ Some (draft_slot r b))

-- a live or retired slot has r at the version v
pub record SlotWith (slot : ℕ → ℕ → Option Slot) (r v : ℕ) : Type 0 where
  pub o : ℕ
  pub p : ℕ
  pub sl : Slot
  pub there : slot o p ≡ Some sl
  pub number : sl.number ≡ r
  pub version : HasVersion v sl.stage

-- Each entry is the master's, or in a slot, or a newer one is at most the watermark.
abbrev pub Covered : (ℕ → Entries) → (ℕ → Master) → ℕ → (ℕ → ℕ → Option Slot) → ℕ → Entry → Type 0
Covered ents ms W slot r e = ((ms r).version ≡ e.version) ⊎ (SlotWith slot r e.version ⊎ Newer (ents r) e.version W)

abbrev pub CoverOk : (ℕ → Entries) → (ℕ → Master) → ℕ → (ℕ → ℕ → Option Slot) → Type 0
CoverOk ents ms W slot = (r : ℕ) (e : Entry) → Ent (ents r) e → Covered ents ms W slot r e

-- a slot that a section opened at the stamp s holds for the version v: live, or retired after s
abbrev pub KeptState : ℕ → ℕ → Stage → Type 0
KeptState s v Draft = ⊥
KeptState s v (Live x) = x ≡ v
KeptState s v (Retired x t) = (x ≡ v) × (s < t)

pub kept_version : (s v : ℕ) (st : Stage) → KeptState s v st → HasVersion v st
kept_version s v (Retired x t) k = k.0
kept_version s v _ k = k

abbrev pub HoldOk : (ℕ → Master) → (ℕ → ℕ → Option Slot) → ℕ → ℕ → ℕ → Hold → Type 0
HoldOk ms slot s r v Unset = ⊥
HoldOk ms slot s r v (OnMaster q) = (q ≡ r) × ((ms r).version ≡ v)
HoldOk ms slot s r v (OnSlot o p) = (sl : Slot) × (slot o p ≡ Some sl) × (sl.number ≡ r) × KeptState s v sl.stage

-- what the parts of the invariant look at: the stamps, entries, masters and slots of a world and a history
pub record Base : Type 0 where
  pub high : ℕ
  pub watermark : ℕ
  pub entries : ℕ → Entries
  pub master : ℕ → Master
  pub slot : ℕ → ℕ → Option Slot

abbrev pub base : World → History → Base
base w h = record { high = w.highest; watermark = w.watermark; entries = h.entries; master = w.master; slot = w.slot }

-- seen k r is the last entry of r in the history before the turn at the position k
module _ (seen : ℕ → ℕ → Entry) where
  -- What a section of u, opened at the stamp s and the position o, has seen of each record is an entry at most s, and every newer entry is above s.
  pub record SeenOk (b : Base) (u s o : ℕ) : Type 0 where
    pub user : u < 8
    pub opening_low : s ≤ b.high
    pub watermark_low : b.watermark ≤ s
    pub seen_entry : (r : ℕ) → Ent (b.entries r) (seen o r)
    pub seen_low : (r : ℕ) → (seen o r).version ≤ s
    pub seen_last : (r : ℕ) (e : Entry) → Ent (b.entries r) e → (e.version ≤ (seen o r).version) ⊎ (s < e.version)

  -- An open section, and its holds on versions.
  pub record SectionOk (b : Base) (u : ℕ) (s : Section) (rd : Reader) : Type 0 where
    pub sees : SeenOk b u s.opening rd.opened_at
    pub open sees use *
    pub holds : (i r v : ℕ) → rd.hold i ≡ version_of r v → (v ≡ (seen rd.opened_at r).version) × HoldOk b.master b.slot s.opening r v (s.hold i)

  abbrev pub Match : Base → ℕ → Option Section → Option Reader → Type 0
  Match b u None None = Unit {0}
  Match b u None (Some rd) = ⊥
  Match b u (Some s) None = ⊥
  Match b u (Some s) (Some rd) = SectionOk b u s rd

  pub record Inv (w : World) (h : History) : Type 0 where
    pub ledgers : (r : ℕ) → Ledger (h.entries r) w.highest
    pub watermark_low : w.watermark ≤ w.highest
    pub masters : (r : ℕ) → MasterOk (h.entries r) (master_entry w r) w.watermark
    pub slots : SlotsOk h.entries w.master (draft h) w.slot
    pub drafts : DraftsOk (draft h) w.slot
    pub cover : CoverOk h.entries w.master w.watermark w.slot
    pub sections : (u : ℕ) → Match (base w h) u (w.section u) (h.section u)

  -- what is to show of an outcome, under the stamp s after the highest; `fed` looks at no door
  abbrev pub Good : ℕ → ℕ → ℕ → History → Call → Outcome → Type 0
  Good highest s k h call out = Lawful highest s out.drawn → Inv out.after (fed k h (turn Host call out.answer))

  -- a section open in the store is open in the history
  pub record Opened (w : World) (h : History) (u : ℕ) (s : Section) : Type 0 where
    pub rd : Reader
    pub is : h.section u ≡ Some rd
    pub ok : SectionOk (base w h) u s rd

  module _ {w : World} {h : History} (inv : Inv w h) where
    pub opened_here : (u : ℕ) (s : Section) → w.section u ≡ Some s → Opened w h u s
    opened_here u s e =
        option_case (λ q. Match (base w h) u (Some s) q → Opened w h u s) (h.section u) (λ _ m. absurd m) (λ rd i m. record { rd = rd; is = i; ok = m })
        (subst (λ o. Match (base w h) u o (h.section u)) e (inv.sections u))

    pub closed_here : (u : ℕ) → w.section u ≡ None → h.section u ≡ None
    closed_here u e =
        option_case (λ q. Match (base w h) u None q → q ≡ None) (h.section u) (λ _ _. refl) (λ _ _ m. absurd m)
        (subst (λ o. Match (base w h) u o (h.section u)) e (inv.sections u))

    -- of the reader that the history has open
    pub section_here : (u : ℕ) (s : Section) (rd : Reader) → w.section u ≡ Some s → h.section u ≡ Some rd → SectionOk (base w h) u s rd
    section_here u s rd e is = subst₂ (Match (base w h) u) e is (inv.sections u)

    -- each open section is carried over, and none opens or closes
    pub carry_sections : (b : Base) → ((u : ℕ) (s : Section) (rd : Reader) → w.section u ≡ Some s → SectionOk (base w h) u s rd → SectionOk b u s rd)
        → (u : ℕ) → Match b u (w.section u) (h.section u)
    carry_sections b f u = go (w.section u) (h.section u) refl (inv.sections u)
      where
        go : (o : Option Section) (q : Option Reader) → w.section u ≡ o → Match (base w h) u o q → Match b u o q
        go None None e m = tt
        go None (Some rd) e m = absurd m
        go (Some s) None e m = absurd m
        go (Some s) (Some rd) e m = f u s rd e m
