-- How the parts of the invariant are carried over a turn.
use Rattle.std.proofs.Common.{◌≡◌, ℕ, ◌<◌, ◌≤◌, true, cond, ◌⊎◌, Some, None, Option, sym, refl, ◌∙◌, subst, inl, inr, ⊎_elim, arith}
use mathlib.Core.Path.{fun_ext}
use Rattle.model.specs.declared.body.Body.{Body}
use Rattle.model.specs.declared.slot.Stage.{Stage}
use Rattle.model.specs.declared.slot.Stage.TheVariants.{Draft}
use Rattle.model.specs.declared.slot.Slot.{Slot}
use Rattle.model.specs.declared.slot.Master.{Master}
use Rattle.model.specs.declared.slot.Hold.{Hold}
use Rattle.model.specs.declared.slot.Hold.TheVariants.{OnSlot}
use Rattle.model.specs.Tools.{put, on_some}
use Rattle.model.specs.Worlds.{Entry, Section, World, world, with_slots, put_slot}
use Rattle.model.specs.Drafts.{is_draft}
use Rattle.model.specs.History.{Reader, Entries, History, draft_in, draft, with_reader, stored}
use Rattle.laws.proofs.Basics.{eq_case, put_case, HasVersion}
use Rattle.laws.proofs.Invariant.{Ent, Ledger, StateAt, SlotsOk, DraftsOk, SlotWith, CoverOk, KeptState, HoldOk, Base, base, SectionOk, Match, Inv, carry_sections}

-- the drafts are the same if the one section that changed keeps its own
pub same_drafts : (h : History) (u : ℕ) (q : Option Reader) → ((r : ℕ) → draft_in q r ≡ draft_in (h.section u) r) → draft (with_reader h u q) ≡ draft h
same_drafts h u q f =
    fun_ext (λ o. fun_ext (λ r. put_case (λ x. draft_in x r ≡ draft_in (h.section o) r) h.section u q o
    (λ e. subst (λ y. draft_in q r ≡ draft_in (h.section y) r) (sym e) (f r)) (λ _. refl)))

pub raise : {es : Entries} {high : ℕ} (high' : ℕ) → Ledger es high → high ≤ high' → Ledger es high'
raise high' l le = record { unique = l.unique; newest = l.newest; bound = omega arith }

-- each slot at a stage of which P holds is again in its place, of its record and at such a stage
abbrev pub Carried : (Stage → Type 0) → (ℕ → ℕ → Option Slot) → (ℕ → ℕ → Option Slot) → Type 0
Carried P slot slot' =
    (o p : ℕ) (sl : Slot) → slot o p ≡ Some sl → P sl.stage → (x : Slot) × (slot' o p ≡ Some x) × (x.number ≡ sl.number) × P x.stage

pub carry_hold : (ms : ℕ → Master) (slot slot' : ℕ → ℕ → Option Slot) (s r v : ℕ) → Carried (KeptState s v) slot slot' → (x : Hold) → HoldOk ms slot s r v x → HoldOk ms slot' s r v x
carry_hold ms slot slot' s r v f (OnSlot o p) k = let g = f o p k.0 k.1 k.3 in (g.0, g.1, g.2 ∙ k.2, g.3)
carry_hold ms slot slot' s r v f _ k = k

pub carry_with : (slot slot' : ℕ → ℕ → Option Slot) (r v : ℕ) → Carried (HasVersion v) slot slot' → SlotWith slot r v → SlotWith slot' r v
carry_with slot slot' r v f s = let g = f s.o s.p s.sl s.there s.version in record { o = s.o; p = s.p; sl = g.0; there = g.1; number = g.2 ∙ s.number; version = g.3 }

pub carry_cover : (ents : ℕ → Entries) (ms : ℕ → Master) (W : ℕ) (slot slot' : ℕ → ℕ → Option Slot) → ((v : ℕ) → Carried (HasVersion v) slot slot') → CoverOk ents ms W slot → CoverOk ents ms W slot'
carry_cover ents ms W slot slot' f c r e k = ⊎_elim (λ a. inl a) (⊎_elim (λ s. inr (inl (carry_with slot slot' r e.version (f e.version) s))) (λ n. inr (inr n))) (c r e k)

module _ (seen : ℕ → ℕ → Entry) where
  pub put_match : (b : Base) (ws : ℕ → Option Section) (hs : ℕ → Option Reader) (u : ℕ) (s : Option Section) (q : Option Reader) → Match seen b u s q
      → ((o : ℕ) → Match seen b o (ws o) (hs o)) → (o : ℕ) → Match seen b o (put ws u s o) (put hs u q o)
  put_match b ws hs u s q m f o =
      eq_case (λ t. Match seen b o (cond t s (ws o)) (cond t q (hs o))) o u (λ e. subst (λ y. Match seen b y s q) (sym e) m) (λ _. f o)

  -- An open section is carried over: the entries stay, new ones are above its opening, and its holds are kept.
  pub carry_section : {a : Base} (b : Base) {u : ℕ} {s : Section} {rd : Reader} → SectionOk seen a u s rd → s.opening ≤ b.high → b.watermark ≤ s.opening
      → ((r : ℕ) (e : Entry) → Ent (a.entries r) e → Ent (b.entries r) e)
      → ((r : ℕ) (e : Entry) → Ent (b.entries r) e → Ent (a.entries r) e ⊎ (s.opening < e.version))
      → ((r v : ℕ) (x : Hold) → v ≡ (seen rd.opened_at r).version → HoldOk a.master a.slot s.opening r v x → HoldOk b.master b.slot s.opening r v x)
      → SectionOk seen b u s rd
  carry_section b {u} {s} {rd} ok high low c d f =
      record {
        sees = record {
          user = ok.user;
          opening_low = high;
          watermark_low = low;
          seen_entry = λ r. c r (seen rd.opened_at r) (ok.seen_entry r);
          seen_low = ok.seen_low;
          seen_last = λ r e k. ⊎_elim (λ z. ok.seen_last r e z) (λ z. inr z) (d r e k);
        };
        holds = λ i r v q. (let g = ok.holds i r v q in (g.0, f r v (s.hold i) g.0 g.1));
      }

  -- the sections' part where the entries and the watermark stay
  pub keep_sections : {w : World} {h : History} → Inv seen w h → (high : ℕ) (ms : ℕ → Master) (slot : ℕ → ℕ → Option Slot) → w.highest ≤ high
      → ((u : ℕ) (s : Section) (rd : Reader) → SectionOk seen (base w h) u s rd
      → (r v : ℕ) (x : Hold) → v ≡ (seen rd.opened_at r).version → HoldOk w.master w.slot s.opening r v x → HoldOk ms slot s.opening r v x)
      → (u : ℕ) → Match seen (record (base w h) { high = high; master = ms; slot = slot }) u (w.section u) (h.section u)
  keep_sections {w} {h} inv high ms slot le f =
      carry_sections seen inv _ (λ u s rd _ ok. carry_section _ ok (omega arith) ok.watermark_low (λ r e z. z) (λ r e z. inl z) (f u s rd ok))

  -- where only slots change, and each that a section holds is kept
  pub keep_slots : {w : World} {h : History} → Inv seen w h → (slot : ℕ → ℕ → Option Slot) → ((s v : ℕ) → w.watermark ≤ s → Carried (KeptState s v) w.slot slot)
      → (u : ℕ) → Match seen (base (with_slots w slot) h) u (w.section u) (h.section u)
  keep_slots {w} {h} inv slot f =
      keep_sections inv w.highest w.master slot (omega arith) (λ _ s _ ok r v x _ z. carry_hold w.master w.slot slot s.opening r v (f s.opening v ok.watermark_low) x z)

  -- slots, drafts and sections change
  pub new_slots : {w : World} {h : History} → Inv seen w h → (ws : ℕ → Option Section) (oldest : ℕ → ℕ) (slot : ℕ → ℕ → Option Slot) (hs : ℕ → Option Reader)
      → SlotsOk h.entries w.master (draft (record h { section = hs })) slot → DraftsOk (draft (record h { section = hs })) slot → CoverOk h.entries w.master w.watermark slot
      → ((u : ℕ) → Match seen (base (with_slots w slot) h) u (ws u) (hs u))
      → Inv seen (world w.home w.highest w.tick w.watermark w.master ws oldest slot) (record h { section = hs })
  new_slots inv ws oldest slot hs slots drafts cover sections =
      record { ledgers = inv.ledgers; watermark_low = inv.watermark_low; masters = inv.masters; slots = slots; drafts = drafts; cover = cover; sections = sections }

  -- sections change and the highest stamp rises, and the drafts are the same
  pub new_sections : {w : World} {h : History} → Inv seen w h → (high : ℕ) (ws : ℕ → Option Section) (hs : ℕ → Option Reader) → w.highest ≤ high
      → draft (record h { section = hs }) ≡ draft h
      → ((u : ℕ) → Match seen (record (base w h) { high = high }) u (ws u) (hs u))
      → Inv seen (world w.home high w.tick w.watermark w.master ws w.oldest w.slot) (record h { section = hs })
  new_sections {w} {h} inv high ws hs le same m =
      record {
        ledgers = λ r. raise high (inv.ledgers r) le;
        watermark_low = omega arith;
        masters = inv.masters;
        slots = subst (λ d. SlotsOk h.entries w.master d w.slot) (sym same) inv.slots;
        drafts = subst (λ d. DraftsOk d w.slot) (sym same) inv.drafts;
        cover = inv.cover;
        sections = m;
      }

-- the history after an accepted commit of u that answers c
abbrev pub with_commit : History → ℕ → ℕ → History
with_commit h u c = record { entries = λ r. stored c (draft h u r) (h.entries r); section = put h.section u None }

-- of a slot's state only a draft looks at the drafts
pub carry_state : (ents : ℕ → Entries) (ms : ℕ → Master) (drafts drafts' : ℕ → ℕ → Option Body) (o : ℕ) (sl : Slot) (st : Stage)
    → (is_draft st ≡ true → drafts o sl.number ≡ Some sl.body → drafts' o sl.number ≡ Some sl.body) → StateAt ents ms drafts o sl st → StateAt ents ms drafts' o sl st
carry_state ents ms drafts drafts' o sl Draft f k = f refl k
carry_state ents ms drafts drafts' o sl _ f k = k

pub put_slot_case : (P : Option Slot → Type 0) (f : ℕ → ℕ → Option Slot) (u p : ℕ) (s : Option Slot) (o q : ℕ)
    → (o ≡ u → q ≡ p → P s) → (((o ≡ u) × (q ≡ p) → ⊥) → P (f o q)) → P (put_slot f u p s o q)
put_slot_case P f u p s o q yes' no' =
    eq_case (λ b. P ((cond b (put (f u) p s) (f o)) q)) o u
    (λ e. put_case P (f u) p s q (λ z. yes' e z) (λ n. subst (λ y. P (f y q)) e (no' (λ z. n z.1))))
    (λ n. no' (λ z. n z.0))

-- The draft of r of u's section has become what t makes of it.
abbrev pub redraft : ℕ → (Option Body → Option Body) → Reader → Reader
redraft r t s = record s { draft = put s.draft r (t (s.draft r)) }

pub redraft_case : (P : Option Body → Type 0) (h : History) (u r : ℕ) (t : Option Body → Option Body) (rd : Reader) → h.section u ≡ Some rd → (o a : ℕ)
    → (o ≡ u → a ≡ r → P (t (draft h u r))) → (((o ≡ u) × (a ≡ r) → ⊥) → P (draft h o a))
    → P (draft (with_reader h u (on_some (redraft r t) (h.section u))) o a)
redraft_case P h u r t rd is o a yes' no' =
    eq_case (λ b. P (draft_in (cond b (on_some (redraft r t) (h.section u)) (h.section o)) a)) o u
    (λ e. subst (λ y. P (draft_in (on_some (redraft r t) y) a)) (sym is)
    (put_case P rd.draft r (t (rd.draft r)) a (λ z. subst (λ y. P (t (draft_in y r))) is (yes' e z))
    (λ n. subst (λ y. P (draft_in y a)) is (subst (λ y. P (draft h y a)) e (no' (λ z. n z.1))))))
    (λ n. no' (λ z. n z.0))

-- the sections' part, with other slots and u's drafts changed
pub redraft_match : (seen : ℕ → ℕ → Entry) {w : World} {h : History} → Inv seen w h → (slot' : ℕ → ℕ → Option Slot) (u r : ℕ) (t : Option Body → Option Body)
    → ((s v : ℕ) → Carried (KeptState s v) w.slot slot')
    → (o : ℕ) → Match seen (base (with_slots w slot') h) o (w.section o) (put h.section u (on_some (redraft r t) (h.section u)) o)
redraft_match seen {w} {h} inv slot' u r t f o =
    put_case (λ q. Match seen (base (with_slots w slot') h) o (w.section o) q) h.section u (on_some (redraft r t) (h.section u)) o
    (λ e. subst (λ y. Match seen (base (with_slots w slot') h) o (w.section o) (on_some (redraft r t) (h.section y))) e (again (w.section o) (h.section o) (keep o)))
    (λ _. keep o)
  where
    keep : (o : ℕ) → Match seen (base (with_slots w slot') h) o (w.section o) (h.section o)
    keep = keep_slots seen inv slot' (λ s v _. f s v)

    again : (a : Option Section) (q : Option Reader) → Match seen (base (with_slots w slot') h) o a q → Match seen (base (with_slots w slot') h) o a (on_some (redraft r t) q)
    again a None k = k
    again None (Some rd) k = k
    again (Some s) (Some rd) ok = record { sees = ok.sees; holds = ok.holds }
