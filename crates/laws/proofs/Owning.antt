-- Drafts are own: a hold that the history has on an own draft stands on a draft of that record, in the log of the section's user.
use Rattle.std.proofs.Common.{◌≡◌, ℕ, false, cond, ◌&&◌, eqb, List, Some, None, Option, sym, refl, ap, ◌∙◌, subst}
use Rattle.std.proofs.lemmas.Bool.{eqb-true, and_parts, cond_both}
use Rattle.std.proofs.lemmas.Option.{same_Some}
use Rattle.model.specs.declared.body.Body.{Body}
use Rattle.model.specs.declared.slot.Stage.TheVariants.{Draft, Live}
use Rattle.model.specs.declared.slot.Slot.{Slot}
use Rattle.model.specs.declared.slot.Hold.{Hold}
use Rattle.model.specs.declared.slot.Hold.TheVariants.{OnSlot}
use Rattle.model.specs.declared.door.Door.{Door}
use Rattle.model.specs.declared.door.Door.TheVariants.{Host}
use Rattle.model.specs.Tools.{put, on_some}
use Rattle.model.specs.Worlds.{Entry, Section, World, home_bytes, part, written, blank, first_hour, with_slots, put_slot}
use Rattle.model.specs.Calls.{Call, Open, Find, Take, Lock, Put, Clear, Commit, Abort, Collect, taken, turn}
use Rattle.model.specs.Versions.{place_of, newest}
use Rattle.model.specs.Drafts.{is_draft, any_draft, edited, undrafted, settled}
use Rattle.model.specs.Steps.{fresh, Outcome, holding, held, take_step, settle, survey_step, oldest_place, own_step, step}
use Rattle.model.specs.History.{Held, own_draft, Reader, History, draft_in, with_reader, opening, held_by, finding, locking, editing, fed}
use Rattle.laws.specs.Laws.{DraftsOwn}
use Rattle.laws.specs.Theorems.{OfEveryRun}
use Rattle.laws.proofs.Basics.{eq_case, bool_case, on_some_some, put_on_some}
use Rattle.laws.proofs.Cases.{free_here, step_cases, open_cases, find_cases, take_cases, lock_cases, put_cases, clear_cases, commit_cases, abort_cases, collect_cases}
use Rattle.laws.proofs.Invariant.{draft_slot, Inv}
use Rattle.laws.proofs.Reading.{draft_here, no_draft_here}
use Rattle.laws.proofs.Carrying.{put_slot_case}
use Rattle.laws.proofs.Answers.{own_answered}
use Rattle.laws.proofs.Runs.{WholeRun, whole_run, behind, past, seen, Kept, turn_at}

-- a hold of u is on a draft of r in u's log
abbrev pub OnDraft : (ℕ → Option Slot) → ℕ → ℕ → Hold → Type 0
OnDraft log u r x = (p : ℕ) × (b : Body) × (x ≡ OnSlot u p) × (log p ≡ Some (draft_slot r b))

-- of u's log, with the holds of its section in the store and in the history
abbrev pub Own : (ℕ → Option Slot) → ℕ → (ℕ → Hold) → (ℕ → Held) → Type 0
Own log u hold held = (i r : ℕ) → held i ≡ own_draft r → OnDraft log u r (hold i)

-- of all sections, in the store and in the history
abbrev pub Owned : (ℕ → Option Section) → (ℕ → Option Reader) → (ℕ → ℕ → Option Slot) → Type 0
Owned ws hs slot = (u : ℕ) (s : Section) (rd : Reader) → ws u ≡ Some s → hs u ≡ Some rd → Own (slot u) u s.hold rd.hold

abbrev pub OwnHolds : World → History → Type 0
OwnHolds w h = Owned w.section h.section w.slot

-- a draft stays one, of its record
abbrev Stays : (ℕ → Option Slot) → (ℕ → Option Slot) → Type 0
Stays log log' = (p r : ℕ) (b : Body) → log p ≡ Some (draft_slot r b) → (b' : Body) × (log' p ≡ Some (draft_slot r b'))

carry_own : (log log' : ℕ → Option Slot) (u : ℕ) (hold : ℕ → Hold) (held : ℕ → Held) → Stays log log' → Own log u hold held → Own log' u hold held
carry_own log log' u hold held f own i r e =
    let g = own i r e in
    let d = f g.0 r g.1 g.3 in
    (g.0, d.0, g.2, d.1)

-- the slots change, and the history's section of u by f, which keeps the holds
carry_owned : (ws : ℕ → Option Section) (hs : ℕ → Option Reader) (slot slot' : ℕ → ℕ → Option Slot) (u : ℕ) (f : Reader → Reader) → ((y : Reader) → (f y).hold ≡ y.hold)
    → ((v : ℕ) → Stays (slot v) (slot' v)) → Owned ws hs slot → Owned ws (put hs u (on_some f (hs u))) slot'
carry_owned ws hs slot slot' u f same stays own v s rd e =
    put_on_some (Own (slot' v) v s.hold rd.hold) hs u f v rd
    (λ y _ i q. subst (Own (slot' v) v s.hold) (sym (same y) ∙ ap (λ y. y.hold) q) (carry_own (slot v) (slot' v) v s.hold y.hold (stays v) (own v s y e i)))
    (λ q. carry_own (slot v) (slot' v) v s.hold rd.hold (stays v) (own v s rd e q))

-- u's section opens, changes or closes
put_owned : (ws : ℕ → Option Section) (hs : ℕ → Option Reader) (slot slot' : ℕ → ℕ → Option Slot) (u : ℕ) (x : Option Section) (y : Option Reader)
    → ((s : Section) (rd : Reader) → x ≡ Some s → y ≡ Some rd → Own (slot' u) u s.hold rd.hold)
    → ((v : ℕ) → (v ≡ u → ⊥) → Stays (slot v) (slot' v)) → Owned ws hs slot → Owned (put ws u x) (put hs u y) slot'
put_owned ws hs slot slot' u x y here stays own v s rd =
    eq_case (λ b. cond b x (ws v) ≡ Some s → cond b y (hs v) ≡ Some rd → Own (slot' v) v s.hold rd.hold) v u
    (λ e p q. subst (λ z. Own (slot' z) z s.hold rd.hold) (sym e) (here s rd p q))
    (λ n p q. carry_own (slot v) (slot' v) v s.hold rd.hold (stays v n) (own v s rd p q))

-- a used slot at a place that takes another
other_slot : (slot : ℕ → ℕ → Option Slot) (u q : ℕ) (x : Option Slot) → ((r : ℕ) (b : Body) → slot u q ≡ Some (draft_slot r b) → ⊥) → (v : ℕ) → Stays (slot v) (put_slot slot u q x v)
other_slot slot u q x no' v p r b e = (
  b,
  put_slot_case (λ y. y ≡ Some (draft_slot r b)) slot u q x v p (λ a z. absurd (no' r b cc)) (λ _. e),
)

module _ (seen : ℕ → ℕ → Entry) (w : World) (h : History) (inv : Inv seen w h) (own : OwnHolds w h) (k : ℕ) where
  -- what is to show of an outcome
  abbrev KeepsOwn : Call → Outcome → Type 0
  KeepsOwn call out = OwnHolds out.after (fed k h (turn Host call out.answer))

  -- a find: the hold that it sets
  finding_owns : (u i r : ℕ) (s : Section) → w.section u ≡ Some s → (x : Hold) (v : ℕ)
      → ((rd : Reader) → h.section u ≡ Some rd → (a : ℕ) → held_by r v (rd.draft r) ≡ own_draft a → OnDraft (w.slot u) u a x)
      → OwnHolds (holding w u s i x) (with_reader h u (on_some (finding i r v) (h.section u)))
  finding_owns u i r s e x v f =
      put_owned w.section h.section w.slot w.slot u _ _
      (λ s' rd p q j a z. (let g = on_some_some (finding i r v) (h.section u) rd q in
      let y : put g.0.hold i (held_by r v (g.0.draft r)) j ≡ own_draft a = ap (λ y. y.hold j) g.2 ∙ z in
      subst (λ y. OnDraft (w.slot u) u a (y.hold j)) (same_Some _ s' p)
      (eq_case (λ t. cond t (held_by r v (g.0.draft r)) (g.0.hold j) ≡ own_draft a → OnDraft (w.slot u) u a (cond t x (s.hold j))) j i
      (λ _ m. f g.0 g.1 a m) (λ _ m. own u s g.0 e g.1 j a m) y)))
      (λ v _ p r b e. (b, e)) own

  edit_owns : (u r : ℕ) (f : Body → Body) → OwnHolds (with_slots w (λ o p. on_some (edited u r f o) (w.slot o p))) (with_reader h u (on_some (editing r f) (h.section u)))
  edit_owns u r f =
      carry_owned w.section h.section w.slot (λ o p. on_some (edited u r f o) (w.slot o p)) u (editing r f) (λ y. refl)
      (λ v p a b e. bool_case (λ t. on_some (edited u r f v) (w.slot v p) ≡ Some (cond t (draft_slot a (f b)) (draft_slot a b)) → (b' : Body) × (on_some (edited u r f v) (w.slot v p) ≡ Some (draft_slot a b')))
      (eqb v u && eqb a r) (λ _ q. (f b, q)) (λ _ q. (b, q)) (ap (on_some (edited u r f v)) e)) own

  -- u's section closes, and the drafts of others stay
  closed_owns : (u : ℕ) (slot' : ℕ → ℕ → Option Slot) → ((v : ℕ) → (v ≡ u → ⊥) → Stays (w.slot v) (slot' v)) → Owned (put w.section u None) (put h.section u None) slot'
  closed_owns u slot' stays = put_owned w.section h.section w.slot slot' u None None (λ s rd e. cc) stays own

  -- the slot collected is no draft, so no draft is touched
  collect_owns : (u : ℕ) (sl : Slot) → w.slot u (oldest_place w u) ≡ Some sl → is_draft sl.stage ≡ false → (x : Option Slot) → Owned w.section h.section (put_slot w.slot u (oldest_place w u) x)
  collect_owns u sl e d x v s rd p q =
      carry_own (w.slot v) (put_slot w.slot u (oldest_place w u) x v) v s.hold rd.hold
      (other_slot w.slot u (oldest_place w u) x (λ r b z. cc (ap (λ y. is_draft y.stage) (same_Some (draft_slot r b) sl (sym z ∙ e)))) v) (own v s rd p q)

  own_step_owns : (c : ℕ) (call : Call) → KeepsOwn call (own_step w c call)
  unfolding survey_step
  own_step_owns c (Open u) =
      open_cases (KeepsOwn (Open u)) w (λ _. own) c u
      (λ _. put_owned w.section h.section w.slot w.slot u (Some (fresh c)) (Some (opening k)) (λ s rd _ q i r e. cc (ap (λ y. y.hold i) (same_Some (opening k) rd q))) (λ v _ p r b e. (b, e)) own)
  own_step_owns c (Find u i r) =
      find_cases (KeepsOwn (Find u i r)) w (λ _. own) u i r
      (λ s e q. finding_owns u i r s e _ _ (λ rd is a z. cc (ap (λ y. draft_in y r) is, no_draft_here seen w h inv u r q)))
      (λ s e j q. finding_owns u i r s e _ _ (λ rd is a z. (let d = draft_here seen w h inv u r j q in
      (place_of (w.oldest u) j, d.0, refl, cc (ap (λ y. draft_in y r) is, d.1, d.2)))))
  own_step_owns c (Take u i offset count) = take_cases (KeepsOwn (Take u i offset count)) w (λ _. own) u i offset count (λ _ _ _ _. own)
  own_step_owns c (Lock u r) =
      lock_cases (KeepsOwn (Lock u r)) w (λ _. own) u r
      (λ s i l. carry_owned w.section h.section w.slot _ u (locking r (h.entries r).last.body) (λ y. refl)
      (other_slot w.slot u (place_of (w.oldest u) i) (Some (draft_slot r (newest w r).entry.body)) (λ a b q. cc (free_here l))) own)
      (λ _ _ _ _. carry_owned w.section h.section w.slot w.slot u (locking r (h.entries r).last.body) (λ y. refl) (λ v p a b q. (b, q)) own)
  own_step_owns c (Put u r offset bytes) = put_cases (KeepsOwn (Put u r offset bytes)) w (λ _. own) u r offset bytes (λ _ _. edit_owns u r (written offset bytes))
  own_step_owns c (Clear u r) = clear_cases (KeepsOwn (Clear u r)) w (λ _. own) u r (λ _ _. edit_owns u r (λ b. blank))
  own_step_owns c (Commit u) =
      commit_cases (KeepsOwn (Commit u)) w (λ _. own) c u
      (closed_owns u (settle w u c) (λ v n p r b e. (
        b,
        ap (on_some (settled (w.slot u) (w.oldest u) (eqb v u) c)) e
            ∙ eq_case (λ t. Some (record { number = r; body = b; stage = cond t (Live c) Draft }) ≡ Some (draft_slot r b)) v u (λ y. absurd (n y)) (λ _. refl),
      )))
      (λ _. closed_owns u w.slot (λ v n p r b e. (b, e)))
  own_step_owns c (Abort u) =
      abort_cases (KeepsOwn (Abort u)) w (λ _. own) u
      (closed_owns u (λ o p. undrafted u o (w.slot o p)) (λ v n p r b e. (
        b,
        cond_both (eqb v u && any_draft (w.slot v p)) None (w.slot v p) (λ y. y ≡ Some (draft_slot r b))
            (λ t. absurd (n (eqb-true v u (and_parts (eqb v u) (any_draft (w.slot v p)) t).0))) (λ _. e),
      )))
  own_step_owns c (Collect u) =
      collect_cases (KeepsOwn (Collect u)) w (λ _. own) c u (λ _. own)
      (λ sl e v t q _. collect_owns u sl e (ap is_draft q) None) (λ sl e v q _ _. collect_owns u sl e (ap is_draft q) _)
  own_step_owns c _ = own

  step_owns : (c : ℕ) (d : Door) (call : Call) → KeepsOwn call (step w c d call)
  step_owns c d call = step_cases (KeepsOwn call) w (λ _. own) c d call (λ _. own_step_owns c call)

  -- what an accepted take from a hold on an own draft answers
  draft_answer : (u i offset count : ℕ) (bs : List ℕ) (rd : Reader) (r : ℕ) → h.section u ≡ Some rd → rd.hold i ≡ own_draft r → (take_step w u i offset count).answer ≡ taken bs
      → (b : Body) × (rd.draft r ≡ Some b) × (bs ≡ part offset count b.bytes)
  draft_answer u i offset count bs rd r is holds =
      take_cases P w (λ why z. cc) u i offset count (λ s e b q z.
      (let g = own u s rd e is i r holds in
      let x : g.1 ≡ b = cc (g.2, g.3) in
      (g.1, cc (inv.slots u g.0 (draft_slot r g.1) g.3).3, cc (ap (λ y. part offset count y.bytes) x))))
    where
      P : Outcome → Type 0
      P out = out.answer ≡ taken bs → (b : Body) × (rd.draft r ≡ Some b) × (bs ≡ part offset count b.bytes)

module _ (run : WholeRun) where
  abbrev OwnAt : ℕ → World → Type 0
  OwnAt k y = OwnHolds y (past run k)

  own_kept : Kept run OwnAt
  own_kept k t y z e inv turned own = behind run OwnHolds k e turned (step_owns (seen run) y (past run k) inv own k turned.stamp t.door t.call)

  -- at first no section is open
  own_first : OwnAt 0 (first_hour run.home run.highest)
  own_first u s rd e = cc

  takes_own : DraftsOwn (home_bytes run.home) run.turns
  takes_own k hold offset count r rd bs at holds =
      let t = turn_at run OwnAt own_first own_kept k _ at.is in
      draft_answer (seen run) t.world (past run k) t.inv t.holds k at.user hold offset count bs rd r at.open_section holds
      (own_answered t.world t.turned.stamp at.door (Take at.user hold offset count) (taken bs) t.turned.answers refl)

pub drafts_own : OfEveryRun DraftsOwn
drafts_own home highest ts x reached = takes_own (whole_run reached)
