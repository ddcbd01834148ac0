-- The turn of a commit.
use Rattle.std.proofs.Common.{◌≡◌, ℕ, ◌<◌, ◌≤◌, cond, eqb, ◌⊎◌, Some, None, Option, sym, refl, ap, ◌∙◌, subst, inl, inr, ⊎_elim, arith}
use mathlib.Core.Path.{fun_ext}
use Rattle.std.proofs.lemmas.Bool.{cond_both}
use Rattle.model.specs.declared.body.Body.{Body}
use Rattle.model.specs.declared.slot.Stage.{Stage}
use Rattle.model.specs.declared.slot.Stage.TheVariants.{Draft, Live, Retired}
use Rattle.model.specs.declared.slot.Slot.{Slot}
use Rattle.model.specs.Tools.{put, on_some, is_some}
use Rattle.model.specs.Worlds.{Entry, World, master_entry, with_section, with_highest, with_slots}
use Rattle.model.specs.Calls.{Commit}
use Rattle.model.specs.Drafts.{has_draft, settled, settled_stage}
use Rattle.model.specs.Steps.{settle, commit_step}
use Rattle.model.specs.History.{Entries, History, draft_in, draft, with_reader, stored}
use Rattle.laws.proofs.Basics.{eq_case, on_some_some, HasVersion}
use Rattle.laws.proofs.Invariant.{entry, Ent, Ledger, Newer, StateOk, StateAt, SlotOk, SlotsOk, draft_slot, DraftsOk, Covered, CoverOk, KeptState, Base, base, Inv, Good, carry_sections}
use Rattle.laws.proofs.Reading.{no_drafts_here, has_draft_is}
use Rattle.laws.proofs.Carrying.{Carried, with_commit, same_drafts, carry_hold, put_match, carry_section, new_sections, carry_with}
use Rattle.laws.proofs.Cases.{commit_cases}

-- What a commit at c does to the entries of a record.

ent_old : (c : ℕ) (d : Option Body) (es : Entries) (e : Entry) → Ent es e → Ent (stored c d es) e
ent_old c None es e k = k
ent_old c (Some b) es e k = inr k

ent_new : (c : ℕ) (d : Option Body) (es : Entries) (e : Entry) → Ent (stored c d es) e → Ent es e ⊎ ((b : Body) × (d ≡ Some b) × (e ≡ entry c b))
ent_new c None es e k = inl k
ent_new c (Some b) es e (inl k) = inr (b, refl, k)
ent_new c (Some b) es e (inr k) = inl k

ledger_new : (c : ℕ) (d : Option Body) (es : Entries) (high : ℕ) → high < c → Ledger es high → Ledger (stored c d es) c
ledger_new c None es high lt l = record { unique = l.unique; newest = l.newest; bound = omega arith }
ledger_new c (Some b) es high lt l =
    record {
      unique = λ e f. elim [
        | inl p ↦ elim [ inl q ↦ (λ _. p ∙ sym q) | inr q ↦ (λ v. absurd (old f q (sym v ∙ ap (λ x. x.version) p))) ]
        | inr p ↦ elim [ inl q ↦ (λ v. absurd (old e p (v ∙ ap (λ x. x.version) q))) | inr q ↦ (λ v. l.unique e f p q v) ]
      ];
      newest = λ e. elim [ inl p ↦ subst (λ x. x.version ≤ c) (sym p) (omega arith) | inr p ↦ omega (arith, l.newest e p) ];
      bound = omega arith;
    }
  where
    old : (e : Entry) → Ent es e → e.version ≡ c → ⊥
    old e k v = omega (arith, l.newest e k)

newer_old : (c : ℕ) (d : Option Body) (es : Entries) (v t : ℕ) → Newer es v t → Newer (stored c d es) v t
newer_old c d es v t n = (n.0, ent_old c d es n.0 n.1, n.2, n.3)

-- a live slot is retired if its record is carried
live_state : (c : ℕ) (d : Option Body) (es : Entries) (high mv : ℕ) (t t' : Option Body) (b : Body) (v : ℕ) → high < c → Ledger es high
    → StateOk es mv t b (Live v) → StateOk (stored c d es) mv t' b (cond (is_some d) (Retired v c) (Live v))
live_state c None es high mv t t' b v lt l k = k
live_state c (Some x) es high mv t t' b v lt l k =
    (inr (inl (sym k)), inr (entry c x, inl refl, (let q : es.last.version ≡ v = ap (λ e. e.version) k in omega arith), omega arith))

module _ (seen : ℕ → ℕ → Entry) (w : World) (h : History) (inv : Inv seen w h) (u c : ℕ) (lt : w.highest < c) where
  abbrev stage' : ℕ → ℕ → Stage → Stage
  stage' o r st = settled_stage (eqb o u) (has_draft (w.slot u) (w.oldest u) r) c st

  -- what becomes of a slot of o's log
  abbrev became : ℕ → Slot → Slot
  became o sl = settled (w.slot u) (w.oldest u) (eqb o u) c sl

  abbrev slot' : ℕ → ℕ → Option Slot
  slot' = settle w u c

  abbrev ents' : ℕ → Entries
  ents' r = stored c (draft h u r) (h.entries r)

  abbrev table' : ℕ → ℕ → Option Body
  table' = draft (with_reader h u None)

  state' : (o : ℕ) (sl : Slot) (st : Stage) → StateAt h.entries w.master (draft h) o sl st → StateAt ents' w.master table' o sl (stage' o sl.number st)
  state' o sl Draft ok =
      eq_case (λ b. StateOk (ents' sl.number) (w.master sl.number).version (draft_in (cond b None (h.section o)) sl.number) sl.body (cond b (Live c) Draft)) o u
      (λ e. cc) (λ _. ok)
  state' o sl (Live v) ok =
      subst (λ t. StateAt ents' w.master table' o sl (cond t (Retired v c) (Live v))) (sym (has_draft_is seen w h inv u sl.number))
      (live_state c (draft h u sl.number) (h.entries sl.number) w.highest (w.master sl.number).version (draft h o sl.number) (table' o sl.number) sl.body v lt (inv.ledgers sl.number) ok)
  state' o sl (Retired v t) ok = (
    ent_old c (draft h u sl.number) (h.entries sl.number) (entry v sl.body) ok.0,
    ⊎_elim (λ a. inl a) (λ n. inr (newer_old c (draft h u sl.number) (h.entries sl.number) v t n)) ok.1,
  )

  slots' : SlotsOk ents' w.master table' slot'
  slots' o p sl e =
      let g = on_some_some (became o) (w.slot o p) sl e in
      let q = inv.slots o p g.0 g.1 in
      subst (SlotOk ents' w.master table' o p) g.2 (q.0, q.1, q.2, state' o g.0 g.0.stage q.3)

  drafts' : DraftsOk table' slot'
  drafts' o a b =
      eq_case (λ t. draft_in (cond t None (h.section o)) a ≡ Some b → (p : ℕ) × (slot' o p ≡ Some (draft_slot a b))) o u
      (λ _ e. cc)
      (λ n e. (let s = inv.drafts o a b e in (
        s.0,
        ap (on_some (became o)) s.1
            ∙ eq_case (λ t. Some (record { number = a; body = b; stage = cond t (Live c) Draft }) ≡ Some (draft_slot a b)) o u (λ y. absurd (n y)) (λ _. refl),
      )))

  -- what no draft has, and a live slot that retires keeps, a slot keeps
  stage_kept : (o r : ℕ) (P : Stage → Type 0) → (P Draft → ⊥) → ((v : ℕ) → P (Live v) → P (Retired v c)) → (st : Stage) → P st → P (stage' o r st)
  stage_kept o r P no' retire Draft x = absurd (no' x)
  stage_kept o r P no' retire (Live v) x = cond_both (has_draft (w.slot u) (w.oldest u) r) (Retired v c) (Live v) P (λ _. retire v x) (λ _. x)
  stage_kept o r P no' retire (Retired v t) x = x

  kept' : (P : Stage → Type 0) → (P Draft → ⊥) → ((v : ℕ) → P (Live v) → P (Retired v c)) → Carried P w.slot slot'
  kept' P no' retire o p sl e x = (became o sl, ap (on_some (became o)) e, refl, stage_kept o sl.number P no' retire sl.stage x)

  cover' : CoverOk ents' w.master w.watermark slot'
  cover' r e z = ⊎_elim old fresh' (ent_new c (draft h u r) (h.entries r) e z)
    where
      old : Ent (h.entries r) e → Covered ents' w.master w.watermark slot' r e
      old y =
          ⊎_elim (λ m. inl m) (⊎_elim (λ s. inr (inl (carry_with w.slot slot' r e.version (kept' (HasVersion e.version) (λ x. x) (λ _ x. x)) s)))
          (λ n. inr (inr (newer_old c (draft h u r) (h.entries r) e.version w.watermark n)))) (inv.cover r e y)

      fresh' : (b : Body) × (draft h u r ≡ Some b) × (e ≡ entry c b) → Covered ents' w.master w.watermark slot' r e
      fresh' y =
          let s = inv.drafts u r y.0 y.1 in
          inr (inl (record {
            o = u;
            p = s.0;
            sl = became u (draft_slot r y.0);
            there = ap (on_some (became u)) s.1;
            number = refl;
            version = eq_case (λ t. HasVersion e.version (cond t (Live c) Draft)) u u (λ _. ap (λ x. x.version) (sym y.2)) (λ n. absurd (n refl));
          }))

  commit_inv : Inv seen (with_highest (with_section (with_slots w (settle w u c)) u None) c)
      (with_commit h u c)
  commit_inv =
      record {
        ledgers = λ r. ledger_new c (draft h u r) (h.entries r) w.highest lt (inv.ledgers r);
        watermark_low = omega arith;
        masters = λ r. record { is_entry = ent_old c (draft h u r) (h.entries r) (master_entry w r) (inv.masters r).is_entry; low = (inv.masters r).low };
        slots = slots';
        drafts = drafts';
        cover = cover';
        sections = put_match seen after w.section h.section u None None tt (carry_sections seen inv after (λ o s rd _ ok.
            carry_section seen after ok (omega arith) ok.watermark_low
            (λ r e z. ent_old c (draft h u r) (h.entries r) e z)
            (λ r e z. ⊎_elim (λ a. inl a) (λ y. inr (subst (λ x. s.opening < x.version) (sym y.2) (omega arith))) (ent_new c (draft h u r) (h.entries r) e z))
            (λ r v x _ z. carry_hold w.master w.slot slot' s.opening r v (kept' (KeptState s.opening v) (λ y. y) (λ _ y. (y, omega arith))) x z)));
      }
    where
      after : Base
      after = record (base w h) { high = c; entries = ents'; slot = slot' }

module _ (seen : ℕ → ℕ → Entry) (w : World) (h : History) (inv : Inv seen w h) where
  -- a commit with no drafts closes the section
  idle_inv : (u : ℕ) → ((r : ℕ) → draft h u r ≡ None)
      → Inv seen (with_section w u None) (with_commit h u 0)
  idle_inv u none_there =
      subst (λ es. Inv seen (with_section w u None) (record { entries = es; section = put h.section u None })) (fun_ext (λ r. ap (λ d. stored 0 d (h.entries r)) (sym (none_there r))))
      (new_sections seen inv w.highest _ _ (omega arith) (same_drafts h u None (λ r. sym (none_there r))) (put_match seen (base w h) w.section h.section u None None tt inv.sections))

  pub commit_good : (k c u : ℕ) → Good seen w.highest c k h (Commit u) (commit_step w c u)
  commit_good k c u = commit_cases (Good seen w.highest c k h (Commit u)) w (λ _ _. inv) c u (commit_inv seen w h inv u c) (λ e _. idle_inv u (no_drafts_here seen w h inv u e))
