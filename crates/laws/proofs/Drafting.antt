-- The turns that change drafts: lock, put, clear, abort.
use Rattle.std.proofs.Common.{◌≡◌, ℕ, ◌<◌, true, false, ◌&&◌, eqb, List, Some, None, Option, sym, refl, ap, ◌∙◌, subst, arith}
use mathlib.Core.Path.{fun_ext}
use Rattle.std.proofs.lemmas.Bool.{eq-eqb, eqb-true, and_parts, and_from, cond_both}
use Rattle.std.proofs.lemmas.Option.{same_Some}
use Rattle.model.specs.declared.body.Body.{Body}
use Rattle.model.specs.declared.slot.Stage.{Stage}
use Rattle.model.specs.declared.slot.Stage.TheVariants.{Draft, Live, Retired}
use Rattle.model.specs.declared.slot.Slot.{Slot}
use Rattle.model.specs.Tools.{on_some}
use Rattle.model.specs.Worlds.{Entry, World, written, blank, with_section, with_slots, put_slot}
use Rattle.model.specs.Calls.{Lock, Put, Clear, Abort}
use Rattle.model.specs.Versions.{place_of, newest}
use Rattle.model.specs.Drafts.{is_draft, any_draft, draft_of, edited, undrafted}
use Rattle.model.specs.Steps.{lock_step, put_step, clear_step, abort_step}
use Rattle.model.specs.History.{Reader, History, draft_in, draft, with_reader, drafted}
use Rattle.laws.proofs.Basics.{put_case, on_some_some, edited_same, HasVersion}
use Rattle.laws.proofs.Invariant.{StateOk, StateAt, SlotOk, SlotsOk, draft_slot, DraftsOk, KeptState, base, Inv, Good, opened_here}
use Rattle.laws.proofs.Reading.{newest_is, draft_here, no_draft_here}
use Rattle.laws.proofs.Carrying.{Carried, new_slots, put_match, keep_slots, new_sections, carry_cover, carry_state, put_slot_case, redraft, redraft_case, redraft_match}
use Rattle.laws.proofs.Cases.{free_here, lock_cases, put_cases, clear_cases, abort_cases}

module _ (seen : ℕ → ℕ → Entry) (w : World) (h : History) (inv : Inv seen w h) (k : ℕ) where
  -- A lock of a record that is not yet locked: a draft at a place that was free.
  module _ (u r p : ℕ) (hu : u < 8) (hp : p < 8) (hr : r < 64) (rd : Reader) (is : h.section u ≡ Some rd) (free : w.slot u p ≡ None) (no_draft : draft h u r ≡ None) where
    abbrev new : Slot
    new = draft_slot r (newest w r).entry.body

    abbrev copied : Option Body → Option Body
    copied = drafted (h.entries r).last.body

    abbrev locked : ℕ → ℕ → Option Slot
    locked = put_slot w.slot u p (Some new)

    abbrev with_copy : ℕ → ℕ → Option Body
    with_copy = draft (with_reader h u (on_some (redraft r copied) (h.section u)))

    kept_slot : (o q : ℕ) (sl : Slot) → w.slot o q ≡ Some sl → locked o q ≡ Some sl
    kept_slot o q sl e = put_slot_case (λ x. x ≡ Some sl) w.slot u p (Some new) o q (λ a b. cc) (λ _. e)

    kept : (P : Stage → Type 0) → Carried P w.slot locked
    kept P o q sl e x = (sl, kept_slot o q sl e, refl, x)

    kept_draft : (o a : ℕ) (b : Body) → draft h o a ≡ Some b → with_copy o a ≡ Some b
    kept_draft o a b e = redraft_case (λ x. x ≡ Some b) h u r copied rd is o a (λ y z. cc) (λ _. e)

    newest_body : new.body ≡ (h.entries r).last.body
    newest_body = ap (λ e. e.body) (newest_is seen w h inv r)

    new_draft : with_copy u r ≡ Some new.body
    new_draft = redraft_case (λ x. x ≡ Some new.body) h u r copied rd is u r (λ _ _. cc (ap copied no_draft, newest_body)) (λ n. absurd (n (refl, refl)))

    lock_new_good : Inv seen (with_slots w locked) (with_reader h u (on_some (redraft r copied) (h.section u)))
    lock_new_good =
        new_slots seen inv w.section w.oldest locked _
        (λ o q sl. put_slot_case (λ x. x ≡ Some sl → SlotOk h.entries w.master with_copy o q sl) w.slot u p (Some new) o q
        (λ a b e. subst (SlotOk h.entries w.master with_copy o q) (same_Some new sl e)
        (omega arith, omega arith, hr, subst (λ y. with_copy y r ≡ Some new.body) (sym a) new_draft))
        (λ _ e. (let g = inv.slots o q sl e in
        (g.0, g.1, g.2, carry_state h.entries w.master (draft h) with_copy o sl sl.stage (λ _. kept_draft o sl.number sl.body) g.3))))
        (λ o a b. redraft_case (λ x. x ≡ Some b → (q : ℕ) × (locked o q ≡ Some (draft_slot a b))) h u r copied rd is o a
        (λ y z e. (p, put_slot_case (λ x. x ≡ Some (draft_slot a b)) w.slot u p (Some new) o p (λ _ _. cc (ap copied no_draft, newest_body)) (λ n. absurd (n (y, refl)))))
        (λ _ e. (let g = inv.drafts o a b e in (g.0, kept_slot o g.0 (draft_slot a b) g.1))))
        (carry_cover h.entries w.master w.watermark w.slot locked (λ v. kept (HasVersion v)) inv.cover)
        (redraft_match seen inv locked u r copied (λ s v. kept (KeptState s v)))

  pub lock_good : (c u r : ℕ) → u < 8 → Good seen w.highest c k h (Lock u r) (lock_step w u r)
  lock_good c u r hu =
      lock_cases (Good seen w.highest c k h (Lock u r)) w (λ _ _. inv) u r
      (λ s i l _. (let op = opened_here seen inv u s l.open_section in
      lock_new_good u r (place_of (w.oldest u) i) hu (omega arith) (omega arith) op.rd op.is (free_here l) (no_draft_here seen w h inv u r l.no_draft)))
      (λ s e i q _. (let op = opened_here seen inv u s e in
      let d = draft_here seen w h inv u r i q in
      new_sections seen inv w.highest w.section _ (omega arith)
      (fun_ext (λ o. fun_ext (λ a. redraft_case (λ x. x ≡ draft h o a) h u r (drafted (h.entries r).last.body) op.rd op.is o a
      (λ y z. cc (ap (drafted (h.entries r).last.body) d.1, d.1)) (λ _. refl))))
      (redraft_match seen inv w.slot u r (drafted (h.entries r).last.body) (λ s v o p sl e x. (sl, e, refl, x)))))

  -- An edit of u's draft of r by f.
  module _ (u r : ℕ) (f : Body → Body) (rd : Reader) (is : h.section u ≡ Some rd) where
    abbrev changed : ℕ → ℕ → Option Slot
    changed o p = on_some (edited u r f o) (w.slot o p)

    abbrev with_edit : ℕ → ℕ → Option Body
    with_edit = draft (with_reader h u (on_some (redraft r (on_some f)) (h.section u)))

    still_ok : (o p : ℕ) (sl : Slot) → SlotOk h.entries w.master (draft h) o p sl → SlotOk h.entries w.master with_edit o p (edited u r f o sl)
    still_ok o p sl g =
        cond_both (eqb o u && draft_of r (Some sl)) (record sl { body = f sl.body }) sl (SlotOk h.entries w.master with_edit o p)
        (λ t. (let a = and_parts (eqb o u) (draft_of r (Some sl)) t in
        let b = and_parts (is_draft sl.stage) (eqb sl.number r) a.1 in
        (g.0, g.1, g.2, own (eqb-true o u a.0) sl.stage b.0 (eqb-true sl.number r b.1) g.3)))
        (λ t. (
          g.0,
          g.1,
          g.2,
          carry_state h.entries w.master (draft h) with_edit o sl sl.stage
              (λ d e. redraft_case (λ x. x ≡ Some sl.body) h u r (on_some f) rd is o sl.number
              (λ y z. cc (and_from (eqb o u) (draft_of r (Some sl)) (eq-eqb o u y) (and_from (is_draft sl.stage) (eqb sl.number r) d (eq-eqb sl.number r z))))
              (λ _. e)) g.3,
        ))
      where
        own : o ≡ u → (st : Stage) → is_draft st ≡ true → sl.number ≡ r → StateAt h.entries w.master (draft h) o sl st
            → StateOk (h.entries sl.number) (w.master sl.number).version (with_edit o sl.number) (f sl.body) st
        own y Draft d z e =
            redraft_case (λ x. x ≡ Some (f sl.body)) h u r (on_some f) rd is o sl.number
            (λ _ _. cc) (λ n. absurd (n (y, z)))
        own y (Live v) d z e = cc
        own y (Retired v t) d z e = cc

    carried : (P : Stage → Type 0) → Carried P w.slot changed
    carried P o p sl e x = let g = edited_same u r f o sl in (edited u r f o sl, ap (on_some (edited u r f o)) e, g.0, subst P (sym g.1) x)

    edit_good : Inv seen (with_slots w changed) (with_reader h u (on_some (redraft r (on_some f)) (h.section u)))
    edit_good =
        new_slots seen inv w.section w.oldest changed _
        (λ o p sl e. (let g = on_some_some (edited u r f o) (w.slot o p) sl e in
        subst (SlotOk h.entries w.master with_edit o p) g.2 (still_ok o p g.0 (inv.slots o p g.0 g.1))))
        drafts'
        (carry_cover h.entries w.master w.watermark w.slot changed (λ v. carried (HasVersion v)) inv.cover)
        (redraft_match seen inv changed u r (on_some f) (λ s v. carried (KeptState s v)))
      where
        drafts' : DraftsOk with_edit changed
        drafts' o a b =
            redraft_case (λ x. x ≡ Some b → (p : ℕ) × (changed o p ≡ Some (draft_slot a b))) h u r (on_some f) rd is o a
            (λ y z e. (let g = on_some_some f (draft h u r) b e in
            let s = inv.drafts u r g.0 g.1 in (
              s.0,
              cc (s.1, g.2, and_from (eqb o u) (eqb r r) (eq-eqb o u y) (eq-eqb r r refl)),
            )))
            (λ n e. (let s = inv.drafts o a b e in (
              s.0,
              ap (on_some (edited u r f o)) s.1
                  ∙ cond_both (eqb o u && eqb a r) (draft_slot a (f b)) (draft_slot a b) (λ x. Some x ≡ Some (draft_slot a b))
                  (λ t. (let q = and_parts (eqb o u) (eqb a r) t in absurd (n (eqb-true o u q.0, eqb-true a r q.1)))) (λ _. refl),
            )))

  pub put_good : (c u r offset : ℕ) (bytes : List ℕ) → Good seen w.highest c k h (Put u r offset bytes) (put_step w u r offset bytes)
  put_good c u r offset bytes =
      put_cases (Good seen w.highest c k h (Put u r offset bytes)) w (λ _ _. inv) u r offset bytes
      (λ s e _. (let op = opened_here seen inv u s e in edit_good u r (written offset bytes) op.rd op.is))

  pub clear_good : (c u r : ℕ) → Good seen w.highest c k h (Clear u r) (clear_step w u r)
  clear_good c u r =
      clear_cases (Good seen w.highest c k h (Clear u r)) w (λ _ _. inv) u r (λ s e _. (let op = opened_here seen inv u s e in edit_good u r (λ b. blank) op.rd op.is))

  -- An abort.
  module _ (u : ℕ) where
    abbrev left : ℕ → ℕ → Option Slot
    left o p = undrafted u o (w.slot o p)

    abbrev without : ℕ → ℕ → Option Body
    without = draft (with_reader h u None)

    kept_in : (P : Stage → Type 0) → (P Draft → ⊥) → Carried P w.slot left
    kept_in P no' o p sl e x = (
      sl,
      subst (λ y. undrafted u o y ≡ Some sl) (sym e) (cond_both (eqb o u && is_draft sl.stage) None (Some sl) (λ y. y ≡ Some sl)
          (λ t. cc (no_draft sl.stage x, (and_parts (eqb o u) (is_draft sl.stage) t).1)) (λ _. refl)),
      refl,
      x,
    )
      where
        no_draft : (st : Stage) → P st → is_draft st ≡ false
        no_draft Draft x = absurd (no' x)
        no_draft _ x = refl

    abort_inv : Inv seen (with_section (with_slots w left) u None) (with_reader h u None)
    abort_inv =
        new_slots seen inv _ w.oldest left _ slots' drafts'
        (carry_cover h.entries w.master w.watermark w.slot left (λ v. kept_in (HasVersion v) (λ x. x)) inv.cover)
        (put_match seen (base (with_slots w left) h) w.section h.section u None None tt
        (keep_slots seen inv left (λ s v _. kept_in (KeptState s v) (λ x. x))))
      where
        parts : (o : ℕ) (x : Option Slot) (sl : Slot) → undrafted u o x ≡ Some sl → (x ≡ Some sl) × (is_draft sl.stage ≡ true → o ≡ u → ⊥)
        parts o x sl =
            cond_both (eqb o u && any_draft x) None x (λ y. y ≡ Some sl → (x ≡ Some sl) × (is_draft sl.stage ≡ true → o ≡ u → ⊥)) (λ t e. cc)
            (λ t e. (e, λ d y. cc (and_from (eqb o u) (any_draft x) (eq-eqb o u y) (ap any_draft e ∙ d))))

        slots' : SlotsOk h.entries w.master without left
        slots' o p sl e =
            let g = parts o (w.slot o p) sl e in
            let k = inv.slots o p sl g.0 in (
              k.0,
              k.1,
              k.2,
              carry_state h.entries w.master (draft h) without o sl sl.stage
                  (λ d q. put_case (λ x. draft_in x sl.number ≡ Some sl.body) h.section u None o (λ y. absurd (g.1 d y)) (λ _. q)) k.3,
            )

        drafts' : DraftsOk without left
        drafts' o a b =
            put_case (λ x. draft_in x a ≡ Some b → (p : ℕ) × (left o p ≡ Some (draft_slot a b))) h.section u None o (λ _ e. cc)
            (λ n e. (let s = inv.drafts o a b e in (
              s.0,
              cond_both (eqb o u && any_draft (w.slot o s.0)) None (w.slot o s.0) (λ x. x ≡ Some (draft_slot a b))
                  (λ t. absurd (n (eqb-true o u (and_parts (eqb o u) (any_draft (w.slot o s.0)) t).0))) (λ _. s.1),
            )))

  pub abort_good : (c u : ℕ) → Good seen w.highest c k h (Abort u) (abort_step w u)
  abort_good c u = abort_cases (Good seen w.highest c k h (Abort u)) w (λ _ _. inv) u (λ _. abort_inv u)
