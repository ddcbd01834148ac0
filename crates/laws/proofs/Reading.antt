-- What a section sees, what a lock copies, and which drafts there are: the store finds what the history says.
use Rattle.std.proofs.Common.{◌≡◌, ℕ, ◌<◌, ◌≤◌, Bool, true, false, eqb, Some, None, Option, sym, refl, ap, subst, inl, inr, ⊎_elim, arith}
use Rattle.std.proofs.lemmas.Bool.{eq-eqb, eqb-true, and_parts}
use Rattle.model.specs.declared.body.Body.{Body}
use Rattle.model.specs.declared.slot.Stage.{Stage}
use Rattle.model.specs.declared.slot.Stage.TheVariants.{Draft, Live, Retired}
use Rattle.model.specs.declared.slot.Slot.{Slot}
use Rattle.model.specs.Tools.{is_some, least}
use Rattle.model.specs.Worlds.{Entry, Section, World}
use Rattle.model.specs.Versions.{place_of, Seen, visible, newest}
use Rattle.model.specs.Drafts.{is_draft, any_draft, draft_of, draft_age, has_draft, has_drafts}
use Rattle.model.specs.History.{Reader, History, draft}
use Rattle.laws.proofs.Basics.{is_some_false, option_case, least_some, least_none, HasVersion, age_of}
use Rattle.laws.proofs.Invariant.{entry, Ent, Ledger, StateAt, draft_slot, KeptState, HoldOk, base, SectionOk, Inv}
use Rattle.laws.proofs.Seeing.{InSlot, Highest, look}

draft_is : (r : ℕ) (o : Option Slot) → draft_of r o ≡ true → (b : Body) × (o ≡ Some (draft_slot r b))
draft_is r None e = cc
draft_is r (Some sl) e =
    let f = and_parts (is_draft sl.stage) (eqb sl.number r) e in
    (sl.body, ap Some (same sl.stage refl f.0 (eqb-true sl.number r f.1)))
  where
    same : (st : Stage) → sl.stage ≡ st → is_draft st ≡ true → sl.number ≡ r → sl ≡ draft_slot r sl.body
    same Draft q t k = λ i. record { number = k i; body = sl.body; stage = q i }
    same (Live v) q t k = cc
    same (Retired v x) q t k = cc

module _ (seen : ℕ → ℕ → Entry) (w : World) (h : History) (inv : Inv seen w h) where
  -- a live or retired slot is an entry
  pub slot_entry : (o p : ℕ) (sl : Slot) (v : ℕ) → w.slot o p ≡ Some sl → HasVersion v sl.stage → Ent (h.entries sl.number) (entry v sl.body)
  slot_entry o p sl v e hv = go sl.stage (inv.slots o p sl e).3 hv
    where
      go : (st : Stage) → StateAt h.entries w.master (draft h) o sl st → HasVersion v st → Ent (h.entries sl.number) (entry v sl.body)
      go Draft k q = absurd q
      go (Live x) k q = inl cc
      go (Retired x t) k q = subst (λ y. Ent (h.entries sl.number) (entry y sl.body)) q k.0

  -- what is seen of a record is an entry
  seen_entry : (r : ℕ) (limit : Option ℕ) (c : Seen) → Highest w r limit c → Ent (h.entries r) c.entry
  seen_entry r limit c f =
      ⊎_elim (λ q. subst (λ x. Ent (h.entries r) x.entry) (sym q) (inv.masters r).is_entry)
      (λ i. subst (λ q. Ent (h.entries q) c.entry) i.at.number
      (subst (λ b. Ent (h.entries i.at.sl.number) (entry c.entry.version b)) (sym i.body) (slot_entry i.at.o i.at.p i.at.sl c.entry.version i.at.there i.at.version))) f.one

  bounded : (o p : ℕ) (sl : Slot) → w.slot o p ≡ Some sl → (o < 8) × (p < 8)
  bounded o p sl e = ((inv.slots o p sl e).0, (inv.slots o p sl e).1)

  -- the newest version is the last entry
  pub newest_is : (r : ℕ) → (newest w r).entry ≡ (h.entries r).last
  newest_is r = led.unique c.entry last ent (inl refl) (omega (arith, low, high))
    where
      c : Seen
      c = newest w r

      last : Entry
      last = (h.entries r).last

      led : Ledger (h.entries r) w.highest
      led = inv.ledgers r

      f : Highest w r None c
      f = look w r None tt bounded

      ent : Ent (h.entries r) c.entry
      ent = seen_entry r None c f

      low : c.entry.version ≤ last.version
      low = led.newest c.entry ent

      high : last.version ≤ c.entry.version
      high = elim (inv.cover r last (inl refl)) [
        | inl m ↦ omega (arith, f.over_master)
        | inr (inl s) ↦ f.over_slots last.version s tt
        | inr (inr n) ↦ omega (arith, led.newest n.0 n.1)
      ]

  module _ (u : ℕ) (s : Section) (rd : Reader) (ok : SectionOk seen (base w h) u s rd) (r : ℕ) where
    sees : Highest w r (Some s.opening) (visible w s.opening r)
    sees = look w r (Some s.opening) (omega (arith, (inv.masters r).low)) bounded

    sees_entry : Ent (h.entries r) (visible w s.opening r).entry
    sees_entry = seen_entry r (Some s.opening) (visible w s.opening r) sees

    sees_low : (visible w s.opening r).entry.version ≤ s.opening
    sees_low =
        ⊎_elim (λ q. subst (λ x. x.entry.version ≤ s.opening) (sym q) (omega (arith, (inv.masters r).low)))
        (λ i. i.low) sees.one

    sees_version : (visible w s.opening r).entry.version ≡ (seen rd.opened_at r).version
    sees_version = omega (arith, low, high)
      where
        low : (visible w s.opening r).entry.version ≤ (seen rd.opened_at r).version
        low = ⊎_elim (λ a. a) (λ b. omega (arith, sees_low)) (ok.seen_last r (visible w s.opening r).entry sees_entry)

        high : (seen rd.opened_at r).version ≤ (visible w s.opening r).entry.version
        high = elim (inv.cover r (seen rd.opened_at r) (ok.seen_entry r)) [
          | inl m ↦ omega (arith, sees.over_master)
          | inr (inl k) ↦ sees.over_slots (seen rd.opened_at r).version k (ok.seen_low r)
          | inr (inr n) ↦ ⊎_elim (λ a. omega arith) (λ b. omega arith) (ok.seen_last r n.0 n.1)
        ]

    -- what a section sees is the last entry of the history at its opening
    pub visible_is : (visible w s.opening r).entry ≡ seen rd.opened_at r
    visible_is = (inv.ledgers r).unique (visible w s.opening r).entry (seen rd.opened_at r) sees_entry (ok.seen_entry r) sees_version

    pub visible_hold : HoldOk w.master w.slot s.opening r (visible w s.opening r).entry.version (visible w s.opening r).hold
    visible_hold = ⊎_elim (λ q. subst (λ x. HoldOk w.master w.slot s.opening r x.entry.version x.hold) (sym q) (refl, refl)) other sees.one
      where
        c : Seen
        c = visible w s.opening r

        kept : (o : ℕ) (sl : Slot) → sl.number ≡ r → (w.master r).version < c.entry.version → (st : Stage)
            → StateAt h.entries w.master (draft h) o sl st → HasVersion c.entry.version st → KeptState s.opening c.entry.version st
        kept o sl of lt Draft k q = absurd q
        kept o sl of lt (Live x) k q = q
        kept o sl of lt (Retired x t) k q = (
          q,
          ⊎_elim (λ a. let b : x ≤ (w.master r).version = subst (λ y. x ≤ (w.master y).version) of a in omega arith)
              (λ n. ⊎_elim (λ a. omega (arith, sees_version)) (λ b. omega arith)
              (ok.seen_last r n.0 (subst (λ y. Ent (h.entries y) n.0) of n.1))) k.1,
        )

        other : InSlot w r (Some s.opening) c → HoldOk w.master w.slot s.opening r c.entry.version c.hold
        other i =
            subst (HoldOk w.master w.slot s.opening r c.entry.version) (sym i.hold)
            (i.at.sl, i.at.there, i.at.number, kept i.at.o i.at.sl i.at.number i.over i.at.sl.stage (inv.slots i.at.o i.at.p i.at.sl i.at.there).3 i.at.version)

  -- Drafts.

  pub draft_here : (u r i : ℕ) → draft_age (w.slot u) (w.oldest u) r ≡ Some i → (b : Body) × (draft h u r ≡ Some b) × (w.slot u (place_of (w.oldest u) i) ≡ Some (draft_slot r b))
  draft_here u r i e =
      let l = least_some 8 (λ j. draft_of r (w.slot u (place_of (w.oldest u) j))) i e in
      let d = draft_is r (w.slot u (place_of (w.oldest u) i)) l.1 in
      (d.0, (inv.slots u (place_of (w.oldest u) i) (draft_slot r d.0) d.1).3, d.1)

  -- a slot at any place is met at its age
  at_age : (u p : ℕ) (sl : Slot) → w.slot u p ≡ Some sl → (test : Option Slot → Bool) → least 8 (λ i. test (w.slot u (place_of (w.oldest u) i))) ≡ None → test (Some sl) ≡ false
  at_age u p sl e test n =
      let a = age_of (w.oldest u) p (inv.slots u p sl e).1 in
      subst (λ x. test x ≡ false) e (subst (λ q. test (w.slot u q) ≡ false) a.2 (least_none 8 (λ i. test (w.slot u (place_of (w.oldest u) i))) n a.0 a.1))

  -- where no slot of u's log passes a test that drafts of r pass, u has no draft of r
  none_here : (u r : ℕ) (test : Option Slot → Bool) → ((b : Body) → test (Some (draft_slot r b)) ≡ true) → least 8 (λ i. test (w.slot u (place_of (w.oldest u) i))) ≡ None → draft h u r ≡ None
  none_here u r test passes n = option_case (λ d. d ≡ None) (draft h u r) (λ _. refl) (λ b q. (let k = inv.drafts u r b q in cc (passes b, at_age u k.0 (draft_slot r b) k.1 test n)))

  pub no_draft_here : (u r : ℕ) → draft_age (w.slot u) (w.oldest u) r ≡ None → draft h u r ≡ None
  no_draft_here u r = none_here u r (draft_of r) (λ b. eq-eqb r r refl)

  pub no_drafts_here : (u : ℕ) → has_drafts (w.slot u) (w.oldest u) ≡ false → (r : ℕ) → draft h u r ≡ None
  no_drafts_here u e r = none_here u r any_draft (λ b. refl) (is_some_false (least 8 (λ i. any_draft (w.slot u (place_of (w.oldest u) i)))) e)

  -- the store says that u has a draft of r exactly when the history does
  pub has_draft_is : (u r : ℕ) → has_draft (w.slot u) (w.oldest u) r ≡ is_some (draft h u r)
  has_draft_is u r =
      option_case (λ o. is_some o ≡ is_some (draft h u r)) (draft_age (w.slot u) (w.oldest u) r)
      (λ e. ap is_some (sym (no_draft_here u r e))) (λ i e. ap is_some (sym (draft_here u r i e).1))
