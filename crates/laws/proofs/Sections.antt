-- The turns that change sections, the watermark and the tick only: open, find, take, survey, tick.
use Rattle.std.proofs.Common.{◌≡◌, ℕ, ◌<◌, ◌≤◌, cond, List, map, Some, None, Option, sym, refl, ap, ◌∙◌, subst, inl, inr, ⊎_elim, zero-add, arith}
use Rattle.std.specs.List.{range_with_len}
use Rattle.std.proofs.lemmas.Bool.{cases_lt}
use Rattle.std.proofs.lemmas.Option.{same_Some}
use mathlib.Core.Path.{subst₂}
use Rattle.std.proofs.lemmas.List.FromFn.{length-map-range_with_len, get_or-map-range_with_len}
use Rattle.order.specs.declared.open_section.OpenSection.{OpenSection}
use Rattle.order.proofs.Picks.{open_section_member, open_section_first, open_section_none}
use Rattle.model.specs.declared.body.Body.{Body}
use Rattle.model.specs.declared.slot.Hold.{Hold}
use Rattle.model.specs.declared.slot.Hold.TheVariants.{OnSlot}
use Rattle.model.specs.Tools.{put, on_some}
use Rattle.model.specs.Worlds.{Entry, Section, World, with_highest, with_tick, with_watermark}
use Rattle.model.specs.Calls.{Open, Find, Take, Survey, Tick, done}
use Rattle.model.specs.Versions.{place_of, opened_as, first_opened, visible}
use Rattle.model.specs.Steps.{gives, fresh, open_step, holding, find_step, take_step, lowest_of, lowest, survey_step}
use Rattle.model.specs.History.{opening, version_of, Reader, History, draft_in, with_reader, held_by, finding}
use Rattle.laws.proofs.Basics.{is_some_false, eq_case, option_case}
use Rattle.laws.proofs.Invariant.{HoldOk, base, SectionOk, Match, Inv, Good, Opened, opened_here, closed_here, carry_sections}
use Rattle.laws.proofs.Carrying.{same_drafts, put_match, carry_section, keep_sections, new_sections}
use Rattle.laws.proofs.Cases.{open_cases, find_cases, take_cases}
use Rattle.laws.proofs.Reading.{visible_is, visible_hold, draft_here}
use Rattle.order.specs.Order.{In as InRow}

module _ (seen : ℕ → ℕ → Entry) (w : World) (h : History) (inv : Inv seen w h) (k : ℕ) where
  pub open_good : (c u : ℕ) → u < 8 → ((r : ℕ) → seen k r ≡ (h.entries r).last) → Good seen w.highest c k h (Open u) (open_step w c u)
  open_good c u hu now =
      open_cases (Good seen w.highest c k h (Open u)) w (λ _ _. inv) c u (λ e le.
      new_sections seen inv c _ _ le (same_drafts h u (Some rd) (λ r. ap (λ q. draft_in q r) (sym (closed_here seen inv u (is_some_false (w.section u) e)))))
      (put_match seen (base (with_highest w c) h) w.section h.section u (Some (fresh c)) (Some rd) (mine le) (keep_sections seen inv c w.master w.slot le (λ _ _ _ _ _ _ _ _ z. z))))
    where
      rd : Reader
      rd = opening k

      mine : w.highest ≤ c → SectionOk seen (base (with_highest w c) h) u (fresh c) rd
      mine le =
          record {
            sees = record {
              user = hu;
              opening_low = omega arith;
              watermark_low = omega arith;
              seen_entry = λ r. inl (now r);
              seen_low = λ r. subst (λ x. x.version ≤ c) (sym (now r)) (omega (arith, (inv.ledgers r).bound));
              seen_last = λ r e z. inl (subst (λ x. e.version ≤ x.version) (sym (now r)) ((inv.ledgers r).newest e z));
            };
            holds = λ i r v q. cc;
          }

  -- a find of u in its section s: the hold i is now x, and of the record r at the version v if there is no own draft
  module _ (u : ℕ) (s : Section) (op : Opened seen w h u s) (i r v : ℕ) (x : Hold)
      (sees : op.rd.draft r ≡ None → (v ≡ (seen op.rd.opened_at r).version) × HoldOk w.master w.slot s.opening r v x) where
    found_hold : (d : Option Body) → op.rd.draft r ≡ d → (r' v' : ℕ) → held_by r v d ≡ version_of r' v'
        → (v' ≡ (seen op.rd.opened_at r').version) × HoldOk w.master w.slot s.opening r' v' x
    found_hold None q r' v' e =
        let a : r ≡ r' = cc in
        let b : v ≡ v' = cc in
        subst₂ (λ y z. (z ≡ (seen op.rd.opened_at y).version) × HoldOk w.master w.slot s.opening y z x) a b (sees q)
    found_hold (Some b) q r' v' e = cc

    found_section : SectionOk seen (base w h) u (record s { hold = put s.hold i x }) (finding i r v op.rd)
    found_section =
        record { sees = op.ok.sees; holds = here }
      where
        here : (j r' v' : ℕ) → put op.rd.hold i (held_by r v (op.rd.draft r)) j ≡ version_of r' v'
            → (v' ≡ (seen op.rd.opened_at r').version) × HoldOk w.master w.slot s.opening r' v' (put s.hold i x j)
        here j r' v' =
            eq_case (λ b. cond b (held_by r v (op.rd.draft r)) (op.rd.hold j) ≡ version_of r' v'
            → (v' ≡ (seen op.rd.opened_at r').version) × HoldOk w.master w.slot s.opening r' v' (cond b x (s.hold j))) j i
            (λ _. found_hold (op.rd.draft r) refl r' v') (λ _. op.ok.holds j r' v')

    found_good : Inv seen (holding w u s i x) (with_reader h u (on_some (finding i r v) (h.section u)))
    found_good =
        new_sections seen inv w.highest _ _ (omega arith) (same_drafts h u (on_some (finding i r v) (h.section u)) (keeps (h.section u)))
        (put_match seen (base w h) w.section h.section u (Some (record s { hold = put s.hold i x })) (on_some (finding i r v) (h.section u))
        (subst (λ y. Match seen (base w h) u (Some (record s { hold = put s.hold i x })) (on_some (finding i r v) y)) (sym op.is) found_section)
        inv.sections)
      where
        keeps : (q : Option Reader) (a : ℕ) → draft_in (on_some (finding i r v) q) a ≡ draft_in q a
        keeps None a = refl
        keeps (Some y) a = refl

  pub find_good : (c u i r : ℕ) → Good seen w.highest c k h (Find u i r) (find_step w u i r)
  find_good c u i r =
      find_cases (Good seen w.highest c k h (Find u i r)) w (λ _ _. inv) u i r
      (λ s e _ _. (let op = opened_here seen inv u s e in
      found_good u s op i r (visible w s.opening r).entry.version (visible w s.opening r).hold
      (λ _. (ap (λ y. y.version) (visible_is seen w h inv u s op.rd op.ok r), visible_hold seen w h inv u s op.rd op.ok r))))
      (λ s e j q _. (let op = opened_here seen inv u s e in
      let d = draft_here seen w h inv u r j q in
      found_good u s op i r 0 (OnSlot u (place_of (w.oldest u) j)) (λ n. cc (ap (λ y. draft_in y r) op.is, d.1))))

  pub take_good : (c u i offset count : ℕ) → Good seen w.highest c k h (Take u i offset count) (take_step w u i offset count)
  take_good c u i offset count = take_cases (Good seen w.highest c k h (Take u i offset count)) w (λ _ _. inv) u i offset count (λ _ _ _ _ _. inv)

-- The lowest opening stamp.

abbrev opened_row : (ℕ → Option Section) → List (Option OpenSection)
opened_row sections = map (λ u. opened_as u (sections u)) (range_with_len 0 8)

-- the open section that is picked
first_is : (sections : ℕ → Option Section) (m : OpenSection) → first_opened sections ≡ Some m → (u : ℕ) × (s : Section) × (sections u ≡ Some s) × (s.opening ≡ m.stamp)
unfolding first_opened
first_is sections m e =
    let i = open_section_member (opened_row sections) m e in
    let lt : i.0 < 8 = omega (arith, length-map-range_with_len f 0 8) in
    option_case (λ o. opened_as i.0 o ≡ Some m → (u : ℕ) × (s : Section) × (sections u ≡ Some s) × (s.opening ≡ m.stamp)) (sections i.0) (λ _ k. cc)
    (λ s q k. (i.0, s, q, ap (λ (y : OpenSection). y.stamp) (same_Some (record { stamp = s.opening; user = i.0 }) m k)))
    (sym (get_or-map-range_with_len f 0 8 i.0 i.0 None lt (zero-add i.0)) ∙ i.2)
  where
    f : ℕ → Option OpenSection
    f u = opened_as u (sections u)

-- an open section stands in the row
in_row : (sections : ℕ → Option Section) (u : ℕ) (s : Section) → u < 8 → sections u ≡ Some s → InRow (opened_row sections) (record { stamp = s.opening; user = u })
in_row sections u s lt e =
    (u, omega (arith, length-map-range_with_len (λ u. opened_as u (sections u)) 0 8), get_or-map-range_with_len (λ u. opened_as u (sections u)) 0 8 u u None lt (zero-add u) ∙ ap (opened_as u) e)

first_below : (sections : ℕ → Option Section) (m : OpenSection) → first_opened sections ≡ Some m → (u : ℕ) (s : Section) → u < 8 → sections u ≡ Some s → m.stamp ≤ s.opening
unfolding first_opened
first_below sections m e u s lt q =
    ⊎_elim (λ l. absurd (open_section_first (opened_row sections) m e (record { stamp = s.opening; user = u }) (in_row sections u s lt q) (inl l)))
    (λ (ge : m.stamp ≤ s.opening). ge) (cases_lt s.opening m.stamp)

none_first : (sections : ℕ → Option Section) → first_opened sections ≡ None → (u : ℕ) (s : Section) → u < 8 → sections u ≡ Some s → ⊥
unfolding first_opened
none_first sections e u s lt q = open_section_none (opened_row sections) e (record { stamp = s.opening; user = u }) (in_row sections u s lt q)

-- what the highest and all openings have, the lowest has
lowest_is : (P : ℕ → Type 0) (w : World) → P w.highest → ((u : ℕ) (s : Section) → w.section u ≡ Some s → P s.opening) → P (lowest w)
lowest_is P w p f =
    option_case (λ o. P (lowest_of w.highest o)) (first_opened w.section) (λ _. p)
    (λ m e. (let i = first_is w.section m e in subst P i.3 (f i.0 i.1 i.2)))

lowest_below : (w : World) (u : ℕ) (s : Section) → u < 8 → w.section u ≡ Some s → lowest w ≤ s.opening
lowest_below w u s lt q =
    option_case (λ o. lowest_of w.highest o ≤ s.opening) (first_opened w.section) (λ e. absurd (none_first w.section e u s lt q))
    (λ m e. first_below w.section m e u s lt q)

module _ (seen : ℕ → ℕ → Entry) (w : World) (h : History) (inv : Inv seen w h) (k : ℕ) where
  pub survey_good : (c : ℕ) → Good seen w.highest c k h Survey (survey_step w)
  unfolding survey_step
  survey_good c _ =
      record {
        ledgers = inv.ledgers;
        watermark_low = lowest_is (λ x. x ≤ w.highest) w (omega arith) (λ u s e. (opened_here seen inv u s e).ok.opening_low);
        masters = λ r. record { is_entry = (inv.masters r).is_entry; low = omega (arith, (inv.masters r).low, up) };
        slots = inv.slots;
        drafts = inv.drafts;
        cover = λ r e z. ⊎_elim (λ a. inl a) (⊎_elim (λ x. inr (inl x)) (λ n. inr (inr (n.0, n.1, n.2, omega (arith, up))))) (inv.cover r e z);
        sections = carry_sections seen inv (base (with_watermark w (lowest w)) h) (λ u s rd e ok.
            carry_section seen _ ok ok.opening_low (lowest_below w u s ok.user e) (λ r e z. z) (λ r e z. inl z) (λ r v y _ z. z));
      }
    where
      up : w.watermark ≤ lowest w
      up = lowest_is (λ x. w.watermark ≤ x) w inv.watermark_low (λ u s e. (opened_here seen inv u s e).ok.watermark_low)

  pub tick_good : (c t : ℕ) → Good seen w.highest c k h (Tick t) (gives (with_tick w t) done)
  tick_good c t _ =
      record {
        ledgers = inv.ledgers;
        watermark_low = inv.watermark_low;
        masters = inv.masters;
        slots = inv.slots;
        drafts = inv.drafts;
        cover = inv.cover;
        sections = inv.sections;
      }
