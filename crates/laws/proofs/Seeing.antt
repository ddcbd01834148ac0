-- The foremost version of a record within a limit: what the pick of the row of cells comes to.
use Rattle.std.proofs.Common.{◌≡◌, ℕ, ◌+◌, ◌*◌, ◌/◌, ◌%◌, ◌<◌, ◌≤◌, true, eqb, ◌⊎◌, List, length, get_or, Some, None, Option, sym, refl, ap, ◌∙◌, subst, inl, inr, ⊎_elim, zero-add, arith}
use Rattle.std.proofs.lemmas.Bool.{eq-eqb, eqb-true, cases_lt, lt-ltb, leb-true, le-leb, cond_both}
use Rattle.std.proofs.lemmas.Option.{cond_some}
use Rattle.std.proofs.lemmas.List.FromFn.{length-map-range_with_len, get_or-map-range_with_len}
use Rattle.order.specs.Kinds.{PlaceBefore, CandidateBefore}
use Rattle.order.specs.declared.candidate.Candidate.{Candidate}
use Rattle.order.specs.declared.candidate.Place.{Place}
use Rattle.order.proofs.Picks.{candidate_member, candidate_first, candidate_none}
use Rattle.model.specs.declared.slot.Stage.{Stage}
use Rattle.model.specs.declared.slot.Stage.TheVariants.{Draft, Live, Retired}
use Rattle.model.specs.declared.slot.Slot.{Slot}
use Rattle.model.specs.declared.slot.Hold.TheVariants.{OnMaster, OnSlot}
use Rattle.model.specs.Worlds.{World, master_entry}
use Rattle.model.specs.Versions.{place_of, within, if_within, stage_shows, slot_shows, cell, row, foremost, Seen, body_in, seen_at, seen_as}
use Rattle.laws.proofs.Basics.{option_case, HasVersion, age_of}
use Rattle.laws.proofs.Invariant.{SlotWith}
use Rattle.order.specs.Order.{In as InRow}
use Rattle.order.specs.declared.candidate.Place.TheVariants as place

abbrev pub Within : Option ℕ → ℕ → Type 0
Within None v = Unit {0}
Within (Some s) v = v ≤ s

abbrev pub of_master : World → ℕ → Seen
of_master w r = record { hold = OnMaster r; entry = master_entry w r }

-- c is the version of r in a slot, and above the master's
pub record InSlot (w : World) (r : ℕ) (limit : Option ℕ) (c : Seen) : Type 0 where
  pub at : SlotWith w.slot r c.entry.version
  pub hold : c.hold ≡ OnSlot at.o at.p
  pub body : c.entry.body ≡ at.sl.body
  pub low : Within limit c.entry.version
  pub over : (w.master r).version < c.entry.version

-- c is the master's version of r or one in a slot above it, and none within the limit is higher
pub record Highest (w : World) (r : ℕ) (limit : Option ℕ) (c : Seen) : Type 0 where
  pub one : (c ≡ of_master w r) ⊎ InSlot w r limit c
  pub over_master : (w.master r).version ≤ c.entry.version
  pub over_slots : (v : ℕ) → SlotWith w.slot r v → Within limit v → v ≤ c.entry.version

-- What a cell shows.

within_low : (limit : Option ℕ) (v : ℕ) → within limit v ≡ true → Within limit v
within_low None v e = tt
within_low (Some s) v e = leb-true v s e

low_within : (limit : Option ℕ) (v : ℕ) → Within limit v → within limit v ≡ true
low_within None v h = refl
low_within (Some s) v h = le-leb v s h

record ShowsSlot (r : ℕ) (limit : Option ℕ) (p : Place) (o : Option Slot) (x : Candidate) : Type 0 where
  sl : Slot
  there : o ≡ Some sl
  number : sl.number ≡ r
  version : HasVersion x.version sl.stage
  low : Within limit x.version
  place : x.place ≡ p

shows : (r : ℕ) (limit : Option ℕ) (p : Place) (o : Option Slot) (x : Candidate) → slot_shows r limit p o ≡ Some x → ShowsSlot r limit p o x
shows r limit p None x e = cc
shows r limit p (Some sl) x e₀ =
    cond_both (eqb sl.number r) (stage_shows limit p sl.stage) None (λ o. o ≡ Some x → ShowsSlot r limit p (Some sl) x)
    (λ t e. at_stage sl.stage refl (eqb-true sl.number r t) e) (λ _ e. cc) e₀
  where
    at_version : (v : ℕ) → HasVersion v sl.stage → sl.number ≡ r → if_within limit v p ≡ Some x → ShowsSlot r limit p (Some sl) x
    at_version v has f e =
        let c = cond_some (within limit v) (record { version = v; place = p }) x e in
        let same : v ≡ x.version = ap (λ (y : Candidate). y.version) c.1 in
        record { sl = sl; there = refl; number = f; version = subst (λ y. HasVersion y sl.stage) same has; low = subst (Within limit) same (within_low limit v c.0); place = sym (ap (λ (y : Candidate). y.place) c.1) }

    at_stage : (st : Stage) → sl.stage ≡ st → sl.number ≡ r → stage_shows limit p st ≡ Some x → ShowsSlot r limit p (Some sl) x
    at_stage Draft q f e = cc
    at_stage (Live v) q f e = at_version v (subst (HasVersion v) (sym q) refl) f e
    at_stage (Retired v t) q f e = at_version v (subst (HasVersion v) (sym q) refl) f e

shown_is : (r : ℕ) (limit : Option ℕ) (p : Place) (sl : Slot) (v : ℕ) → sl.number ≡ r → HasVersion v sl.stage → Within limit v
    → slot_shows r limit p (Some sl) ≡ Some (record { version = v; place = p })
shown_is r limit p sl v f hv le = rw (eq-eqb sl.number r f) (go sl.stage hv)
  where
    go : (st : Stage) → HasVersion v st → stage_shows limit p st ≡ Some (record { version = v; place = p })
    go Draft h = absurd h
    go (Live x) h = rw (h, low_within limit v le) refl
    go (Retired x t) h = rw (h, low_within limit v le) refl

-- The pick.

module _ (w : World) (r : ℕ) (limit : Option ℕ) (master_low : Within limit (w.master r).version)
    (bounded : (o p : ℕ) (sl : Slot) → w.slot o p ≡ Some sl → (o < 8) × (p < 8)) where
  abbrev cell_at : ℕ → Option Candidate
  cell_at = cell w.slot w.oldest w.master r limit

  abbrev line : List (Option Candidate)
  line = row w.slot w.oldest w.master r limit

  long : length line ≡ 65
  long = length-map-range_with_len cell_at 0 65

  reads : (k : ℕ) → k < 65 → get_or line k None ≡ cell_at k
  reads k lt = get_or-map-range_with_len cell_at 0 65 k k None lt (zero-add k)

  stands : (k : ℕ) (y : Candidate) → k < 65 → cell_at k ≡ Some y → InRow line y
  stands k y lt e = (k, omega (arith, long), reads k lt ∙ e)

  abbrev mine : Candidate
  mine = record { version = (w.master r).version; place = place.Master }

  cell_master : cell_at 64 ≡ Some mine
  cell_master = rw (low_within limit (w.master r).version master_low) refl

  module _ (x : Candidate) (e : foremost w.slot w.oldest w.master r limit ≡ Some x) where
    not_before : (k : ℕ) (y : Candidate) → k < 65 → cell_at k ≡ Some y → CandidateBefore y x → ⊥
    unfolding foremost
    not_before k y lt c = candidate_first line x e y (stands k y lt c)

    no_newer : (k : ℕ) (y : Candidate) → k < 65 → cell_at k ≡ Some y → y.version ≤ x.version
    no_newer k y lt c = ⊎_elim (λ l. absurd (not_before k y lt c (inl l))) (λ (ge : y.version ≤ x.version). ge) (cases_lt x.version y.version)

    above_master : (w.master r).version ≤ x.version
    above_master = no_newer 64 mine (omega arith) cell_master

    slot_above : (u a : ℕ) → x.place ≡ place.Slot u a → (w.master r).version < x.version
    slot_above u a q =
        ⊎_elim (λ (l : (w.master r).version < x.version). l)
        (λ ge. absurd (not_before 64 mine (omega arith) cell_master (inr (omega (arith, above_master), subst (PlaceBefore place.Master) (sym q) tt)))) (cases_lt (w.master r).version x.version)

    above_slots : (v : ℕ) → SlotWith w.slot r v → Within limit v → v ≤ x.version
    above_slots v c low =
        let fits = bounded c.o c.p c.sl c.there in
        let age = age_of (w.oldest c.o) c.p fits.1 in
        let k = c.o * 8 + age.0 in
        let e₁ : k / 8 ≡ c.o = omega arith in
        let e₂ : k % 8 ≡ age.0 = omega arith in
        let lt : k < 64 = omega arith in
        let e₃ : place_of (w.oldest (k / 8)) (k % 8) ≡ c.p = cc in
        let there : w.slot (k / 8) (place_of (w.oldest (k / 8)) (k % 8)) ≡ Some c.sl = cc in
        no_newer k (record { version = v; place = place.Slot (k / 8) (k % 8) }) (omega arith)
        (rw (lt-ltb k 64 lt, there) (shown_is r limit (place.Slot (k / 8) (k % 8)) c.sl v c.number c.version low))

    at_master : x ≡ mine → Highest w r limit (seen_as w r (Some x))
    at_master q =
        subst (λ y. Highest w r limit (seen_as w r (Some y))) (sym q)
        (record { one = inl refl; over_master = omega arith; over_slots = λ v c low. subst (λ (y : Candidate). v ≤ y.version) q (above_slots v c low) })

    at_slot : (k : ℕ) → ShowsSlot r limit (place.Slot (k / 8) (k % 8)) (w.slot (k / 8) (place_of (w.oldest (k / 8)) (k % 8))) x → Highest w r limit (seen_as w r (Some x))
    at_slot k sh =
        subst (λ y. Highest w r limit (seen_at w r x.version y)) (sym sh.place)
        (record {
          one = inr (record {
            at = record { o = k / 8; p = place_of (w.oldest (k / 8)) (k % 8); sl = sh.sl; there = sh.there; number = sh.number; version = sh.version };
            hold = refl;
            body = ap body_in sh.there;
            low = sh.low;
            over = slot_above (k / 8) (k % 8) sh.place;
          });
          over_master = above_master;
          over_slots = above_slots;
        })

    in_cell : (k : ℕ) → k < 65 → cell_at k ≡ Some x → Highest w r limit (seen_as w r (Some x))
    in_cell k lt c =
        ⊎_elim (λ l. at_slot k (shows r limit (place.Slot (k / 8) (k % 8)) (w.slot (k / 8) (place_of (w.oldest (k / 8)) (k % 8))) x (rw (lt-ltb k 64 l) at c)))
        (λ ge. at_master (let last : k ≡ 64 = omega arith in cc cell_master)) (cases_lt k 64)

    found : Highest w r limit (seen_as w r (Some x))
    unfolding foremost
    found = let i = candidate_member line x e in let lt : i.0 < 65 = omega (arith, long) in in_cell i.0 lt (sym (reads i.0 lt) ∙ i.2)

  never_none : foremost w.slot w.oldest w.master r limit ≡ None → ⊥
  unfolding foremost
  never_none e = candidate_none line e mine (stands 64 mine (omega arith) cell_master)

  pub look : Highest w r limit (seen_as w r (foremost w.slot w.oldest w.master r limit))
  look = option_case (λ o. Highest w r limit (seen_as w r o)) (foremost w.slot w.oldest w.master r limit) (λ e. absurd (never_none e)) (λ x e. found x e)
