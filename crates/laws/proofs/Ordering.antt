-- Logs in order: what each call makes of a log is again a ring.
use Rattle.std.proofs.Common.{◌≡◌, ℕ, suc, ◌-◌, ◌<◌, ◌≤◌, Bool, true, false, cond, not, ◌&&◌, ltb, leb, List, Some, None, Option, sym, refl, ap, ◌∙◌, subst, ⊎_elim, arith}
use Rattle.std.proofs.lemmas.Bool.{cases_lt, ltb-true, ltb-false, lt-ltb, le-ltb, le-leb, lt-leb, and_from, and_left, and_right, not-true, not-false, not_from_true, not_from_false, cond_both}
use Rattle.interfaces.specs.Homes.{Meaning}
use Rattle.model.specs.declared.door.Door.{Door}
use Rattle.model.specs.declared.body.Body.{Body}
use Rattle.model.specs.declared.slot.Stage.{Stage}
use Rattle.model.specs.declared.slot.Stage.TheVariants.{Draft, Live, Retired}
use Rattle.model.specs.declared.slot.Slot.{Slot}
use Rattle.model.specs.declared.refusal.Refusal.{Refusal}
use Rattle.model.specs.Tools.{put, on_some, is_some}
use Rattle.model.specs.Worlds.{World, first_hour, written, blank, put_slot}
use Rattle.model.specs.Calls.{Call, Open, Find, Take, Lock, Put, Clear, Commit, Abort, Collect, Turn}
use Rattle.model.specs.Versions.{place_of, newest}
use Rattle.model.specs.Drafts.{is_draft, any_draft, has_draft, free_age, edited, settled_stage, settled}
use Rattle.model.specs.Steps.{Outcome, refuse, edit, settle, survey_step, oldest_place, own_step, step}
use Rattle.laws.specs.Runs.{Turned, Reached, begun, turned}
use Rattle.laws.specs.Laws.{Ring, LogsInOrder}
use Rattle.laws.specs.Theorems.{OfEveryWorld}
use Rattle.laws.proofs.Basics.{eq_case, bool_case, option_case, put_case, edited_same, least_some}
use Rattle.laws.proofs.Cases.{step_cases, open_cases, find_cases, take_cases, lock_cases, put_cases, clear_cases, commit_cases, abort_cases, collect_cases}
use Rattle.laws.proofs.Invariant.{draft_slot}

-- two tests that come out alike
leb_same : (a b c d : ℕ) → (a ≤ b → c ≤ d) → (b < a → d < c) → leb a b ≡ leb c d
leb_same a b c d f g = ⊎_elim (λ h. lt-leb a b h ∙ sym (lt-leb c d (g h))) (λ h. le-leb a b h ∙ sym (le-leb c d (f h))) (cases_lt b a)

-- the ages below 8 have places of their own
one_age : (first i j : ℕ) → i < 8 → j < 8 → place_of first i ≡ place_of first j → i ≡ j
one_age first i j hi hj e = omega arith

module _ (slots : ℕ → Option Slot) (first : ℕ) (r : Ring slots first) where
  -- Each place is used as before, by a draft or not as before.
  same_ring : (slots' : ℕ → Option Slot) → ((p : ℕ) → is_some (slots' p) ≡ is_some (slots p)) → ((p : ℕ) → any_draft (slots' p) ≡ any_draft (slots p)) → Ring slots' first
  same_ring slots' f g =
      record {
        versions = r.versions;
        used = r.used;
        fits = r.fits;
        in_a_row = λ i h. f (place_of first i) ∙ r.in_a_row i h;
        drafts_last = λ i h. g (place_of first i) ∙ r.drafts_last i h;
      }

  over_ring : (p : ℕ) (sl new : Slot) → slots p ≡ Some sl → is_draft sl.stage ≡ is_draft new.stage → Ring (put slots p (Some new)) first
  over_ring p sl new e d =
      same_ring (put slots p (Some new))
      (λ q. put_case (λ x. is_some x ≡ is_some (slots q)) slots p (Some new) q (λ z. cc) (λ _. refl))
      (λ q. put_case (λ x. any_draft x ≡ any_draft (slots q)) slots p (Some new) q (λ z. cc) (λ _. refl))

  used_on : (f : Slot → Slot) (x : Option Slot) → is_some (on_some f x) ≡ is_some x
  used_on f None = refl
  used_on f (Some sl) = refl

  edited_ring : (f : Slot → Slot) → ((sl : Slot) → is_draft (f sl).stage ≡ is_draft sl.stage) → Ring (λ p. on_some f (slots p)) first
  edited_ring f same =
      same_ring (λ p. on_some f (slots p)) (λ p. used_on f (slots p))
      (λ p. option_case (λ x. any_draft (on_some f x) ≡ any_draft x) (slots p) (λ _. refl) (λ sl _. same sl))

  -- No draft is left.
  settled_ring : (f : Slot → Slot) → ((sl : Slot) → is_draft (f sl).stage ≡ false) → Ring (λ p. on_some f (slots p)) first
  settled_ring f no' =
      record {
        versions = r.used;
        used = r.used;
        fits = (omega arith, r.fits.1);
        in_a_row = λ i h. used_on f (slots (place_of first i)) ∙ r.in_a_row i h;
        drafts_last = λ i h. option_case (λ x. any_draft (on_some f x) ≡ false) (slots (place_of first i)) (λ _. refl) (λ sl _. no' sl) ∙ sym (lt-leb r.used i h);
      }

  -- A draft goes behind the newest slot.
  lock_ring : (i : ℕ) (sl : Slot) → is_draft sl.stage ≡ true → free_age slots first ≡ Some i → Ring (put slots (place_of first i) (Some sl)) first
  lock_ring i sl d e =
      record {
        versions = r.versions;
        used = suc r.used;
        fits = (omega arith, omega (arith, is, l.0));
        in_a_row = λ j h. put_case (λ x. is_some x ≡ ltb j (suc r.used)) slots (place_of first i) (Some sl) (place_of first j)
            (λ q. sym (lt-ltb j (suc r.used) (omega (arith, is, one_age first j i h l.0 q))))
            (λ n. (let ne = other j n in r.in_a_row j h ∙ leb_same (suc j) r.used (suc j) (suc r.used) (λ z. omega arith) (λ z. omega arith)));
        drafts_last = λ j h. put_case (λ x. any_draft x ≡ leb r.versions j) slots (place_of first i) (Some sl) (place_of first j)
            (λ q. d ∙ sym (le-leb r.versions j (omega (arith, is, one_age first j i (omega (arith, is, l.0)) l.0 q))))
            (λ n. r.drafts_last j (omega (arith, other j n)));
      }
    where
      free : ℕ → Bool
      free j = not (is_some (slots (place_of first j)))

      l : (i < 8) × (free i ≡ true) × ((j : ℕ) → j < i → free j ≡ false)
      l = least_some 8 free i e

      is : i ≡ r.used
      is =
          let above = ltb-false i r.used (sym (r.in_a_row i l.0) ∙ not-true (is_some (slots (place_of first i))) l.1) in
          ⊎_elim (λ h. (let k = r.used in
          let z = ltb-true k k (sym (r.in_a_row k (omega (arith, l.0))) ∙ not-false (is_some (slots (place_of first k))) (l.2 k h)) in
          absurd (omega arith))) (λ h. omega arith) (cases_lt r.used i)

      other : (j : ℕ) → (place_of first j ≡ place_of first i → ⊥) → j ≡ r.used → ⊥
      other j n q = n (ap (place_of first) (q ∙ sym is))

  -- The drafts leave.
  aborted_ring : Ring (λ p. cond (any_draft (slots p)) None (slots p)) first
  aborted_ring =
      record {
        versions = r.versions;
        used = r.versions;
        fits = (omega arith, omega arith);
        in_a_row = λ i h. left (slots (place_of first i)) ∙ ⊎_elim
            (λ z. and_from _ _ (r.in_a_row i h ∙ lt-ltb i r.used (omega arith))
            (not_from_false _ (r.drafts_last i (omega arith) ∙ lt-leb r.versions i z)) ∙ sym (lt-ltb i r.versions z))
            (λ z. ⊎_elim (λ y. and_right _ _ (not_from_true _ (r.drafts_last i y ∙ le-leb r.versions i z)))
            (λ y. and_left _ _ (r.in_a_row i h ∙ le-ltb i r.used y)) (cases_lt i r.used) ∙ sym (le-ltb i r.versions z))
            (cases_lt i r.versions);
        drafts_last = λ i h. no_draft (slots (place_of first i)) ∙ sym (lt-leb r.versions i h);
      }
    where
      left : (x : Option Slot) → is_some (cond (any_draft x) None x) ≡ is_some x && not (any_draft x)
      left None = refl
      left (Some sl) = bool_case (λ b. is_some (cond b None (Some sl)) ≡ not b) (is_draft sl.stage) (λ _. refl) (λ _. refl)

      no_draft : (x : Option Slot) → any_draft (cond (any_draft x) None x) ≡ false
      no_draft x = cond_both (any_draft x) None x (λ y. any_draft y ≡ false) (λ _. refl) (λ e. e)

  -- The oldest slot leaves.
  freed_ring : Ring (put slots (place_of first 0) None) (place_of first 1)
  freed_ring =
      record {
        versions = r.versions - 1;
        used = r.used - 1;
        fits = (omega arith, omega arith);
        in_a_row = λ i h. ⊎_elim
            (λ z. moved (λ x. is_some x ≡ ltb i (r.used - 1)) i z
            (r.in_a_row (suc i) (omega arith) ∙ leb_same (suc (suc i)) r.used (suc i) (r.used - 1) (λ y. omega arith) (λ y. omega arith)))
            (λ z. put_case (λ x. is_some x ≡ ltb i (r.used - 1)) slots (place_of first 0) None (place_of (place_of first 1) i)
            (λ _. sym (le-ltb i (r.used - 1) (omega arith))) (λ n. absurd (n (omega arith)))) (cases_lt i 7);
        drafts_last = λ i h. moved (λ x. any_draft x ≡ leb (r.versions - 1) i) i (omega arith)
            (r.drafts_last (suc i) (omega arith) ∙ leb_same r.versions (suc i) (r.versions - 1) i (λ y. omega arith) (λ y. omega arith));
      }
    where
      moved : (P : Option Slot → Type 0) (i : ℕ) → i < 7 → P (slots (place_of first (suc i))) → P (put slots (place_of first 0) None (place_of (place_of first 1) i))
      moved P i h k =
          put_case P slots (place_of first 0) None (place_of (place_of first 1) i) (λ z. absurd (omega arith))
          (λ _. (let q : place_of first (suc i) ≡ place_of (place_of first 1) i = omega arith in subst (λ y. P (slots y)) q k))

abbrev Rings : World → Type 0
Rings w = (u : ℕ) → Ring (w.slot u) (w.oldest u)

-- what is to show of an outcome
abbrev Stay : Outcome → Type 0
Stay out = Rings out.after

module _ (w : World) (rings : Rings w) where
  no : (why : Refusal) → Stay (refuse w why)
  no why = rings

  -- one log changes
  one_ring : (u p : ℕ) (s : Option Slot) → Ring (put (w.slot u) p s) (w.oldest u) → (o : ℕ) → Ring (put_slot w.slot u p s o) (w.oldest o)
  one_ring u p s r o =
      eq_case (λ b. Ring (cond b (put (w.slot u) p s) (w.slot o)) (w.oldest o)) o u
      (λ e. subst (λ y. Ring (put (w.slot u) p s) (w.oldest y)) (sym e) r) (λ _. rings o)

  edit_rings : (u r : ℕ) (f : Body → Body) → Stay (edit w u r f)
  edit_rings u r f o = edited_ring (w.slot o) (w.oldest o) (rings o) (edited u r f o) (λ sl. ap is_draft (edited_same u r f o sl).1)

  settle_rings : (u c o : ℕ) → Ring (settle w u c o) (w.oldest o)
  settle_rings u c o =
      eq_case (λ b. Ring (λ p. on_some (settled (w.slot u) (w.oldest u) b c) (w.slot o p)) (w.oldest o)) o u
      (λ _. settled_ring (w.slot o) (w.oldest o) (rings o) (settled (w.slot u) (w.oldest u) true c) (λ sl. own (has_draft (w.slot u) (w.oldest u) sl.number) sl.stage))
      (λ _. edited_ring (w.slot o) (w.oldest o) (rings o) (settled (w.slot u) (w.oldest u) false c) (λ sl. other (has_draft (w.slot u) (w.oldest u) sl.number) sl.stage))
    where
      own : (carried : Bool) (st : Stage) → is_draft (settled_stage true carried c st) ≡ false
      own carried Draft = refl
      own true (Live v) = refl
      own false (Live v) = refl
      own carried (Retired v t) = refl

      other : (carried : Bool) (st : Stage) → is_draft (settled_stage false carried c st) ≡ is_draft st
      other carried Draft = refl
      other true (Live v) = refl
      other false (Live v) = refl
      other carried (Retired v t) = refl

  own_step_rings : (c : ℕ) (call : Call) → Stay (own_step w c call)
  unfolding survey_step
  own_step_rings c (Open u) = open_cases Stay w no c u (λ _. rings)
  own_step_rings c (Find u i r) = find_cases Stay w no u i r (λ _ _ _. rings) (λ _ _ _ _. rings)
  own_step_rings c (Take u i offset count) = take_cases Stay w no u i offset count (λ _ _ _ _. rings)
  own_step_rings c (Lock u r) =
      lock_cases Stay w no u r
      (λ s i l. one_ring u (place_of (w.oldest u) i) _ (lock_ring (w.slot u) (w.oldest u) (rings u) i (draft_slot r (newest w r).entry.body) refl l.first_free)) (λ _ _ _ _. rings)
  own_step_rings c (Put u r offset bytes) = put_cases Stay w no u r offset bytes (λ _ _. edit_rings u r (written offset bytes))
  own_step_rings c (Clear u r) = clear_cases Stay w no u r (λ _ _. edit_rings u r (λ b. blank))
  own_step_rings c (Commit u) = commit_cases Stay w no c u (settle_rings u c) (λ _. rings)
  own_step_rings c (Abort u) =
      abort_cases Stay w no u (λ o.
      eq_case (λ b. Ring (λ p. cond (b && any_draft (w.slot o p)) None (w.slot o p)) (w.oldest o)) o u
      (λ _. aborted_ring (w.slot o) (w.oldest o) (rings o)) (λ _. rings o))
  own_step_rings c (Collect u) =
      collect_cases Stay w no c u (λ _. rings)
      (λ _ _ _ _ _ _ o. eq_case (λ b. Ring (cond b (put (w.slot u) (oldest_place w u) None) (w.slot o)) (cond b (place_of (w.oldest u) 1) (w.oldest o))) o u
      (λ _. freed_ring (w.slot u) (w.oldest u) (rings u)) (λ _. rings o))
      (λ sl e v q _ _. one_ring u (oldest_place w u) _ (over_ring (w.slot u) (w.oldest u) (rings u) (oldest_place w u) sl _ e (ap is_draft q)))
  own_step_rings c _ = rings

  step_rings : (c : ℕ) (d : Door) (call : Call) → Stay (step w c d call)
  step_rings c d call = step_cases Stay w no c d call (λ _. own_step_rings c call)

-- an empty log
empty_ring : (first : ℕ) → Ring (λ p. None) first
empty_ring first =
    record {
      versions = 0;
      used = 0;
      fits = (omega arith, omega arith);
      in_a_row = λ i _. sym (le-ltb i 0 (omega arith));
      drafts_last = λ i h. absurd (omega arith);
    }

turned_rings : (y z : World) (t : Turn) → Turned y t z → Rings y → Rings z
turned_rings y z t d rings = subst Rings d.leaves (step_rings y rings d.stamp t.door t.call)

reached_rings : {home : Meaning} {highest : ℕ} {ts : List Turn} {w : World} → Reached (first_hour home highest) ts w → Rings w
reached_rings begun = λ u. empty_ring 0
reached_rings (turned r d) = turned_rings _ _ _ d (reached_rings r)

pub logs_in_order : OfEveryWorld LogsInOrder
logs_in_order home highest ts w r u _ = reached_rings r u
