-- The cases of each call's step: refused with nothing changed, or done. What holds of each case holds of the step.
use Rattle.std.proofs.Common.{◌≡◌, ℕ, ◌<◌, ◌≤◌, Bool, true, false, not, leb, List, Some, None, Option, refl}
use Rattle.std.proofs.lemmas.Bool.{ltb-false, leb-true, leb-false, not-true, cond_both}
use Rattle.interfaces.specs.declared.fault.Fault.{Fault}
use Rattle.model.specs.declared.door.Door.{Door}
use Rattle.model.specs.declared.body.Body.{Body}
use Rattle.model.specs.declared.answer.Collected.{Collected}
use Rattle.model.specs.declared.answer.Collected.TheVariants.{Nothing, Waits, WrittenBack, Freed}
use Rattle.model.specs.declared.refusal.Refusal.{Refusal}
use Rattle.model.specs.declared.refusal.Refusal.TheVariants.{OtherDoor, NotOpen, NotServed, NoHold, NoDraft, LogFull, HomeRefused}
use Rattle.model.specs.declared.slot.Stage.{Stage}
use Rattle.model.specs.declared.slot.Stage.TheVariants.{Draft, Live, Retired}
use Rattle.model.specs.declared.slot.Slot.{Slot}
use Rattle.model.specs.Tools.{is_some}
use Rattle.model.specs.Worlds.{Section, World, served, part, written, blank, with_section, with_slots}
use Rattle.model.specs.Calls.{Call, opened, taken, done, committed, collected, foreign}
use Rattle.model.specs.Versions.{place_of, visible, newest}
use Rattle.model.specs.Drafts.{draft_age, has_draft, has_drafts, locked_by_other, free_age, undrafted}
use Rattle.model.specs.Steps.{a_mark, a_next, Outcome, gives, gives_by, refuse, unless, in_section, of_served, of_draft, unless_fault, fresh, open_step, find_version, find_draft, find_in, find_step, held, take_from, take_step, lock_at, lock_new, lock_step, edit, put_step, clear_step, settle, commit_drafts, commit_step, abort_step, oldest_place, freed, written_back, collect_stage, collect_slot, collect_step, own_step, step}
use Rattle.laws.proofs.Basics.{is_some_false, bool_case, option_case, least_some}
use Rattle.interfaces.specs.Homes as home

-- u's section s may lock r, of which no user has a draft; the draft then stands at the age i
pub record MayLock (w : World) (u r : ℕ) (s : Section) (i : ℕ) : Type 0 where
  pub open_section : w.section u ≡ Some s
  pub served_here : r < served w
  pub no_draft : draft_age (w.slot u) (w.oldest u) r ≡ None
  pub no_other : locked_by_other w.slot w.oldest u r ≡ false
  pub not_newer : (newest w r).entry.version ≤ s.opening
  pub first_free : free_age (w.slot u) (w.oldest u) ≡ Some i

-- the place of that age is free
pub free_here : {w : World} {u r : ℕ} {s : Section} {i : ℕ} → MayLock w u r s i → w.slot u (place_of (w.oldest u) i) ≡ None
free_here {w} {u} {r} {s} {i} l =
    is_some_false (w.slot u (place_of (w.oldest u) i)) (not-true _ (least_some 8 (λ j. not (is_some (w.slot u (place_of (w.oldest u) j)))) i l.first_free).1)

module _ (P : Outcome → Type 0) (w : World) (no : (why : Refusal) → P (refuse w why)) where
  unless_case : (b : Bool) (why : Refusal) (go : Outcome) → (b ≡ false → P go) → P (unless w b why go)
  unless_case true why go g = no why
  unless_case false why go g = g refl

  fault_case : (o : Option Fault) (go : Outcome) → (o ≡ None → P go) → P (unless_fault w o go)
  fault_case None go g = g refl
  fault_case (Some f) go g = no (HomeRefused f)

  section_case : (o : Option Section) (go : Section → Outcome) → ((s : Section) → o ≡ Some s → P (go s)) → P (in_section w o go)
  section_case None go g = no NotOpen
  section_case (Some s) go g = g s refl

  served_case : (r : ℕ) (go : Outcome) → (r < served w → P go) → P (of_served w r go)
  served_case r go g = unless_case (leb (served w) r) NotServed go (λ e. g (leb-false (served w) r e))

  draft_case : (u r : ℕ) (go : Outcome) → P go → P (of_draft w u r go)
  draft_case u r go g = unless_case (not (has_draft (w.slot u) (w.oldest u) r)) NoDraft go (λ _. g)

  pub step_cases : (c : ℕ) (d : Door) (call : Call) → (foreign d call ≡ false → P (own_step w c call)) → P (step w c d call)
  step_cases c d call go = unless_case (foreign d call) OtherDoor _ go

  pub open_cases : (c u : ℕ) → (is_some (w.section u) ≡ false → P (gives_by a_mark (with_section w u (Some (fresh c))) c (opened c))) → P (open_step w c u)
  unfolding open_step
  open_cases c u go = unless_case _ _ _ go

  pub find_cases : (u i r : ℕ)
      → ((s : Section) → w.section u ≡ Some s → draft_age (w.slot u) (w.oldest u) r ≡ None → P (find_version w u s i (visible w s.opening r)))
      → ((s : Section) → w.section u ≡ Some s → (j : ℕ) → draft_age (w.slot u) (w.oldest u) r ≡ Some j → P (find_draft w u s i (place_of (w.oldest u) j)))
      → P (find_step w u i r)
  unfolding find_step
  find_cases u i r version draft =
      section_case _ _ (λ s e. served_case r _ (λ _. unless_case _ _ _ (λ _.
      option_case (λ o. P (find_in w u s i r o)) (draft_age (w.slot u) (w.oldest u) r) (version s e) (draft s e))))

  pub take_cases : (u i offset count : ℕ)
      → ((s : Section) → w.section u ≡ Some s → (b : Body) → held w (s.hold i) ≡ Some b → P (gives w (taken (part offset count b.bytes))))
      → P (take_step w u i offset count)
  unfolding take_step
  take_cases u i offset count go =
      section_case _ _ (λ s e. unless_case _ _ _ (λ _.
      option_case (λ b. P (take_from w offset count b)) (held w (s.hold i)) (λ _. no NoHold) (λ b q. unless_case _ _ _ (λ _. go s e b q))))

  pub lock_cases : (u r : ℕ) → ((s : Section) (i : ℕ) → MayLock w u r s i → P (lock_at w u r (Some i)))
      → ((s : Section) → w.section u ≡ Some s → (j : ℕ) → draft_age (w.slot u) (w.oldest u) r ≡ Some j → P (gives w done))
      → P (lock_step w u r)
  unfolding lock_step
  lock_cases u r new again =
      section_case _ _ (λ s e. served_case r _ (λ lt.
      option_case (λ o. P (lock_new w u s r o)) (draft_age (w.slot u) (w.oldest u) r)
      (λ n. unless_case _ _ _ (λ a. unless_case _ _ _ (λ l.
      option_case (λ o. P (lock_at w u r o)) (free_age (w.slot u) (w.oldest u)) (λ _. no LogFull)
      (λ i f. new s i (record { open_section = e; served_here = lt; no_draft = n; no_other = a; not_newer = ltb-false s.opening (newest w r).entry.version l; first_free = f })))))
      (again s e)))

  pub put_cases : (u r offset : ℕ) (bytes : List ℕ) → ((s : Section) → w.section u ≡ Some s → P (edit w u r (written offset bytes))) → P (put_step w u r offset bytes)
  unfolding put_step
  put_cases u r offset bytes go = section_case _ _ (λ s e. served_case r _ (λ _. draft_case u r _ (unless_case _ _ _ (λ _. go s e))))

  pub clear_cases : (u r : ℕ) → ((s : Section) → w.section u ≡ Some s → P (edit w u r (λ b. blank))) → P (clear_step w u r)
  unfolding clear_step
  clear_cases u r go = section_case _ _ (λ s e. served_case r _ (λ _. draft_case u r _ (go s e)))

  pub commit_cases : (c u : ℕ) → P (gives_by a_next (with_section (with_slots w (settle w u c)) u None) c (committed c))
      → (has_drafts (w.slot u) (w.oldest u) ≡ false → P (gives (with_section w u None) (committed 0))) → P (commit_step w c u)
  unfolding commit_step
  commit_cases c u go idle =
      section_case _ _ (λ _ _. bool_case (λ b. P (commit_drafts w c u b)) (has_drafts (w.slot u) (w.oldest u)) (λ _. unless_case _ _ _ (λ _. go)) idle)

  pub abort_cases : (u : ℕ) → P (gives (with_section (with_slots w (λ o p. undrafted u o (w.slot o p))) u None) done) → P (abort_step w u)
  unfolding abort_step
  abort_cases u go = section_case _ _ (λ _ _. go)

  pub collect_cases : (c u : ℕ) → ((x : Collected) → P (gives w (collected x)))
      → ((sl : Slot) → w.slot u (oldest_place w u) ≡ Some sl → (v t : ℕ) → sl.stage ≡ Retired v t → t ≤ w.watermark → P (gives (freed w u) (collected Freed)))
      → ((sl : Slot) → w.slot u (oldest_place w u) ≡ Some sl → (v : ℕ) → sl.stage ≡ Live v → v ≤ w.watermark → home.write_fault w.home sl.number ≡ None
      → P (gives_by a_next (written_back w u sl v c) c (collected WrittenBack)))
      → P (collect_step w c u)
  unfolding collect_step
  collect_cases c u same free back =
      option_case (λ o. P (collect_slot w c u o)) (w.slot u (oldest_place w u)) (λ _. same Nothing) (λ sl e. at sl e sl.stage refl)
    where
      at : (sl : Slot) → w.slot u (oldest_place w u) ≡ Some sl → (st : Stage) → sl.stage ≡ st → P (collect_stage w c u sl st)
      at sl e Draft q = same Waits
      at sl e (Retired v t) q = cond_both _ _ _ P (λ a. free sl e v t q (leb-true t w.watermark a)) (λ _. same Waits)
      at sl e (Live v) q =
          cond_both _ _ _ P (λ a. unless_case _ _ _ (λ _. fault_case _ _ (back sl e v q (leb-true v w.watermark a)))) (λ _. same Waits)
