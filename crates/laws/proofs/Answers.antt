-- Every turn keeps the invariant, and what an accepted find, take and commit answer by it.
use Rattle.std.proofs.Common.{◌≡◌, ℕ, ◌<◌, ◌≤◌, true, false, not, ◌&&◌, ltb, leb, List, Some, None, sym, refl, ap, ◌∙◌, subst, inl, inr, arith}
use Rattle.std.proofs.lemmas.Bool.{ltb-true, and_parts, not-false}
use Rattle.std.proofs.lemmas.Option.{cond_some}
use Rattle.interfaces.specs.Homes.{Meaning}
use Rattle.model.specs.declared.door.Door.{Door}
use Rattle.model.specs.declared.door.Door.TheVariants.{Host, Firmware}
use Rattle.model.specs.declared.body.Body.{Body}
use Rattle.model.specs.declared.answer.State.{State}
use Rattle.model.specs.declared.slot.Hold.{Hold}
use Rattle.model.specs.declared.slot.Hold.TheVariants.{Unset, OnMaster, OnSlot}
use Rattle.model.specs.Worlds.{Entry, Section, World, first_hour, served, home_bytes, master_entry, part}
use Rattle.model.specs.Calls.{Call, Open, Find, Take, Lock, Put, Clear, Commit, Abort, Survey, Collect, Tick, Answer, found, taken, committed, accepted, of_door, foreign}
use Rattle.model.specs.Drafts.{version_state}
use Rattle.model.specs.Steps.{Outcome, Lawful, find_step, held, take_step, commit_step, own_step, step}
use Rattle.model.specs.History.{version_of, Reader, History, draft_in, draft, outset}
use Rattle.laws.proofs.Cases.{step_cases, find_cases, take_cases, commit_cases}
use Rattle.laws.proofs.Invariant.{entry, Ent, kept_version, HoldOk, base, SectionOk, Inv, Good, section_here}
use Rattle.laws.proofs.Reading.{slot_entry, visible_is, draft_here, no_drafts_here}
use Rattle.laws.proofs.Sections.{open_good, find_good, take_good, survey_good, tick_good}
use Rattle.laws.proofs.Drafting.{lock_good, put_good, clear_good, abort_good}
use Rattle.laws.proofs.Committing.{commit_good}
use Rattle.laws.proofs.Collecting.{collect_good}

-- at the first hour
pub outset_inv : (seen : ℕ → ℕ → Entry) (home : Meaning) (highest : ℕ) → Inv seen (first_hour home highest) (outset (home_bytes home))
outset_inv seen home highest =
    record {
      ledgers = λ r. record { unique = λ a b p q _. first r a p ∙ sym (first r b q); newest = λ e p. subst (λ y. y.version ≤ 0) (sym (first r e p)) (omega arith); bound = omega arith };
      watermark_low = omega arith;
      masters = λ r. record { is_entry = inl refl; low = omega arith };
      slots = λ o p sl e. cc;
      drafts = λ u r b e. cc;
      cover = λ r e p. inl (ap (λ y. y.version) (sym (first r e p)));
      sections = λ u. tt;
    }
  where
    first : (r : ℕ) (e : Entry) → Ent ((outset (home_bytes home)).entries r) e → e ≡ ((outset (home_bytes home)).entries r).last
    first r e (inl p) = p
    first r e (inr p) = absurd p

-- a user of a door is one of eight
own_user : (d : Door) (u : ℕ) → not (of_door d u) ≡ false → u < 8
own_user Host u e = let f = ltb-true u 4 (not-false (ltb u 4) e) in omega arith
own_user Firmware u e = ltb-true u 8 (and_parts (leb 4 u) (ltb u 8) (not-false (leb 4 u && ltb u 8) e)).1

module _ (seen : ℕ → ℕ → Entry) (w : World) (h : History) (inv : Inv seen w h) where
  -- every turn keeps the invariant
  own_good : (k s : ℕ) (d : Door) (call : Call) → foreign d call ≡ false → ((r : ℕ) → seen k r ≡ (h.entries r).last) → Good seen w.highest s k h call (own_step w s call)
  own_good k s d (Open u) own now = open_good seen w h inv k s u (own_user d u own) now
  own_good k s d (Find u i r) own now = find_good seen w h inv k s u i r
  own_good k s d (Take u i offset count) own now = take_good seen w h inv k s u i offset count
  own_good k s d (Lock u r) own now = lock_good seen w h inv k s u r (own_user d u own)
  own_good k s d (Put u r offset bytes) own now = put_good seen w h inv k s u r offset bytes
  own_good k s d (Clear u r) own now = clear_good seen w h inv k s u r
  own_good k s d (Commit u) own now = commit_good seen w h inv k s u
  own_good k s d (Abort u) own now = abort_good seen w h inv k s u
  own_good k s d Survey own now = survey_good seen w h inv k s
  own_good k s d (Collect u) own now = collect_good seen w h inv k s u
  own_good k s d (Tick t) own now = tick_good seen w h inv k s t

  pub step_good : (k s : ℕ) (d : Door) (call : Call) → ((r : ℕ) → seen k r ≡ (h.entries r).last) → Good seen w.highest s k h call (step w s d call)
  step_good k s d call now = step_cases (Good seen w.highest s k h call) w (λ _ _. inv) s d call (λ own. own_good k s d call own now)

  -- a find of no own draft answers what the section has seen
  pub find_answer : (u i r : ℕ) (st : State) (v : ℕ) (rd : Reader) → h.section u ≡ Some rd → rd.draft r ≡ None → (find_step w u i r).answer ≡ found st v
      → (st ≡ version_state (seen rd.opened_at r).body.mark) × (v ≡ (seen rd.opened_at r).version)
  find_answer u i r st v rd is no_draft =
      find_cases P w (λ why e. cc) u i r
      (λ s e _ q. (let z = visible_is seen w h inv u s rd (section_here seen inv u s rd e is) r in
      (cc (ap (λ y. version_state y.body.mark) z), cc (ap (λ y. y.version) z))))
      (λ s e j k q. (let d = draft_here seen w h inv u r j k in cc (d.1, ap (λ y. draft_in y r) is)))
    where
      P : Outcome → Type 0
      P out = out.answer ≡ found st v → (st ≡ version_state (seen rd.opened_at r).body.mark) × (v ≡ (seen rd.opened_at r).version)

  -- the body held is the one seen
  held_is : (u : ℕ) (s : Section) (rd : Reader) → SectionOk seen (base w h) u s rd → (r v : ℕ) (x : Hold)
      → v ≡ (seen rd.opened_at r).version → HoldOk w.master w.slot s.opening r v x → (b : Body) → held w x ≡ Some b → b ≡ (seen rd.opened_at r).body
  held_is u s rd ok r v Unset e k b q = absurd k
  held_is u s rd ok r v (OnMaster a) e k b q =
      cc (
        (cond_some (ltb a (served w)) (master_entry w a).body b q).1,
        ap (λ y. (master_entry w y).body) k.0,
        ap (λ y. y.body) ((inv.ledgers r).unique (master_entry w r) (seen rd.opened_at r) (inv.masters r).is_entry (ok.seen_entry r) (k.1 ∙ e)),
      )
  held_is u s rd ok r v (OnSlot o p) e k b q =
      cc (
        k.1,
        ap (λ y. y.body) ((inv.ledgers r).unique (entry v k.0.body) (seen rd.opened_at r)
            (subst (λ y. Ent (h.entries y) (entry v k.0.body)) k.2 (slot_entry seen w h inv o p k.0 v k.1 (kept_version s.opening v k.0.stage k.3))) (ok.seen_entry r) e),
      )

  pub take_answer : (u i offset count : ℕ) (bs : List ℕ) (rd : Reader) (r v : ℕ) → h.section u ≡ Some rd → rd.hold i ≡ version_of r v → (take_step w u i offset count).answer ≡ taken bs
      → (v ≡ (seen rd.opened_at r).version) × (bs ≡ part offset count (seen rd.opened_at r).body.bytes)
  take_answer u i offset count bs rd r v is holds =
      take_cases P w (λ why q. cc) u i offset count (λ s e b k q. (let ok = section_here seen inv u s rd e is in
      let g = ok.holds i r v holds in
      (g.0, cc (ap (λ y. part offset count y.bytes) (held_is u s rd ok r v (s.hold i) g.0 g.1 b k)))))
    where
      P : Outcome → Type 0
      P out = out.answer ≡ taken bs → (v ≡ (seen rd.opened_at r).version) × (bs ≡ part offset count (seen rd.opened_at r).body.bytes)

  -- an accepted commit that carries a record answers a new stamp
  pub commit_answer : (s u r : ℕ) (b : Body) (a : Answer) → draft h u r ≡ Some b → Lawful w.highest s (commit_step w s u).drawn → (commit_step w s u).answer ≡ a → accepted a ≡ true
      → (c : ℕ) × (a ≡ committed c) × (w.highest < c)
  commit_answer s u r b a carries =
      commit_cases P w (λ why l e t. cc (ap accepted e)) s u (λ next e _. (s, sym e, next)) (λ n _ e t. cc (no_drafts_here seen w h inv u n r))
    where
      P : Outcome → Type 0
      P out = Lawful w.highest s out.drawn → out.answer ≡ a → accepted a ≡ true → (c : ℕ) × (a ≡ committed c) × (w.highest < c)

-- what was accepted was asked at the right door
pub accepted_own : (w : World) (s : ℕ) (d : Door) (call : Call) (a : Answer) → (step w s d call).answer ≡ a → accepted a ≡ true → step w s d call ≡ own_step w s call
accepted_own w s d call a = step_cases (λ out. out.answer ≡ a → accepted a ≡ true → out ≡ own_step w s call) w (λ why e t. cc (ap accepted e)) s d call (λ _ _ _. refl)

pub own_answered : (w : World) (s : ℕ) (d : Door) (call : Call) (a : Answer) → (step w s d call).answer ≡ a → accepted a ≡ true → (own_step w s call).answer ≡ a
own_answered w s d call a e t = ap (λ out. out.answer) (sym (accepted_own w s d call a e t)) ∙ e
