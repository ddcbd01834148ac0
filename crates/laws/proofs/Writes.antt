-- No write is lost: at most one user has a draft of a record, and while it has one, the record's last entry is the one that its section has seen.
use Rattle.std.proofs.Common.{◌≡◌, ℕ, ◌<◌, ◌≤◌, true, false, not, ◌&&◌, eqb, ◌⊎◌, Some, None, Option, sym, refl, ap, ◌∙◌, subst, inl, inr, ⊎_elim, arith}
use Rattle.std.proofs.lemmas.Bool.{ne_eqb, cases_eq, and_from, not_from_false, cond_both}
use Rattle.model.specs.declared.body.Body.{Body}
use Rattle.model.specs.Tools.{put, on_some, is_some, least}
use Rattle.model.specs.Worlds.{Entry, Section, World, home_bytes, written, blank, first_hour}
use Rattle.model.specs.Calls.{Call, Open, Find, Lock, Put, Clear, Commit, Abort, Answer, accepted}
use Rattle.model.specs.Versions.{newest}
use Rattle.model.specs.Drafts.{has_draft, locked_by_other}
use Rattle.model.specs.Steps.{Outcome, lock_step, own_step}
use Rattle.model.specs.History.{Reader, History, answered_version, draft_in, draft, with_reader, finding, drafted, locking, editing, stored, change}
use Rattle.laws.specs.Laws.{NoWriteLost}
use Rattle.laws.specs.Theorems.{OfEveryRun}
use Rattle.laws.proofs.Basics.{is_some_false, option_case, put_case, on_some_some, put_on_some, least_none}
use Rattle.laws.proofs.Invariant.{base, SectionOk, Inv, section_here}
use Rattle.laws.proofs.Reading.{newest_is, draft_here, has_draft_is}
use Rattle.laws.proofs.Answers.{own_answered}
use Rattle.laws.proofs.Carrying.{with_commit}
use Rattle.laws.proofs.Cases.{lock_cases}
use Rattle.laws.proofs.Runs.{WholeRun, whole_run, get_lt, before_suc, past, seen, Kept, turn_at, apart}

-- u's open section, opened at o, has a draft of r
pub record Owns (h : History) (u r o : ℕ) : Type 0 where
  pub rd : Reader
  pub b : Body
  pub is : h.section u ≡ Some rd
  pub has : rd.draft r ≡ Some b
  pub at : rd.opened_at ≡ o

owned : (h : History) (u r : ℕ) (b : Body) → draft h u r ≡ Some b → (o : ℕ) × Owns h u r o
owned h u r b e =
    option_case (λ q. draft_in q r ≡ Some b → (o : ℕ) × Owns h u r o) (h.section u) (λ _ k. cc)
    (λ rd i k. (rd.opened_at, record { rd = rd; b = b; is = i; has = k; at = refl })) e

-- one user at most has a draft of a record, and the record's last entry is still what its section has seen
module _ (seen' : ℕ → ℕ → Entry) where
  pub record Alone (h : History) : Type 0 where
    pub one : (u v r o p : ℕ) → Owns h u r o → Owns h v r p → u ≡ v
    pub based : (u r o : ℕ) → Owns h u r o → seen' o r ≡ (h.entries r).last

  -- of another history, where the section of v is the same
  same_owns : {h h' : History} {u r o : ℕ} (v : ℕ) (x : Owns h u r o) → h'.section v ≡ Some x.rd → Owns h' v r o
  same_owns v x e = record { rd = x.rd; b = x.b; is = e; has = x.has; at = x.at }

  -- fewer drafts, and the same entries
  fewer : (h h' : History) → ((u r o : ℕ) → Owns h' u r o → Owns h u r o) → ((u r o : ℕ) → Owns h' u r o → (h'.entries r).last ≡ (h.entries r).last) → Alone h → Alone h'
  fewer h h' f g a =
      record { one = λ u v r o p x y. a.one u v r o p (f u r o x) (f v r p y); based = λ u r o x. a.based u r o (f u r o x) ∙ sym (g u r o x) }

  -- a section changed by f, which keeps the opening and makes no draft
  changed : (h : History) (v : ℕ) (f : Reader → Reader) → ((y : Reader) → (f y).opened_at ≡ y.opened_at)
      → ((y : Reader) (r : ℕ) (b : Body) → (f y).draft r ≡ Some b → (c : Body) × (y.draft r ≡ Some c))
      → Alone h → Alone (with_reader h v (on_some f (h.section v)))
  changed h v f same none_new a =
      fewer h _
      (λ u r o x. put_on_some (Owns h u r o) h.section v f u x.rd
      (λ y _ i q. (let d = none_new y r x.b (ap (λ z. z.draft r) q ∙ x.has) in
      record { rd = y; b = d.0; is = i; has = d.1; at = sym (same y) ∙ ap (λ z. z.opened_at) q ∙ x.at }))
      (λ q. same_owns u x q) x.is)
      (λ u r o x. refl) a

  -- a section without drafts, or none, in the place of v's
  replaced : (h : History) (v : ℕ) (q : Option Reader) → ((r : ℕ) → draft_in q r ≡ None) → (u r o : ℕ)
      → Owns (with_reader h v q) u r o → (u ≡ v → ⊥) × Owns h u r o
  replaced h v q no' u r o x =
      put_case (λ y. y ≡ Some x.rd → (u ≡ v → ⊥) × Owns h u r o) h.section v q u
      (λ _ e. cc (no' r, ap (λ y. draft_in y r) e, x.has))
      (λ n e. (n, same_owns u x e)) x.is

  edits : (f : Body → Body) (q : ℕ) (y : Reader) (r : ℕ) (b : Body) → put y.draft q (on_some f (y.draft q)) r ≡ Some b → (c : Body) × (y.draft r ≡ Some c)
  edits f q y r b =
      put_case (λ z. z ≡ Some b → (c : Body) × (y.draft r ≡ Some c)) y.draft q (on_some f (y.draft q)) r
      (λ e k. (let g = on_some_some f (y.draft q) b k in (g.0, ap y.draft e ∙ g.1))) (λ _ k. (b, k))

  module _ (w : World) (h : History) (inv : Inv seen' w h) (alone : Alone h) where
    -- no other than u has a draft of the record, and its last entry is the one that u's section has seen
    abbrev FirstLock : ℕ → ℕ → Type 0
    FirstLock u r = locked_by_other w.slot w.oldest u r ≡ false × ((rd : Reader) → h.section u ≡ Some rd → seen' rd.opened_at r ≡ (h.entries r).last)

    -- what an accepted first lock tells
    lock_tells : (u r : ℕ) (a : Answer) → (lock_step w u r).answer ≡ a → accepted a ≡ true → draft h u r ≡ None → FirstLock u r
    lock_tells u r a =
        lock_cases P w (λ why e t _. cc (ap accepted e)) u r
        (λ s i l _ _ _. (l.no_other, λ rd is. based' s rd (section_here seen' inv u s rd l.open_section is) l.not_newer))
        (λ s e i q _ _ n. (let d = draft_here seen' w h inv u r i q in cc d.1))
      where
        P : Outcome → Type 0
        P out = out.answer ≡ a → accepted a ≡ true → draft h u r ≡ None → FirstLock u r

        based' : (s : Section) (rd : Reader) → SectionOk seen' (base w h) u s rd → (newest w r).entry.version ≤ s.opening
            → seen' rd.opened_at r ≡ (h.entries r).last
        based' s rd ok le =
            let led = inv.ledgers r in
            let e : (newest w r).entry.version ≡ (h.entries r).last.version = ap (λ y. y.version) (newest_is seen' w h inv r) in
            let up = led.newest (seen' rd.opened_at r) (ok.seen_entry r) in
            led.unique (seen' rd.opened_at r) (h.entries r).last (ok.seen_entry r) (inl refl)
            (⊎_elim (λ c. omega arith) (λ c. omega arith) (ok.seen_last r (h.entries r).last (inl refl)))

    -- no other user has a draft, where the store says so
    not_other : (u r : ℕ) → locked_by_other w.slot w.oldest u r ≡ false → (v o : ℕ) → v < 8 → Owns h v r o → v ≡ u
    not_other u r e v o hv x =
        ⊎_elim (λ q. q) (λ n.
        cc (
          and_from (not (eqb v u)) (has_draft (w.slot v) (w.oldest v) r) (not_from_false (eqb v u) (ne_eqb v u n)) (has_draft_is seen' w h inv v r ∙ ap is_some (ap (λ y. draft_in y r) x.is ∙ x.has)),
          least_none 8 (λ y. not (eqb y u) && has_draft (w.slot y) (w.oldest y) r) (is_some_false (least 8 (λ y. not (eqb y u) && has_draft (w.slot y) (w.oldest y) r)) e) v hv,
        )) (cases_eq v u)

    user_fits : (u r o : ℕ) → Owns h u r o → u < 8
    user_fits u r o x = let k = inv.drafts u r x.b (ap (λ y. draft_in y r) x.is ∙ x.has) in (inv.slots u k.0 _ k.1).0

    -- a draft after a lock was there before, or is the new one
    pub record NewDraft (u r v s o : ℕ) : Type 0 where
      pub user : v ≡ u
      pub which : s ≡ r
      pub none_before : draft h u r ≡ None
      pub rd : Reader
      pub is : h.section u ≡ Some rd
      pub at : rd.opened_at ≡ o

    locks : (u r v s o : ℕ) → Owns (with_reader h u (on_some (locking r (h.entries r).last.body) (h.section u))) v s o
        → Owns h v s o ⊎ NewDraft u r v s o
    locks u r v s o x =
        put_on_some (Owns h v s o ⊎ NewDraft u r v s o) h.section u (locking r (h.entries r).last.body) v x.rd
        (λ y e i q. mine e y i (ap (λ z. z.opened_at) q ∙ x.at) (ap (λ z. z.draft s) q ∙ x.has)) (λ q. inl (same_owns v x q)) x.is
      where
        mine : v ≡ u → (y : Reader) → h.section v ≡ Some y → y.opened_at ≡ o → put y.draft r (drafted (h.entries r).last.body (y.draft r)) s ≡ Some x.b → Owns h v s o ⊎ NewDraft u r v s o
        mine e y i a =
            put_case (λ z. z ≡ Some x.b → Owns h v s o ⊎ NewDraft u r v s o) y.draft r (drafted (h.entries r).last.body (y.draft r)) s
            (λ z _. option_case (λ d. y.draft r ≡ d → Owns h v s o ⊎ NewDraft u r v s o) (y.draft r)
            (λ _ n. (let is : h.section u ≡ Some y = ap h.section (sym e) ∙ i in
            inr (record { user = e; which = z; none_before = ap (λ q. draft_in q r) is ∙ n; rd = y; is = is; at = a })))
            (λ b _ k. inl (record { rd = y; b = b; is = i; has = ap y.draft z ∙ k; at = a })) refl)
            (λ _ k. inl (record { rd = y; b = x.b; is = i; has = k; at = a }))

    lock_alone : (u r : ℕ) (a : Answer) → (lock_step w u r).answer ≡ a → accepted a ≡ true
        → Alone (with_reader h u (on_some (locking r (h.entries r).last.body) (h.section u)))
    lock_alone u r a e t =
        record {
          one = λ v v' s o p x y. single v v' s o p (locks u r v s o x) (locks u r v' s p y);
          based = λ v s o x. ⊎_elim (λ k. alone.based v s o k)
              (λ n. subst (λ z. seen' o z ≡ (h.entries z).last) (sym n.which) (subst (λ z. seen' z r ≡ (h.entries r).last) n.at ((tells n).1 n.rd n.is))) (locks u r v s o x);
        }
      where
        tells : {v s o : ℕ} → NewDraft u r v s o → FirstLock u r
        tells n = lock_tells u r a e t n.none_before

        other : (v v' s o p : ℕ) → Owns h v s o → NewDraft u r v' s p → v ≡ v'
        other v v' s o p k n = not_other u r (tells n).0 v o (user_fits v s o k) (subst (λ z. Owns h v z o) n.which k) ∙ sym n.user

        single : (v v' s o p : ℕ) → Owns h v s o ⊎ NewDraft u r v s o → Owns h v' s p ⊎ NewDraft u r v' s p → v ≡ v'
        single v v' s o p (inl x) (inl y) = alone.one v v' s o p x y
        single v v' s o p (inl x) (inr n) = other v v' s o p x n
        single v v' s o p (inr n) (inl y) = sym (other v' v s p o y n)
        single v v' s o p (inr n) (inr n') = n.user ∙ sym n'.user

    -- a commit of u: where another has a draft u has none, so the entry stays
    commit_alone : (u c : ℕ) → Alone (with_commit h u c)
    commit_alone u c =
        record {
          one = λ v v' r o p x y. alone.one v v' r o p (before' v r o x).1 (before' v' r p y).1;
          based = λ v r o x. alone.based v r o (before' v r o x).1 ∙ sym (stays v r o x);
        }
      where
        before' : (v r o : ℕ) → Owns (with_commit h u c) v r o → (v ≡ u → ⊥) × Owns h v r o
        before' v r o x = replaced h u None (λ _. refl) v r o (same_owns v x x.is)

        stays : (v r o : ℕ) → Owns (with_commit h u c) v r o → (stored c (draft h u r) (h.entries r)).last ≡ (h.entries r).last
        stays v r o x =
            option_case (λ d. draft h u r ≡ d → (stored c d (h.entries r)).last ≡ (h.entries r).last) (draft h u r) (λ _ _. refl)
            (λ b _ q. (let y = owned h u r b q in absurd ((before' v r o x).0 (alone.one v u r o y.0 (before' v r o x).1 y.1)))) refl

    turn_alone : (k c : ℕ) (call : Call) (a : Answer) → (own_step w c call).answer ≡ a → accepted a ≡ true → Alone (change k h call a)
    turn_alone k c (Open u) a e t = fewer h _ (λ v r o x. (replaced h u _ (λ _. refl) v r o x).1) (λ v r o x. refl) alone
    turn_alone k c (Find u i r) a e t = changed h u (finding i r (answered_version a)) (λ y. refl) (λ y s b q. (b, q)) alone
    turn_alone k c (Lock u r) a e t = lock_alone u r a e t
    turn_alone k c (Put u r offset bytes) a e t = changed h u (editing r (written offset bytes)) (λ y. refl) (edits (written offset bytes) r) alone
    turn_alone k c (Clear u r) a e t = changed h u (editing r (λ b. blank)) (λ y. refl) (edits (λ b. blank) r) alone
    turn_alone k c (Commit u) a e t = commit_alone u (answered_version a)
    turn_alone k c (Abort u) a e t = fewer h _ (λ v r o x. (replaced h u None (λ _. refl) v r o x).1) (λ v r o x. refl) alone
    turn_alone k c _ a e t = alone

module _ (run : WholeRun) where
  abbrev AloneAt : ℕ → World → Type 0
  AloneAt k y = Alone (seen run) (past run k)

  alone_kept : Kept run AloneAt
  alone_kept k t y z e inv turned alone =
      subst (Alone (seen run)) (sym (before_suc (home_bytes run.home) run.turns k t e))
      (cond_both (accepted t.answer) (change k (past run k) t.call t.answer) (past run k) (Alone (seen run))
      (λ ok. turn_alone (seen run) y (past run k) inv alone k turned.stamp t.call t.answer
      (own_answered y turned.stamp t.door t.call t.answer turned.answers ok) ok) (λ _. alone))

  -- at first no section is open
  alone_first : AloneAt 0 (first_hour run.home run.highest)
  alone_first = record { one = λ u v r o p y z. cc y.is; based = λ u r o y. cc y.is }

  writes_stay : NoWriteLost (home_bytes run.home) run.turns
  writes_stay m r c b own rd is n d e other lo hi =
      let lt = get_lt run.turns m _ own.commit.is in
      let t = turn_at run AloneAt alone_first alone_kept m _ own.commit.is in
      let q : (seen run rd.opened_at r).version ≡ (seen run m r).version = ap (λ y. y.version) (t.holds.based own.commit.user r rd.opened_at
      (record { rd = rd; b = b; is = is; has = ap (λ y. draft_in y r) (sym is) ∙ own.carries; at = refl })) in
      omega (arith, apart run rd.opened_at m r n d e other (omega arith) hi (omega arith))

pub no_write_lost : OfEveryRun NoWriteLost
no_write_lost home highest ts x reached = writes_stay (whole_run reached)
