-- The invariant at each position of a run, and from it the laws of equal finds and of held bytes.
use Rattle.std.proofs.Common.{◌≡◌, ℕ, zero, suc, ◌+◌, ◌<◌, ◌≤◌, true, ◌⊎◌, List, [], ◌∷◌, ◌++◌, length, take, drop, Some, None, sym, refl, ap, ◌∙◌, subst, inl, inr, ⊎_elim, add-zero, add-suc, suc-add, zero-add, arith}
use Rattle.std.proofs.lemmas.Bool.{cases_eq, cases_lt, cond_both}
use Rattle.std.proofs.lemmas.Option.{same_Some}
use mathlib.Core.Path.{subst₂}
use Rattle.interfaces.specs.Homes.{Meaning}
use Rattle.model.specs.declared.door.Door.{Door}
use Rattle.model.specs.declared.body.Body.{Body}
use Rattle.model.specs.declared.answer.State.{State}
use Rattle.model.specs.Tools.{put, on_some, nth}
use Rattle.model.specs.Worlds.{Entry, World, first_hour, home_bytes, part}
use Rattle.model.specs.Calls.{Call, Open, Find, Take, Lock, Put, Clear, Commit, Abort, Answer, found, taken, committed, Turn, turn, accepted}
use Rattle.model.specs.Drafts.{version_state}
use Rattle.model.specs.Steps.{Lawful, step}
use Rattle.model.specs.History.{Reader, History, answered_version, draft, finding, locking, stored, change, fed, replay, outset, before}
use Rattle.laws.specs.Runs.{Turned, Reached, begun, turned}
use Rattle.laws.specs.Laws.{FindAt, CommitAt, StoreAt, Between, EqualFinds, StoredBy, HeldBytes}
use Rattle.laws.specs.Theorems.{OfEveryRun}
use Rattle.laws.proofs.Basics.{option_case, put_case, put_on_some}
use Rattle.laws.proofs.Invariant.{entry, Inv}
use Rattle.laws.proofs.Answers.{outset_inv, step_good, find_answer, take_answer, commit_answer, accepted_own, own_answered}
use Rattle.laws.proofs.Rising.{step_up, commit_stamped}

-- the turns, one after another from the first on, take the world w to the world x
abbrev pub Run : World → List Turn → World → Type 0
Run w [] x = w ≡ x
Run w (t ∷ ts) x = (y : World) × Turned w t y × Run y ts x

run_more : (w x y : World) (ts : List Turn) (t : Turn) → Run w ts x → Turned x t y → Run w (ts ++ (t ∷ [])) y
run_more w x y [] t e c = (y, subst (λ z. Turned z t y) (sym e) c, refl)
run_more w x y (s ∷ ts) t (z, d, r) c = (z, d, run_more z x y ts t r c)

pub run_of : {w x : World} {ts : List Turn} → Reached w ts x → Run w ts x
run_of begun = refl
run_of (turned r t) = run_more _ _ _ _ _ (run_of r) t

-- turns from the first hour over a home, under a highest stamp, and the world that they lead to
pub record WholeRun : Type 0 where
  pub home : Meaning
  pub highest : ℕ
  pub turns : List Turn
  pub last : World
  pub path : Run (first_hour home highest) turns last

abbrev pub whole_run : {home : Meaning} {highest : ℕ} {ts : List Turn} {x : World} → Reached (first_hour home highest) ts x → WholeRun
whole_run {home} {highest} {ts} {x} r = record { home = home; highest = highest; turns = ts; last = x; path = run_of r }

-- Positions in a list of turns.

-- what holds at i and goes on from each position to the next holds at j
along : (P : ℕ → Type 0) (i j : ℕ) → i ≤ j → P i → ((k : ℕ) → i ≤ k → k < j → P k → P (suc k)) → P j
along P i zero le p on = let e : i ≡ 0 = omega arith in subst P e p
along P i (suc j) le p on =
    ⊎_elim (λ e. subst P e p) (λ n. on j (omega arith) (omega arith) (along P i j (omega arith) p (λ k a l q. on k a (omega arith) q))) (cases_eq i (suc j))

pub get_lt : (ts : List Turn) (k : ℕ) (t : Turn) → nth ts k ≡ Some t → k < length ts
get_lt [] k t e = cc
get_lt (x ∷ xs) zero t e = omega arith
get_lt (x ∷ xs) (suc k) t e = omega (arith, get_lt xs k t e)

pub get_drop : (ts : List Turn) (k : ℕ) → k < length ts → (t : Turn) × (nth ts k ≡ Some t) × (drop k ts ≡ t ∷ drop (suc k) ts)
get_drop [] k h = absurd (omega arith)
get_drop (x ∷ xs) zero h = (x, refl, refl)
get_drop (x ∷ xs) (suc k) h = get_drop xs k (omega arith)

replay_suc : (ts : List Turn) (j : ℕ) (h : History) (k : ℕ) (t : Turn) → nth ts k ≡ Some t → replay j h (take (suc k) ts) ≡ fed (j + k) (replay j h (take k ts)) t
replay_suc [] j h k t e = cc
replay_suc (x ∷ xs) j h zero t e = cc (add-zero j)
replay_suc (x ∷ xs) j h (suc k) t e = cc (replay_suc xs (suc j) (fed j h x) k t e, suc-add j k, add-suc j k)

module _ (first : ℕ → List ℕ) (ts : List Turn) where
  pub before_suc : (k : ℕ) (t : Turn) → nth ts k ≡ Some t → before first ts (suc k) ≡ fed k (before first ts k) t
  before_suc k t e = cc (replay_suc ts 0 (outset first) k t e, zero-add k)

  -- what an open section remembers of its opening
  pub record OpenedBy (k o : ℕ) : Type 0 where
    pub earlier : o < k
    pub door : Door
    pub user : ℕ
    pub answer : Answer
    pub is : nth ts o ≡ Some (turn door (Open user) answer)

  later : (k o : ℕ) → OpenedBy k o → OpenedBy (suc k) o
  later k o b = record { earlier = omega arith; door = b.door; user = b.user; answer = b.answer; is = b.is }

  opened_change : (k : ℕ) (h : History) (d : Door) (call : Call) (a : Answer) → nth ts k ≡ Some (turn d call a)
      → ((u : ℕ) (rd : Reader) → h.section u ≡ Some rd → OpenedBy k rd.opened_at)
      → (u : ℕ) (rd : Reader) → (change k h call a).section u ≡ Some rd → OpenedBy (suc k) rd.opened_at
  opened_change k h d call a e ih = go call e
    where
      kept : (u : ℕ) (rd : Reader) → h.section u ≡ Some rd → OpenedBy (suc k) rd.opened_at
      kept u rd q = later k rd.opened_at (ih u rd q)

      changed : (f : Reader → Reader) → ((x : Reader) → (f x).opened_at ≡ x.opened_at) → (v u : ℕ) (rd : Reader) → put h.section v (on_some f (h.section v)) u ≡ Some rd → OpenedBy (suc k) rd.opened_at
      changed f same v u rd =
          put_on_some (OpenedBy (suc k) rd.opened_at) h.section v f u rd (λ y _ i q. subst (OpenedBy (suc k)) (sym (same y) ∙ ap (λ y. y.opened_at) q) (kept u y i)) (kept u rd)

      closed : (v u : ℕ) (rd : Reader) → put h.section v None u ≡ Some rd → OpenedBy (suc k) rd.opened_at
      closed v u rd = put_case (λ y. y ≡ Some rd → OpenedBy (suc k) rd.opened_at) h.section v None u (λ _ q. cc) (λ _ q. kept u rd q)

      go : (call : Call) → nth ts k ≡ Some (turn d call a) → (u : ℕ) (rd : Reader) → (change k h call a).section u ≡ Some rd → OpenedBy (suc k) rd.opened_at
      go (Open v) e u rd =
          put_case (λ y. y ≡ Some rd → OpenedBy (suc k) rd.opened_at) h.section v _ u
          (λ _ q. subst (OpenedBy (suc k)) (ap (λ y. y.opened_at) (same_Some _ rd q)) (record { earlier = omega arith; door = d; user = v; answer = a; is = e })) (λ _ q. kept u rd q)
      go (Find v i r) e u rd = changed (finding i r (answered_version a)) (λ x. refl) v u rd
      go (Lock v r) e u rd = changed (locking r (h.entries r).last.body) (λ x. refl) v u rd
      go (Put v r offset bytes) e u rd = changed _ (λ x. refl) v u rd
      go (Clear v r) e u rd = changed _ (λ x. refl) v u rd
      go (Commit v) e u rd = closed v u rd
      go (Abort v) e u rd = closed v u rd
      go _ e u rd = kept u rd

  opened_fed : (k : ℕ) (h : History) (t : Turn) → nth ts k ≡ Some t → ((u : ℕ) (rd : Reader) → h.section u ≡ Some rd → OpenedBy k rd.opened_at)
      → (u : ℕ) (rd : Reader) → (fed k h t).section u ≡ Some rd → OpenedBy (suc k) rd.opened_at
  opened_fed k h t e ih u rd =
      cond_both (accepted t.answer) (change k h t.call t.answer) h (λ (y : History). y.section u ≡ Some rd → OpenedBy (suc k) rd.opened_at)
      (λ _. opened_change k h t.door t.call t.answer e ih u rd) (λ _ q. later k rd.opened_at (ih u rd q))

  opened_by : (k : ℕ) → k ≤ length ts → (u : ℕ) (rd : Reader) → (before first ts k).section u ≡ Some rd → OpenedBy k rd.opened_at
  opened_by zero le u rd e = cc
  opened_by (suc k) le u rd e =
      let g = get_drop ts k (omega arith) in
      opened_fed k (before first ts k) g.0 g.1 (opened_by k (omega arith)) u rd (subst (λ y. y.section u ≡ Some rd) (before_suc k g.0 g.1) e)

module _ (run : WholeRun) where
  abbrev first : ℕ → List ℕ
  first = home_bytes run.home

  abbrev ts : List Turn
  ts = run.turns

  abbrev pub past : ℕ → History
  past k = before first ts k

  -- the last entry of r before the turn at k
  abbrev pub seen : ℕ → ℕ → Entry
  seen k r = ((before first ts k).entries r).last

  -- a fact of positions and worlds that every turn keeps
  abbrev pub Kept : (ℕ → World → Type 0) → Type 0
  Kept P = (k : ℕ) (t : Turn) (y z : World) → nth ts k ≡ Some t → Inv seen y (past k) → Turned y t z → P k y → P (suc k) z

  -- what holds of the outcome of a turn holds behind it
  pub behind : (Q : World → History → Type 0) (k : ℕ) {t : Turn} {y z : World} → nth ts k ≡ Some t → (d : Turned y t z)
      → Q (step y d.stamp t.door t.call).after (fed k (past k) (turn t.door t.call (step y d.stamp t.door t.call).answer)) → Q z (past (suc k))
  behind Q k {t} {y} {z} e d q =
      subst (Q z) (sym (before_suc first ts k t e)) (subst₂ (λ v a. Q v (fed k (past k) (turn t.door t.call a))) d.leaves d.answers q)

  -- the turn at k, with the worlds before and behind it
  pub record TurnAt (P : ℕ → World → Type 0) (k : ℕ) (t : Turn) : Type 0 where
    pub world : World
    pub inv : Inv seen world (past k)
    pub holds : P k world
    pub behind : World
    pub turned : Turned world t behind

  module _ (P : ℕ → World → Type 0) (begins : P 0 (first_hour run.home run.highest)) (kept : Kept P) where
    record At (k : ℕ) : Type 0 where
      world : World
      inv : Inv seen world (past k)
      holds : P k world
      rest : Run world (drop k ts) run.last

    at : (k : ℕ) → k ≤ length ts → At k
    at zero le = record { world = first_hour run.home run.highest; inv = outset_inv seen run.home run.highest; holds = begins; rest = run.path }
    at (suc k) le =
        let a = at k (omega arith) in
        let g = get_drop ts k (omega arith) in
        let t = g.0 in
        let c = subst (λ l. Run a.world l run.last) g.2 a.rest in
        let n = behind (Inv seen) k g.1 c.1 (step_good seen a.world (past k) a.inv k c.1.stamp t.door t.call (λ r. refl) c.1.lawful) in
        record { world = c.0; inv = n; holds = kept k t a.world c.0 g.1 a.inv c.1 a.holds; rest = c.2 }

    pub turn_at : (k : ℕ) (t : Turn) → nth ts k ≡ Some t → TurnAt P k t
    turn_at k t e =
        let lt = get_lt ts k t e in
        let a = at k (omega arith) in
        let g = get_drop ts k lt in
        let c = subst (λ l. Run a.world l run.last) (g.2 ∙ ap (λ y. y ∷ drop (suc k) ts) (same_Some g.0 t (sym g.1 ∙ e))) a.rest in
        record { world = a.world; inv = a.inv; holds = a.holds; behind = c.0; turned = c.1 }

  -- Commits.

  -- no commit before has answered above the highest stamp
  abbrev Bounded : ℕ → World → Type 0
  Bounded k w = (n c : ℕ) → CommitAt first ts n c → n < k → c ≤ w.highest

  bounded : Kept Bounded
  bounded k t y z e inv d ih n c at lt =
      ⊎_elim (λ q. subst (λ v. Turned y v z → c ≤ z.highest) (same_Some _ t (sym at.is ∙ ap (nth ts) q ∙ e)) own d)
      (λ ne. (let up = step_up y d.stamp t.door t.call d.lawful in
      let low = ih n c at (omega arith) in
      let after : (step y d.stamp t.door t.call).after.highest ≡ z.highest = ap (λ v. v.highest) d.leaves in
      omega arith)) (cases_eq n k)
    where
      own : Turned y (turn at.door (Commit at.user) (committed c)) z → c ≤ z.highest
      own d =
          let st = commit_stamped y d.stamp at.door at.user c d.lawful d.answers in
          let after : (step y d.stamp at.door (Commit at.user)).after.highest ≡ z.highest = ap (λ v. v.highest) d.leaves in
          omega arith

  commit_turn : (m c : ℕ) (at : CommitAt first ts m c) → TurnAt Bounded m (turn at.door (Commit at.user) (committed c))
  commit_turn m c at = turn_at Bounded (λ n c at lt. absurd (omega arith)) bounded m _ at.is

  -- two commits never answer the same stamp above 0
  once : (n m c : ℕ) → CommitAt first ts n c → CommitAt first ts m c → 0 < c → n < m → ⊥
  once n m c a b pos lt =
      let t = commit_turn m c b in
      let d = t.turned in
      let st = commit_stamped t.world d.stamp b.door b.user c d.lawful d.answers in
      let low = t.holds n c a lt in
      omega (arith, st.new pos)

  -- what stands at a turn, with no other fact
  turned_at : (k : ℕ) (t : Turn) → nth ts k ≡ Some t → TurnAt (λ _ _. Unit {0}) k t
  turned_at = turn_at (λ _ _. Unit {0}) tt (λ k t y z e inv d u. tt)

  -- an accepted commit of u at k that carries r answers a new stamp
  carrying : (k u r : ℕ) (d : Door) (a : Answer) (b : Body) → nth ts k ≡ Some (turn d (Commit u) a) → accepted a ≡ true → draft (past k) u r ≡ Some b
      → (c : ℕ) × (a ≡ committed c) × ((seen k r).version < c)
  carrying k u r d a b e t carries =
      let y = turned_at k _ e in
      let own = accepted_own y.world y.turned.stamp d (Commit u) a y.turned.answers t in
      let z = commit_answer seen y.world (past k) y.inv y.turned.stamp u r b a carries
      (subst (λ out. Lawful y.world.highest y.turned.stamp out.drawn) own y.turned.lawful) (sym (ap (λ out. out.answer) own) ∙ y.turned.answers) t in
      (z.0, z.1, omega (arith, (y.inv.ledgers r).bound))

  -- a commit of r at m: the last entry after it, and its version is new
  commit_last : (m r c : ℕ) (b : Body) → StoreAt first ts m r c b → (seen (suc m) r ≡ entry c b) × ((seen m r).version < c)
  commit_last m r c b k =
      let a = carrying m k.commit.user r k.commit.door (committed c) b k.commit.is refl k.carries in
      let e : c ≡ a.0 = cc a.1 in
      (ap (λ y. (y.entries r).last) (before_suc first ts m _ k.commit.is) ∙ ap (λ d. (stored c d ((past m).entries r)).last) k.carries, omega arith)

  -- the turn at k is a commit of r
  abbrev Stores : ℕ → ℕ → Type 0
  Stores k r = (c : ℕ) × (b : Body) × StoreAt first ts k r c b

  -- one turn leaves the last entry of r, or is a commit of r
  one_turn : (k r : ℕ) → k < length ts → (seen (suc k) r ≡ seen k r) ⊎ Stores k r
  one_turn k r lt =
      let g = get_drop ts k lt in
      subst (λ y. ((y.entries r).last ≡ seen k r) ⊎ Stores k r) (sym (before_suc first ts k g.0 g.1))
      (cond_both (accepted g.0.answer) (change k (past k) g.0.call g.0.answer) (past k) (λ (y : History). ((y.entries r).last ≡ seen k r) ⊎ Stores k r)
      (λ t. by g.0.door g.0.call g.0.answer g.1 t) (λ _. inl refl))
    where
      by : (d : Door) (call : Call) (a : Answer) → nth ts k ≡ Some (turn d call a) → accepted a ≡ true
          → (((change k (past k) call a).entries r).last ≡ seen k r) ⊎ Stores k r
      by d (Commit u) a e t =
          option_case (λ o. ((stored (answered_version a) o ((past k).entries r)).last ≡ seen k r) ⊎ Stores k r) (draft (past k) u r) (λ _. inl refl)
          (λ b q. (let z = carrying k u r d a b e t q in
          inr (z.0, b, record { commit = record { door = d; user = u; is = e ∙ ap (λ v. Some (turn d (Commit u) v)) z.1 }; carries = q })))
      by d _ a e t = inl refl

  -- versions only grow
  grow_one : (k r : ℕ) → k < length ts → (seen k r).version ≤ (seen (suc k) r).version
  grow_one k r lt =
      ⊎_elim (λ e. let q : (seen (suc k) r).version ≡ (seen k r).version = ap (λ y. y.version) e in omega arith)
      (λ z. let l = commit_last k r z.0 z.1 z.2 in let q : (seen (suc k) r).version ≡ z.0 = ap (λ y. y.version) l.0 in omega arith) (one_turn k r lt)

  grows : (i j r : ℕ) → i ≤ j → j ≤ length ts → (seen i r).version ≤ (seen j r).version
  grows i j r le lj = along (λ y. (seen i r).version ≤ (seen y r).version) i j le (omega arith) (λ k a l ih. omega (arith, grow_one k r (omega arith)))

  -- with no commit of r on the way the last entry stays
  same_between : (i j r : ℕ) → i ≤ j → j ≤ length ts → ((m c : ℕ) (b : Body) → StoreAt first ts m r c b → i ≤ m → m < j → ⊥) → seen j r ≡ seen i r
  same_between i j r le lj no' =
      along (λ y. seen y r ≡ seen i r) i j le refl (λ k a l ih. ⊎_elim (λ e. e ∙ ih) (λ z. absurd (no' k z.0 z.1 z.2 a l)) (one_turn k r (omega arith)))

  -- where the last entry came from
  pub record Origin (k r : ℕ) : Type 0 where
    pub m : ℕ
    pub c : ℕ
    pub b : Body
    pub commit : StoreAt first ts m r c b
    pub earlier : m < k
    pub is : seen k r ≡ entry c b

  origin : (k r : ℕ) → k ≤ length ts → (seen k r ≡ seen 0 r) ⊎ Origin k r
  origin k r le = along (λ y. (seen y r ≡ seen 0 r) ⊎ Origin y r) 0 k (omega arith) (inl refl) (λ j a l ih. ⊎_elim (old j ih) (new j) (one_turn j r (omega arith)))
    where
      old : (j : ℕ) → (seen j r ≡ seen 0 r) ⊎ Origin j r → seen (suc j) r ≡ seen j r → (seen (suc j) r ≡ seen 0 r) ⊎ Origin (suc j) r
      old j (inl e) q = inl (q ∙ e)
      old j (inr o) q = inr (record { m = o.m; c = o.c; b = o.b; commit = o.commit; earlier = omega arith; is = q ∙ o.is })

      new : (j : ℕ) → Stores j r → (seen (suc j) r ≡ seen 0 r) ⊎ Origin (suc j) r
      new j z = inr (record { m = j; c = z.0; b = z.1; commit = z.2; earlier = omega arith; is = (commit_last j r z.0 z.1 z.2).0 })

  -- a commit of r between two positions tells the versions apart
  pub apart : (i j r m c : ℕ) (b : Body) → StoreAt first ts m r c b → i ≤ m → m < j → j ≤ length ts → (seen i r).version < (seen j r).version
  apart i j r m c b k le lt lj =
      let l = commit_last m r c b k in
      let q : (seen (suc m) r).version ≡ c = ap (λ y. y.version) l.0 in
      omega (arith, grows i m r le (omega arith), grows (suc m) j r lt lj)

  -- Equal finds.

  -- what an accepted find of no own draft answers: what its section has seen
  record Saw (r o : ℕ) (st : State) (v : ℕ) : Type 0 where
    state : st ≡ version_state (seen o r).body.mark
    version : v ≡ (seen o r).version
    fits : o < length ts
    opens : (m c : ℕ) (b : Body) → StoreAt first ts m r c b → m ≡ o → ⊥

  -- a turn that opens is no commit
  no_commit : (d e : Door) (c u v : ℕ) (a : Answer) → Some (turn d (Commit u) (committed c)) ≡ Some (turn e (Open v) a) → ⊥
  no_commit d e c u v a p = cc (ap (λ (t : Turn). t.call) (same_Some (turn d (Commit u) (committed c)) (turn e (Open v) a) p))

  saw : (k r o : ℕ) (st : State) (v : ℕ) → FindAt first ts k r o st v → Saw r o st v
  saw k r o st v f =
      let t = turned_at k _ f.is in
      let a = find_answer seen t.world (past k) t.inv f.user f.hold r st v f.reader f.open_section f.no_draft
      (own_answered t.world t.turned.stamp f.door (Find f.user f.hold r) (found st v) t.turned.answers refl) in
      let lt = get_lt ts k _ f.is in
      let b = opened_by first ts k (omega arith) f.user f.reader f.open_section in
      subst (λ y. Saw r y st v) f.opened
      (record {
        state = a.0;
        version = a.1;
        fits = omega arith;
        opens = λ m c y z e. no_commit z.commit.door b.door c z.commit.user b.user b.answer (sym z.commit.is ∙ ap (nth ts) e ∙ b.is);
      })

  find_law : EqualFinds first ts
  find_law k₁ k₂ r o₁ o₂ v₁ v₂ st₁ st₂ f₁ f₂ = (only, whenever)
    where
      s₁ : Saw r o₁ st₁ v₁
      s₁ = saw k₁ r o₁ st₁ v₁ f₁

      s₂ : Saw r o₂ st₂ v₂
      s₂ = saw k₂ r o₂ st₂ v₂ f₂

      only : (v₁ ≡ v₂) × (st₁ ≡ st₂) → (m c : ℕ) (b : Body) → StoreAt first ts m r c b → Between first ts o₁ m o₂ → ⊥
      only e m c b k (inl z) = omega (arith, apart o₁ o₂ r m c b k (omega arith) z.1 (omega (arith, s₂.fits)), s₁.version, s₂.version)
      only e m c b k (inr z) = omega (arith, apart o₂ o₁ r m c b k (omega arith) z.1 (omega (arith, s₁.fits)), s₁.version, s₂.version)

      equal : seen o₁ r ≡ seen o₂ r → (v₁ ≡ v₂) × (st₁ ≡ st₂)
      equal q = (s₁.version ∙ ap (λ y. y.version) q ∙ sym s₂.version, s₁.state ∙ ap (λ y. version_state y.body.mark) q ∙ sym s₂.state)

      whenever : ((m c : ℕ) (b : Body) → StoreAt first ts m r c b → Between first ts o₁ m o₂ → ⊥) → (v₁ ≡ v₂) × (st₁ ≡ st₂)
      whenever no' =
          ⊎_elim (λ lt. equal (sym (same_between o₁ o₂ r (omega arith) (omega (arith, s₂.fits))
          (λ m c b k a l. ⊎_elim (λ e. s₁.opens m c b k e) (λ n. no' m c b k (inl (omega arith, l))) (cases_eq m o₁)))))
          (λ le. equal (same_between o₂ o₁ r le (omega (arith, s₁.fits))
          (λ m c b k a l. ⊎_elim (λ e. s₂.opens m c b k e) (λ n. no' m c b k (inr (omega arith, l))) (cases_eq m o₂))))
          (cases_lt o₁ o₂)

  -- Held bytes.

  take_law : HeldBytes first ts
  take_law k hold offset count r v reader bs f holds = (above, zero_case)
    where
      o : ℕ
      o = reader.opened_at

      fits : o ≤ length ts
      fits =
          let lt = get_lt ts k _ f.is in
          let b = opened_by first ts k (omega arith) f.user reader f.open_section in
          omega arith

      answer : (v ≡ (seen o r).version) × (bs ≡ part offset count (seen o r).body.bytes)
      answer =
          let t = turned_at k _ f.is in
          take_answer seen t.world (past k) t.inv f.user hold offset count bs reader r v f.open_section holds
          (own_answered t.world t.turned.stamp f.door (Take f.user hold offset count) (taken bs) t.turned.answers refl)

      first_zero : seen o r ≡ seen 0 r → v ≡ 0
      first_zero e = answer.0 ∙ ap (λ y. y.version) e

      stamp : (g : Origin o r) → v ≡ g.c
      stamp g = answer.0 ∙ ap (λ y. y.version) g.is

      above : 0 < v → (m : ℕ) × (b : Body) × StoredBy first ts r v o m b × (bs ≡ part offset count b.bytes)
      above pos =
          ⊎_elim (λ e. absurd (omega (arith, first_zero e)))
          (λ g. (let k : StoreAt first ts g.m r v g.b = subst (λ y. StoreAt first ts g.m r y g.b) (sym (stamp g)) g.commit in (
            g.m,
            g.b,
            record {
              stores = k;
              earlier = g.earlier;
              only = λ n a. ⊎_elim (λ lt. absurd (once n g.m v a k.commit pos lt))
                  (λ le. ⊎_elim (λ e. e) (λ ne. absurd (once g.m n v k.commit a pos (omega arith))) (cases_eq n g.m)) (cases_lt n g.m);
            },
            answer.1 ∙ ap (λ y. part offset count y.body.bytes) g.is,
          )))
          (origin o r fits)

      zero_case : v ≡ 0 → bs ≡ part offset count (first r)
      zero_case z =
          ⊎_elim (λ e. answer.1 ∙ ap (λ y. part offset count y.body.bytes) e)
          (λ g. absurd (omega (arith, (commit_last g.m r g.c g.b g.commit).1, stamp g))) (origin o r fits)

pub equal_finds : OfEveryRun EqualFinds
equal_finds home highest turns w r = find_law (whole_run r)

pub held_bytes : OfEveryRun HeldBytes
held_bytes home highest turns w r = take_law (whole_run r)
