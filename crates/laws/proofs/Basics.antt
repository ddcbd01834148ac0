-- Lemmas on the tools of the model: cases, tables, least numbers, slots, places, bytes in a home.
use Rattle.std.proofs.Common.{◌≡◌, ℕ, zero, suc, ◌+◌, ◌-◌, ◌%◌, ◌<◌, Bool, true, false, cond, ◌&&◌, eqb, ltb, ◌⊎◌, List, [], ◌∷◌, length, get_or, set, Some, None, Option, sym, refl, ap, ◌∙◌, subst, ⊎_elim, arith}
use Rattle.std.proofs.lemmas.List.{get_or-set_same, get_or-set_other}
use Rattle.std.proofs.lemmas.Bool.{eqb-true, eqb-false, cases_eq, ltb-true, cond_both}
use Rattle.interfaces.specs.Homes.{Meaning}
use Rattle.model.specs.declared.slot.Stage.{Stage}
use Rattle.model.specs.declared.slot.Stage.TheVariants.{Draft, Live, Retired}
use Rattle.std.specs.Option.{MatchOption}
use Rattle.model.specs.Tools.{put, on_some, is_some, or_else, least}
use Rattle.model.specs.Worlds.{home_bytes}
use Rattle.model.specs.Drafts.{draft_of, edited}
use Rattle.model.specs.declared.body.Body.{Body}
use Rattle.model.specs.declared.slot.Slot.{Slot}
use Rattle.interfaces.specs.Homes as home

-- Cases.

pub bool_case : (P : Bool → Type 0) (b : Bool) → (b ≡ true → P true) → (b ≡ false → P false) → P b
bool_case P true yes' no' = yes' refl
bool_case P false yes' no' = no' refl

pub eq_case : (P : Bool → Type 0) (j k : ℕ) → (j ≡ k → P true) → ((j ≡ k → ⊥) → P false) → P (eqb j k)
eq_case P j k yes' no' = bool_case P (eqb j k) (λ e. yes' (eqb-true j k e)) (λ e. no' (eqb-false j k e))

pub option_case : {A : Type 0} (P : Option A → Type 0) (o : Option A) → (o ≡ None → P None) → ((a : A) → o ≡ Some a → P (Some a)) → P o
option_case P None n s = n refl
option_case P (Some a) n s = s a refl

pub put_case : {A : Type 0} (P : A → Type 0) (f : ℕ → A) (k : ℕ) (a : A) (j : ℕ) → (j ≡ k → P a) → ((j ≡ k → ⊥) → P (f j)) → P (put f k a j)
put_case P f k a j yes' no' = eq_case (λ b. P (cond b a (f j))) j k yes' no'

pub put_same : {A : Type 0} (f : ℕ → A) (k : ℕ) (a : A) → put f k a k ≡ a
put_same f k a = put_case (λ x. x ≡ a) f k a k (λ _. refl) (λ h. absurd (h refl))

pub on_some_some : {A B : Type 0} (f : A → B) (o : Option A) (b : B) → on_some f o ≡ Some b → (a : A) × (o ≡ Some a) × (f a ≡ b)
on_some_some f None b e = cc
on_some_some f (Some a) b e = (a, refl, cc)

-- what stands in the table where f is put on what stood at v
pub put_on_some : {A : Type 0} (Q : Type 0) (t : ℕ → Option A) (v : ℕ) (f : A → A) (u : ℕ) (a : A) → ((b : A) → u ≡ v → t u ≡ Some b → f b ≡ a → Q) → (t u ≡ Some a → Q)
    → put t v (on_some f (t v)) u ≡ Some a → Q
put_on_some Q t v f u a here there =
    put_case (λ o. o ≡ Some a → Q) t v (on_some f (t v)) u (λ e q. (let g = on_some_some f (t v) a q in here g.0 e (ap t e ∙ g.1) g.2)) (λ _ q. there q)

pub is_some_false : {A : Type 0} (o : Option A) → is_some o ≡ false → o ≡ None
is_some_false None q = refl
is_some_false (Some x) q = cc

-- The least number that passes.

-- o is the least number below n that passes the test t, or none below n does
abbrev Least : ℕ → (ℕ → Bool) → Option ℕ → Type 0
Least n t o = MatchOption o ((i : ℕ) → i < n → t i ≡ false) (λ i. (i < n) × (t i ≡ true) × ((j : ℕ) → j < i → t j ≡ false))

least_is : (n : ℕ) (t : ℕ → Bool) → Least n t (least n t)
unfolding least
least_is zero t = λ i h. absurd (omega arith)
least_is (suc n) t = go (least n t) (least_is n t)
  where
    go : (o : Option ℕ) → Least n t o → Least (suc n) t (or_else o (cond (t n) (Some n) None))
    go (Some j) f = (omega arith, f.1, f.2)
    go None f =
        cond_both (t n) (Some n) None (Least (suc n) t) (λ e. (omega arith, e, f))
        (λ e i h. ⊎_elim (λ z. subst (λ k. t k ≡ false) (sym z) e) (λ z. f i (omega arith)) (cases_eq i n))

pub least_some : (n : ℕ) (t : ℕ → Bool) (i : ℕ) → least n t ≡ Some i → (i < n) × (t i ≡ true) × ((j : ℕ) → j < i → t j ≡ false)
least_some n t i e = subst (Least n t) e (least_is n t)

pub least_none : (n : ℕ) (t : ℕ → Bool) → least n t ≡ None → (i : ℕ) → i < n → t i ≡ false
least_none n t e = subst (Least n t) e (least_is n t)

-- Members of a list.

abbrev pub In : {A : Type 0} → A → List A → Type 0
In x [] = ⊥
In x (y ∷ ys) = (x ≡ y) ⊎ In x ys

-- Slots.

-- a live or retired slot has a version
abbrev pub HasVersion : ℕ → Stage → Type 0
HasVersion v Draft = ⊥
HasVersion v (Live x) = x ≡ v
HasVersion v (Retired x t) = x ≡ v

-- each place has an age
pub age_of : (first p : ℕ) → p < 8 → (i : ℕ) × (i < 8) × ((first + i) % 8 ≡ p)
age_of first p h = ((p + 8 - first % 8) % 8, omega arith, omega arith)

-- an edit changes the body alone
pub edited_same : (u r : ℕ) (f : Body → Body) (o : ℕ) (sl : Slot) → ((edited u r f o sl).number ≡ sl.number) × ((edited u r f o sl).stage ≡ sl.stage)
edited_same u r f o sl =
    cond_both (eqb o u && draft_of r (Some sl)) (record sl { body = f sl.body }) sl
    (λ (x : Slot). (x.number ≡ sl.number) × (x.stage ≡ sl.stage)) (λ _. (refl, refl)) (λ _. (refl, refl))

-- Bytes in a home.

-- a home that takes a write has the record
pub takes_within : (m : Meaning) (k : ℕ) → home.write_fault m k ≡ None → k < length m.bodies
takes_within m k =
    cond_both (ltb k (length m.bodies)) (m.verdict [] k) (Some (home.outside k)) (λ o. o ≡ None → k < length m.bodies) (λ t _. ltb-true k (length m.bodies) t) (λ _ e. cc)

-- the bytes after a write are those before, but for the one record
pub home_written : (m : Meaning) (k : ℕ) (bytes : List ℕ) → k < length m.bodies → (r : ℕ) → home_bytes (home.written m k bytes) r ≡ put (home_bytes m) k bytes r
home_written m k bytes lt r =
    eq_case (λ b. get_or (set m.bodies k bytes) r [] ≡ cond b bytes (get_or m.bodies r [])) r k
    (λ e. ap (λ j. get_or (set m.bodies k bytes) j []) e ∙ get_or-set_same m.bodies k bytes [] lt) (λ n. get_or-set_other m.bodies k r bytes [] n)
