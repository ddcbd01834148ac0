-- The pick of a row by a test is what is picked of it by the order that the test decides.
use Rattle.std.proofs.Common.{◌≡◌, Bool, List, [], ◌∷◌, Some, None, Decides, Option, refl, ap, subst, arith, rules, Contains}
use Rattle.std.proofs.lemmas.Bool.{cond_both}
use Rattle.std.proofs.lemmas.List.Elements.{Contains-append_right}
use Rattle.order.specs.Order.{In, Foremost, Picked, better, pick}
use Rattle.order.specs.Kinds.{OpenSectionBefore, CandidateBefore, open_section_test, candidate_test}
use Rattle.order.specs.declared.open_section.OpenSection.{OpenSection}
use Rattle.order.specs.declared.candidate.Candidate.{Candidate}
use Rattle.order.proofs.Bests.{IsOrder, Best, members, foremost_of, none_of, cons_cases, best_begun, best_more}

-- the test decides a strict total order
pub record IsTest {A : Type 0} (before : A → A → Type 0) (test : A → A → Bool) : Type 0 where
  pub decides : (x y : A) → Decides (test x y) (before x y)
  pub order : IsOrder before

module _ {A : Type 0} {before : A → A → Type 0} {test : A → A → Bool} (is : IsTest before test) where
  -- the better of one more member and the best of a list
  better_best : (x : A) (xs : List A) (best : Option A) → Best before (Contains xs) best → Best before (Contains (x ∷ xs)) (better test (Some x) best)
  better_best x xs None b = best_begun is.order x (0, omega arith, refl) (cons_cases x xs) b
  better_best x xs (Some m) b =
      let more = λ (r : A). best_more is.order x (0, omega arith, refl) (cons_cases x xs) (Contains-append_right (x ∷ []) xs) m r in
      cond_both (test x m) (Some x) (Some m) (Best before (Contains (x ∷ xs))) (λ e. more x (search (rules, is.decides x m)) b) (λ e. more m (search (rules, is.decides x m)) b)

  pick_best : (row : List (Option A)) → Best before (Contains (members row)) (pick test row)
  unfolding pick
  pick_best [] = search rules
  pick_best (None ∷ row) = pick_best row
  pick_best (Some x ∷ row) = better_best x (members row) (pick test row) (pick_best row)

  pub pick_foremost : (row : List (Option A)) (m : A) → pick test row ≡ Some m → Foremost before row m
  pick_foremost row m e = foremost_of before row m (subst (Best before (Contains (members row))) e (pick_best row))

  pub pick_none : (row : List (Option A)) → pick test row ≡ None → (x : A) → In row x → ⊥
  pick_none row e = none_of before row (subst (Best before (Contains (members row))) e (pick_best row))

  -- what is picked of a row is its pick
  pub picked : (row : List (Option A)) (r : Option A) → Picked before row r → pick test row ≡ r
  picked row r p = go r (pick test row) refl p
    where
      go : (r q : Option A) → pick test row ≡ q → Picked before row r → q ≡ r
      go None None e p = refl
      go None (Some n) e p = search (rules, p n, pick_foremost row n e)
      go (Some m) None e p = search (rules, pick_none row e m, p)
      go (Some m) (Some n) e p = ap Some (p.only n (pick_foremost row n e))

-- open sections --

pub open_sections : IsTest OpenSectionBefore open_section_test
open_sections = record {
  decides = λ x y. search rules;
  order = record { irreflexive = λ x. search rules; transitive = λ x y z. search rules; total = λ x y. search rules };
}

pub open_section_member : (row : List (Option OpenSection)) (m : OpenSection) → pick open_section_test row ≡ Some m → In row m
open_section_member row m e = (pick_foremost open_sections row m e).member

pub open_section_first : (row : List (Option OpenSection)) (m : OpenSection) → pick open_section_test row ≡ Some m → (x : OpenSection) → In row x → OpenSectionBefore x m → ⊥
open_section_first row m e = (pick_foremost open_sections row m e).first

pub open_section_none : (row : List (Option OpenSection)) → pick open_section_test row ≡ None → (x : OpenSection) → In row x → ⊥
open_section_none = pick_none open_sections

pub open_section_picked : (row : List (Option OpenSection)) (r : Option OpenSection) → Picked OpenSectionBefore row r → pick open_section_test row ≡ r
open_section_picked = picked open_sections

-- candidates --

pub candidates : IsTest CandidateBefore candidate_test
candidates = record {
  decides = λ x y. search rules;
  order = record { irreflexive = λ x. search rules; transitive = λ x y z. search rules; total = λ x y. search rules };
}

pub candidate_member : (row : List (Option Candidate)) (m : Candidate) → pick candidate_test row ≡ Some m → In row m
candidate_member row m e = (pick_foremost candidates row m e).member

pub candidate_first : (row : List (Option Candidate)) (m : Candidate) → pick candidate_test row ≡ Some m → (x : Candidate) → In row x → CandidateBefore x m → ⊥
candidate_first row m e = (pick_foremost candidates row m e).first

pub candidate_none : (row : List (Option Candidate)) → pick candidate_test row ≡ None → (x : Candidate) → In row x → ⊥
candidate_none = pick_none candidates

pub candidate_picked : (row : List (Option Candidate)) (r : Option Candidate) → Picked CandidateBefore row r → pick candidate_test row ≡ r
candidate_picked = picked candidates
