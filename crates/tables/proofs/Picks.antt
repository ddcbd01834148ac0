-- The foremost of rows, of which each is picked alone, is the foremost of all of them.
use Rattle.std.proofs.Common.{◌≡◌, Bool, List, [], ◌∷◌, ◌++◌, map, Some, None, Option, sym, refl, ap, ◌∙◌, arith}
use Rattle.std.specs.List.{flat_map}
use Rattle.order.specs.Order.{better, pick}
use Rattle.order.proofs.Picks.{IsTest}

-- by a test that decides a strict total order
module _ {A : Type 0} {before : A → A → Type 0} {test : A → A → Bool} (is : IsTest before test) where
  better_assoc : (a b c : Option A) → better test a (better test b c) ≡ better test (better test a b) c
  better_assoc None b c = refl
  better_assoc (Some x) None c = refl
  better_assoc (Some x) (Some y) None = grind arith
  better_assoc (Some x) (Some y) (Some z) =
      let a = is.decides x y in
      let b = is.decides y z in
      let c = is.decides z y in
      let d = is.decides x z in
      grind (arith, is.order.transitive x y z, is.order.transitive x z y, is.order.total z y)

  pick_append : (xs ys : List (Option A)) → pick test (xs ++ ys) ≡ better test (pick test xs) (pick test ys)
  unfolding pick
  pick_append [] ys = refl
  pick_append (x ∷ xs) ys = ap (better test x) (pick_append xs ys) ∙ better_assoc x (pick test xs) (pick test ys)

  picks : {B : Type 0} (f : B → List (Option A)) (us : List B) → pick test (map (λ u. pick test (f u)) us) ≡ pick test (flat_map f us)
  unfolding pick
  picks f [] = refl
  picks f (u ∷ us) = ap (better test (pick test (f u))) (picks f us) ∙ sym (pick_append (f u) (flat_map f us))

  -- the rows f of us, and one more place
  pub pick_parts : {B : Type 0} (f : B → List (Option A)) (us : List B) (last : Option A)
      → pick test (pick test (map (λ u. pick test (f u)) us) ∷ last ∷ []) ≡ pick test (flat_map f us ++ last ∷ [])
  unfolding pick
  pick_parts f us last = ap (λ p. better test p (better test last None)) (picks f us) ∙ sym (pick_append (flat_map f us) (last ∷ []))
