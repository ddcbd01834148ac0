-- The least number that passes a test, from a search.
use Rattle.std.proofs.Common.{◌≡◌, ℕ, zero, suc, ◌+◌, ◌<◌, ◌≤◌, Bool, true, false, ◌||◌, cond, List, [], ◌∷◌, ◌++◌, length, get_or, take, Some, None, Option, sym, refl, ap, ◌∙◌, add-one, zero-add, arith}
use Rattle.std.specs.List.{find, list_any, range_with_len, enumerate_from}
use Rattle.std.specs.Option.{option_or}
use Rattle.std.proofs.lemmas.List.{map-id, take_all}
use Rattle.std.proofs.lemmas.List.Folds.{find-append, list_any_more}
use Rattle.std.proofs.lemmas.List.FromFn.{map-range_with_len_more, length-enumerate_from, get_or-enumerate_from}
use Rattle.model.specs.Tools.{least, is_some, or_else}

first_more : (n : ℕ) (o : Option ℕ) (b : Bool) → option_or o (cond b (Some n) None) ≡ or_else o (cond b (Some n) None)
first_more n None b = refl
first_more n (Some i) b = refl

-- a search of the numbers below n, one after another
pub find_least : (t : ℕ → Bool) (n : ℕ) → find t (range_with_len 0 n) ≡ least n t
unfolding least
find_least t zero = refl
find_least t (suc n) =
    let more : range_with_len 0 (n + 1) ≡ range_with_len 0 n ++ n ∷ [] = sym (map-id _) ∙ map-range_with_len_more (λ i. i) 0 n n (zero-add n) ∙ ap (λ l. l ++ n ∷ []) (map-id _) in
    ap (λ m. find t (range_with_len 0 m)) (sym (add-one n)) ∙ ap (find t) more ∙ find-append t (range_with_len 0 n) (n ∷ [])
    ∙ ap (λ o. option_or o (find t (n ∷ []))) (find_least t n) ∙ first_more n (least n t) (t n)

some_more : (n : ℕ) (o : Option ℕ) (b : Bool) → (is_some o || b) ≡ is_some (or_else o (cond b (Some n) None))
some_more n None true = refl
some_more n None false = refl
some_more n (Some i) b = refl

-- a search of a list for any element that passes
module _ {X : Type 0} (p : ℕ × X → Bool) (xs : List X) (d : X) where
  any_below : (n : ℕ) → n ≤ length xs → list_any p (take n (enumerate_from 0 xs)) ≡ is_some (least n (λ i. p (i, get_or xs i d)))
  unfolding least
  any_below zero le = refl
  any_below (suc n) le =
      let lt : n < length (enumerate_from 0 xs) = omega (arith, length-enumerate_from 0 xs) in
      let more = list_any_more p (enumerate_from 0 xs) n (0, d) lt in
      let at : get_or (enumerate_from 0 xs) n (0, d) ≡ (n, get_or xs n d) = get_or-enumerate_from 0 xs n (0, d) (omega arith) ∙ ap (λ i. (i, get_or xs n d)) (zero-add n) in
      rw (← add-one) (rw (more, any_below n (omega arith), at) (some_more n _ _))

  pub any_least : (n : ℕ) → length xs ≡ n → list_any p (enumerate_from 0 xs) ≡ is_some (least n (λ i. p (i, get_or xs i d)))
  any_least n long = ap (list_any p) (sym (take_all n (enumerate_from 0 xs) (omega (arith, length-enumerate_from 0 xs, long)))) ∙ any_below n (omega (arith, long))
