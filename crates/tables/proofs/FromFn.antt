-- An array that is made from a function of the index.
use Rattle.std.proofs.Common.{◌≡◌, ℕ, zero, suc, ◌+◌, ◌<◌, ◌≤◌, List, get_or, map, sym, ap, ◌∙◌, subst, arith}
use Rattle.std.specs.Array.{IsFromFnResult, IsFromFnResultFrom}
use Rattle.std.specs.Fn.{Called, Mut}
use Rattle.std.specs.List.{range_with_len}
use Rattle.std.proofs.lemmas.List.FromFn.{fill_by_all}

-- the closure stays f, and gives the value at i for each i below n
module _ {F A : Type 0} (g : Mut F (ℕ × Unit {0}) A) (value : ℕ → A) (f : F) (n : ℕ) (gives : (i : ℕ) (a : A) (f' : F) → i < n → Called g f (i, tt) a f' → (a ≡ value i) × (f' ≡ f)) where
  filled : (xs : List A) (d : A) (m i : ℕ) → i + m ≡ n → IsFromFnResultFrom g f xs i m → (k : ℕ) → i ≤ k → k < n → get_or xs k d ≡ value k
  filled xs d zero i e all k low high = absurd (omega arith)
  filled xs d (suc m) i e (f', a, is, called, rest) k low high =
      let here = gives i a f' (omega arith) called in
      let read = is.1 d in
      let later = filled xs d m (i + 1) (omega arith) (subst (λ p. IsFromFnResultFrom g p xs (i + 1) m) here.1 rest) k in
      grind arith

  -- what is computed of the array is computed of the values in order
  pub of_values : {R : Type 0} (h : List A → R) (r : R) (xs : List A) (d : A) → IsFromFnResult g f xs n → h xs ≡ r → r ≡ h (map value (range_with_len 0 n))
  of_values h r xs d made e = sym e ∙ ap h (fill_by_all value xs n d made.long (λ k lt. filled xs d n 0 (omega arith) made.each k (omega arith) lt))
