-- Arrays that are filled, or changed place by place.
use Rattle.std.proofs.Common.{◌≡◌, ℕ, ◌+◌, ◌<◌, ◌≤◌, ◌≢◌, List, length, get_or, set, sym, refl, ◌∙◌, subst, ⊎_elim, arith, length-set, below_more}
use Rattle.std.proofs.lemmas.List.{get_or-set_same, get_or-set_other, get_or_past}
use Rattle.std.proofs.lemmas.Bool.{cases_lt}

-- one more cell is filled
pub filled_more : {A : Type 0} (f : ℕ → A) (d : A) (xs : List A) (n : ℕ) (a : A) → n < length xs → a ≡ f n → ((j : ℕ) → j < n → get_or xs j d ≡ f j) → (j : ℕ) → j < n + 1 → get_or (set xs n a) j d ≡ f j
filled_more f d xs n a lt e below =
    below_more _ _ (λ j h. (let ne : j ≢ n = omega arith in get_or-set_other xs n j a d ne ∙ below j h)) (get_or-set_same xs n a d lt ∙ e)

-- a loop that goes over a list and changes each place: below n all is done, and from n on all is as it was
pub record Halfway {A : Type 0} (d : A) (done : ℕ → A → Type 0) (xs ys : List A) (n : ℕ) : Type 0 where
  pub long : length ys ≡ length xs
  pub below : (j : ℕ) → j < n → done j (get_or ys j d)
  pub above : (j : ℕ) → n ≤ j → get_or ys j d ≡ get_or xs j d

module _ {A : Type 0} (d : A) (done : ℕ → A → Type 0) (xs : List A) where
  pub halfway_none : Halfway d done xs xs 0
  halfway_none = record { long = refl; below = λ j h. absurd (let f : ⊥ = omega arith in f); above = λ j h. refl }

  module _ (ys : List A) (n : ℕ) (half : Halfway d done xs ys n) where
    pub halfway_set : (a : A) → n < length xs → done n a → Halfway d done xs (set ys n a) (n + 1)
    halfway_set a lt k =
        let lt' : n < length ys = omega (arith, half.long) in
        record {
          long = length-set ys n a ∙ half.long;
          below = below_more _ _ (λ j h. (let ne : j ≢ n = omega arith in subst (done j) (sym (get_or-set_other ys n j a d ne)) (half.below j h))) (subst (done n) (sym (get_or-set_same ys n a d lt')) k);
          above = λ j h. (let ne : j ≢ n = omega arith in get_or-set_other ys n j a d ne ∙ half.above j (omega arith));
        }

    pub halfway_all : length xs ≤ n → ((j : ℕ) → length xs ≤ j → done j d) → (j : ℕ) → done j (get_or ys j d)
    halfway_all end past j =
        ⊎_elim (half.below j) (λ ge. subst (done j) (sym (get_or_past ys j d (omega (arith, half.long)))) (past j (omega arith))) (cases_lt j n)
