-- The decimal digits that a text begins with, and what follows them.
use Rattle.std.proofs.Common.{◌≡◌, ℕ, ◌+◌, true, false, cond, List, [], ◌∷◌, ◌++◌, drop, refl, ap, ◌∙◌, arith}
use Rattle.std.specs.List.{AllByRecursion, prefix_len, take_while}
use Rattle.std.proofs.lemmas.Grind.{common_steps}
use Rattle.std.proofs.lemmas.List.{take-append-drop}
use Rattle.std.proofs.lemmas.List.Sums.{prefix_len-le-length, take_while-cons}
use Rattle.std.proofs.Math.Numerals.{one-add}
use Rattle.entries.specs.Digits.{is_decimal, Decimal}
use Rattle.entries.specs.Entries.{leading, following}

pub leading_decimal : (xs : List ℕ) → AllByRecursion Decimal (leading xs)
leading_decimal [] = tt
leading_decimal (c ∷ cs) = grind (arith, leading_decimal cs)

pub take_is : (xs : List ℕ) → take_while is_decimal xs ≡ leading xs
take_is [] = refl
take_is (c ∷ cs) = take_while-cons is_decimal c cs ∙ ap (λ l. cond (is_decimal c) (c ∷ l) []) (take_is cs)

pub drop_is : (xs : List ℕ) → drop (prefix_len is_decimal xs) xs ≡ following xs
drop_is [] = refl
drop_is (c ∷ cs) =
    elim (is_decimal c) as (λ t. drop (cond t (1 + prefix_len is_decimal cs) 0) (c ∷ cs) ≡ cond t (following cs) (c ∷ cs)) [ true ↦ simp one-add (drop_is cs) | false ↦ refl ]

pub leading_and_following : (xs : List ℕ) → xs ≡ leading xs ++ following xs
leading_and_following xs = grind (arith, common_steps, take_is xs, drop_is xs, take-append-drop)

-- what splitting behind the leading digits gives
pub ruleset leads = (take_is, drop_is, leading_decimal, prefix_len-le-length)
