-- The number that decimal digits write.
use Rattle.std.proofs.Common.{◌≡◌, ℕ, ◌+◌, ◌*◌, ◌<◌, ◌≤◌, cond, leb, List, [], ◌∷◌, length, get_or, drop, Some, None, Option, arith, rules}
use Rattle.std.specs.List.{AllByRecursion}
use Rattle.std.proofs.lemmas.Bool.Decides.{nat_tests}
use Rattle.std.proofs.lemmas.List.{at_drop_more, at_drop_all}
use Rattle.std.proofs.lemmas.Str.Parse.{IsNumeralModel, numerals_by_fold}
use Rattle.entries.specs.Digits.{Decimal, decimal_value, number, number_after}

-- `number` is what the library takes decimal digits to write
pub decimal_numerals : IsNumeralModel (AllByRecursion Decimal) number
decimal_numerals = numerals_by_fold _ (search rules) number_after (search rules)

pub number_after_more : (n : ℕ) (ds : List ℕ) (i : ℕ) → i < length ds → number_after n (drop i ds) ≡ number_after (n * 10 + decimal_value (get_or ds i 0)) (drop (i + 1) ds)
number_after_more n ds i h = at_drop_more (number_after n) ds i 0 h

pub number_after_all : (n : ℕ) (ds : List ℕ) (i : ℕ) → length ds ≤ i → number_after n (drop i ds) ≡ n
number_after_all n ds i h = at_drop_all (number_after n) ds i h

-- more digits write no smaller number
pub number_after_ge : (n : ℕ) (ds : List ℕ) → n ≤ number_after n ds
number_after_ge n [] = omega arith
number_after_ge n (d ∷ ds) = let more = number_after_ge (n * 10 + decimal_value d) ds in omega arith

pub number_after_gt : (n : ℕ) (ds : List ℕ) (i : ℕ) → i < length ds → 65535 < n * 10 + decimal_value (get_or ds i 0) → 65535 < number_after n (drop i ds)
number_after_gt n ds i h above =
    let more = number_after_more n ds i h in
    let ge = number_after_ge (n * 10 + decimal_value (get_or ds i 0)) (drop (i + 1) ds) in
    omega arith

-- a number, where it is a record number
abbrev small : ℕ → Option ℕ
small x = cond (leb x 65535) (Some x) None

pub some_small : (n x : ℕ) → Some n ≡ small x → (n ≡ x) × (n ≤ 65535)
some_small n x e = grind (arith, nat_tests)

pub none_small : (x : ℕ) → None ≡ small x → 65535 < x
none_small x e = grind (arith, nat_tests)

pub small_some : (n x : ℕ) → n ≡ x → n ≤ 65535 → Some n ≡ small x
small_some n x e h = grind (arith, nat_tests)

pub small_none : (x : ℕ) → 65535 < x → None ≡ small x
small_none x h = grind (arith, nat_tests)
