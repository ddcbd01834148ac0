-- Hexadecimal digits, and the bytes that pairs of them write.
use Rattle.std.proofs.Common.{◌≡◌, ℕ, zero, suc, ◌+◌, ◌*◌, Bool, true, false, ◌&&◌, List, [], ◌∷◌, length, Ok, Err, Result, sym, subst, refl, arith}
use Rattle.std.specs.Prelude.{MatchResult, nat_eq}
use Rattle.std.specs.List.{AllByRecursion, prefix_len}
use Rattle.std.proofs.lemmas.Bool.Decides.{nat_tests}
use Rattle.hex.specs.Hex.{◌>>=◌, value_at, decode_pairs, decode_sized}
use Rattle.hex.specs.declared.error.FromHexError.{FromHexError}
use Rattle.entries.specs.declared.BadLine.{BadLine}
use Rattle.entries.specs.declared.BadLine.TheVariants.{NotHexadecimal}
use Rattle.entries.specs.Digits.{is_hexadecimal, Hexadecimal, hex_value, pair_values}
use Rattle.entries.specs.Entries.{all_hexadecimal, unless, body_of}

pub all_from_test : (cs : List ℕ) → all_hexadecimal cs ≡ true → AllByRecursion Hexadecimal cs
all_from_test [] e = tt
all_from_test (c ∷ cs) e = grind (arith, all_from_test cs)

pub test_from_all : (cs : List ℕ) → AllByRecursion Hexadecimal cs → all_hexadecimal cs ≡ true
test_from_all [] h = refl
test_from_all (c ∷ cs) h = grind (arith, test_from_all cs)

-- r is v where the test passed, and else an error
abbrev Passed : {A : Type 0} → Bool → A → Result A FromHexError → Type 0
Passed test v r = MatchResult r (λ x. (test ≡ true) × (x ≡ v)) (λ e. test ≡ false)

digit_passed : (c i : ℕ) → Passed (is_hexadecimal c) (hex_value c) (value_at c i)
digit_passed c i = grind (arith, nat_tests)

pair_passed : (s t u : Bool) (v w : ℕ) (vs : List ℕ) (high low : Result ℕ FromHexError) (more : Result (List ℕ) FromHexError) → Passed s v high → Passed t w low → Passed u vs more
    → Passed (s && (t && u)) ((v * 16 + w) ∷ vs) ((high >>= (λ h. low >>= (λ l. Ok (h * 16 + l)))) >>= (λ byte. more >>= (λ bytes. Ok (byte ∷ bytes))))
pair_passed s t u v w vs (Err e) low more p q r = cc
pair_passed s t u v w vs (Ok h) (Err e) more p q r = grind (arith)
pair_passed s t u v w vs (Ok h) (Ok l) (Err e) p q r = grind (arith)
pair_passed s t u v w vs (Ok h) (Ok l) (Ok bytes) p q r = grind (arith)

pairs_passed : (k i : ℕ) (ds : List ℕ) → length ds ≡ 2 * k → Passed (all_hexadecimal ds) (pair_values ds) (decode_pairs i ds)
unfolding decode_pairs
pairs_passed k i [] e = (refl, refl)
pairs_passed zero i (d ∷ ds) e = absurd (omega arith)
pairs_passed (suc k) i (d ∷ []) e = absurd (omega arith)
pairs_passed (suc k) i (a ∷ b ∷ ds) e = pair_passed _ _ _ _ _ _ _ _ _ (digit_passed a i) (digit_passed b (i + 1)) (pairs_passed k (i + 2) ds (omega arith))

-- the bytes that 32 digits write, or the refusal
abbrev bytes_in : List ℕ → Result (List ℕ) BadLine
bytes_in ds = unless (all_hexadecimal ds) NotHexadecimal (Ok (pair_values ds))

passed_in : (ds : List ℕ) (r : Result (List ℕ) FromHexError) → Passed (all_hexadecimal ds) (pair_values ds) r → MatchResult r (λ bytes. Ok bytes ≡ bytes_in ds) (λ e. Err NotHexadecimal ≡ bytes_in ds)
passed_in ds (Ok bytes) p = grind (arith)
passed_in ds (Err e) p = grind (arith)

sized_passed : (ds : List ℕ) → length ds ≡ 32 → Passed (all_hexadecimal ds) (pair_values ds) (decode_sized ds 16)
sized_passed ds long = rw long (pairs_passed 16 0 ds long)

-- so the library's decoding gives them
pub decoded : (ds : List ℕ) (r : Result (List ℕ) FromHexError) → length ds ≡ 32 → r ≡ decode_sized ds 16 → MatchResult r (λ bytes. Ok bytes ≡ bytes_in ds) (λ e. Err NotHexadecimal ≡ bytes_in ds)
decoded ds r long is = passed_in ds r (subst (Passed (all_hexadecimal ds) (pair_values ds)) (sym is) (sized_passed ds long))

-- a body behind its blank, of the right length
pub body_of_digits : (ds : List ℕ) → length ds ≡ 32 → body_of (32 ∷ ds) ≡ bytes_in ds
body_of_digits ds long = grind (arith, nat_tests)

-- a count of hexadecimal digits from the front on reaches the end exactly where all are; the edit of `read_body` for a letter g, which counts them, is judged by it
pub counted_each : (p : ℕ → Bool) (cs : List ℕ) → ((c : ℕ) → p c ≡ is_hexadecimal c) → nat_eq (prefix_len p cs) (length cs) ≡ all_hexadecimal cs
counted_each p [] same = refl
counted_each p (c ∷ cs) same = let now = same c in let more = counted_each p cs same in grind (arith, now, more)
