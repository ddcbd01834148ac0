-- The line that is shown of an entry gives that entry.
use Rattle.std.proofs.Common.{◌≡◌, ℕ, ◌+◌, ◌*◌, ◌/◌, ◌%◌, ◌^◌, ◌<◌, ◌≤◌, List, [], ◌∷◌, ◌++◌, length, Ok, decimal, refl, ap, ◌∙◌, arith}
use Rattle.std.specs.List.{AllByRecursion}
use Rattle.std.proofs.lemmas.Bool.Decides.{nat_tests}
use Rattle.std.proofs.lemmas.Fmt.{decimal_nonempty, digits_decimal, digits_value-decimal}
use Rattle.entries.specs.Digits.{Decimal, number, Hexadecimal, hex_value, hex_digit, pair_values, spelled}
use Rattle.entries.specs.Entries.{entry_in, entry_of}
use Rattle.entries.specs.Spelling.{ShownReadsBack}
use Rattle.entries.proofs.Exactly.{entry_in_is, return_none}
use Rattle.entries.proofs.Numbers.{decimal_numerals}

value_of_digit : (n : ℕ) → n < 16 → hex_value (hex_digit n) ≡ n
value_of_digit n h = grind (arith, nat_tests)

digit_is : (n : ℕ) → n < 16 → Hexadecimal (hex_digit n)
digit_is n h = grind (arith, nat_tests)

pairs_of_spelled : (bs : List ℕ) → AllByRecursion (λ b. b < 256) bs → pair_values (spelled bs) ≡ bs
pairs_of_spelled [] h = refl
pairs_of_spelled (b ∷ bs) h =
    let byte = h.0 in
    let high = value_of_digit (b / 16) (omega arith) in
    let low = value_of_digit (b % 16) (omega arith) in
    let first : hex_value (hex_digit (b / 16)) * 16 + hex_value (hex_digit (b % 16)) ≡ b = omega arith in
    let rest = pairs_of_spelled bs h.1 in
    λ i. first i ∷ rest i

hexadecimal_spelled : (bs : List ℕ) → AllByRecursion (λ b. b < 256) bs → AllByRecursion Hexadecimal (spelled bs)
hexadecimal_spelled [] h = tt
hexadecimal_spelled (b ∷ bs) h = let byte = h.0 in (digit_is (b / 16) (omega arith), (digit_is (b % 16) (omega arith), hexadecimal_spelled bs h.1))

length_spelled : (bs : List ℕ) → length (spelled bs) ≡ 2 * length bs
length_spelled [] = refl
length_spelled (b ∷ bs) = grind (arith, length_spelled bs)

spelled_reads_back : (ds bytes : List ℕ) → 0 < length ds → AllByRecursion Decimal ds → number ds ≤ 65535 → length bytes ≡ 16 → AllByRecursion (λ b. b < 256) bytes →
    entry_of (ds ++ (32 ∷ spelled bytes)) ≡ Ok (record { «record» = number ds; body = bytes })
spelled_reads_back ds bytes some decimal small sixteen each =
    let double = length_spelled bytes in
    let long : length (spelled bytes) ≡ 32 = omega arith in
    let hex = hexadecimal_spelled bytes each in
    let same = pairs_of_spelled bytes each in
    ap entry_in (return_none ds (spelled bytes) long hex)
    ∙ entry_in_is ds (spelled bytes) some decimal small long hex
    ∙ (λ i. Ok (record { «record» = number ds; body = same i }))

pub shown_reads_back : ShownReadsBack
shown_reads_back e small sixteen each =
    let n = e.«record» in
    let fits : e.«record» < 2 ^ 64 = omega arith in
    let same = digits_value-decimal decimal_numerals n fits in
    let below : number (decimal e.«record») ≤ 65535 = omega arith in
    spelled_reads_back (decimal n) e.body (decimal_nonempty n fits) (digits_decimal decimal_numerals n fits) below sixteen each
    ∙ (λ i. Ok (record { «record» = same i; body = e.body }))
