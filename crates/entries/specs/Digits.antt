-- Decimal and hexadecimal digits, as bytes of text, and what they are worth.
use Rattle.std.specs.Prelude.{◌≡◌, ℕ, ◌+◌, ◌-◌, ◌*◌, ◌/◌, ◌%◌, Bool, true, cond, ◌&&◌, ◌||◌, List, [], ◌∷◌, nat_le, nat_lt}

-- whether c stands from low to high
abbrev pub within : ℕ → ℕ → ℕ → Bool
within low high c = nat_le low c && nat_le c high

-- the decimal digits, 0 to 9
abbrev pub is_decimal : ℕ → Bool
is_decimal c = within 48 57 c

abbrev pub Decimal : ℕ → Type 0
Decimal c = is_decimal c ≡ true

-- what a decimal digit is worth
abbrev pub decimal_value : ℕ → ℕ
decimal_value c = c - 48

-- the number that digits write behind those that write n, the most significant digit first
abbrev pub number_after : ℕ → List ℕ → ℕ
number_after n [] = n
number_after n (d ∷ ds) = number_after (n * 10 + decimal_value d) ds

-- the number that digits write
abbrev pub number : List ℕ → ℕ
number ds = number_after 0 ds

-- the hexadecimal digits, 0 to 9, A to F and a to f
abbrev pub is_hexadecimal : ℕ → Bool
is_hexadecimal c = within 48 57 c || (within 65 70 c || within 97 102 c)

abbrev pub Hexadecimal : ℕ → Type 0
Hexadecimal c = is_hexadecimal c ≡ true

-- what a hexadecimal digit is worth: A and a are ten
abbrev pub hex_value : ℕ → ℕ
hex_value c = cond (nat_lt c 65) (c - 48) (cond (nat_lt c 97) (c - 55) (c - 87))

-- the bytes that pairs of hexadecimal digits write, the more significant digit first
abbrev pub pair_values : List ℕ → List ℕ
pair_values [] = []
pair_values (d ∷ []) = []
pair_values (high ∷ low ∷ ds) = (hex_value high * 16 + hex_value low) ∷ pair_values ds

-- the digit that is worth n, a capital from ten on
abbrev pub hex_digit : ℕ → ℕ
hex_digit n = cond (nat_lt n 10) (48 + n) (55 + n)

-- the digits that spell bytes, two for each
abbrev pub spelled : List ℕ → List ℕ
spelled [] = []
spelled (b ∷ bs) = hex_digit (b / 16) ∷ hex_digit (b % 16) ∷ spelled bs
