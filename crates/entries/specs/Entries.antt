-- A line of a loading list, and the entry that it gives.
use Rattle.std.specs.Prelude.{ℕ, ◌-◌, Bool, true, cond, ◌&&◌, List, [], ◌∷◌, length, take, drop, Ok, Err, Result, ◌==◌, nat_le, nat_lt, slice_index}
use Rattle.entries.specs.declared.BadLine.{BadLine}
use Rattle.entries.specs.declared.BadLine.TheVariants.{NoRecord, RecordTooLarge, NoBlank, WrongLength, NotHexadecimal}
use Rattle.entries.specs.declared.Entry.{Entry}
use Rattle.entries.specs.Digits.{is_decimal, number, is_hexadecimal, pair_values}

-- whether a text has a first byte, and it is c
abbrev pub begins_with : ℕ → List ℕ → Bool
begins_with c text = nat_lt 0 (length text) && slice_index text 0 == c

-- whether a text has a last byte, and it is c
abbrev pub ends_with : ℕ → List ℕ → Bool
ends_with c text = nat_lt 0 (length text) && slice_index text (length text - 1) == c

-- a line, less the one carriage return that it may end in
abbrev pub without_return : List ℕ → List ℕ
without_return line = cond (ends_with 13 line) (take (length line - 1) line) line

-- the decimal digits that a text begins with
abbrev pub leading : List ℕ → List ℕ
leading [] = []
leading (c ∷ cs) = cond (is_decimal c) (c ∷ leading cs) []

-- what follows them
abbrev pub following : List ℕ → List ℕ
following [] = []
following (c ∷ cs) = cond (is_decimal c) (following cs) (c ∷ cs)

-- whether each byte is a hexadecimal digit
abbrev pub all_hexadecimal : List ℕ → Bool
all_hexadecimal [] = true
all_hexadecimal (c ∷ cs) = is_hexadecimal c && all_hexadecimal cs

-- a line that does not pass a test is bad, and the others are read on
abbrev pub unless : {A : Type 0} → Bool → BadLine → Result A BadLine → Result A BadLine
unless test bad more = cond test more (Err bad)

-- the record number that the leading digits write: there are some, and it is at most 65,535
abbrev pub record_of : List ℕ → Result ℕ BadLine
record_of digits =
    unless (nat_lt 0 (length digits)) NoRecord
    (unless (nat_le (number digits) 65535) RecordTooLarge
    (Ok (number digits)))

-- the body behind the record number: a blank, and 32 hexadecimal digits
abbrev pub body_of : List ℕ → Result (List ℕ) BadLine
body_of rest =
    unless (begins_with 32 rest) NoBlank
    (unless (length (drop 1 rest) == 32) WrongLength
    (unless (all_hexadecimal (drop 1 rest)) NotHexadecimal
    (Ok (pair_values (drop 1 rest)))))

-- the entry of a record number and a body, or the first refusal
abbrev pub entry_from : Result ℕ BadLine → Result (List ℕ) BadLine → Result Entry BadLine
entry_from (Err bad) _ = Err bad
entry_from (Ok n) (Err bad) = Err bad
entry_from (Ok n) (Ok bytes) = Ok (record { «record» = n; body = bytes })

-- the entry that a line with no carriage return gives
abbrev pub entry_in : List ℕ → Result Entry BadLine
entry_in text = entry_from (record_of (leading text)) (body_of (following text))

-- the entry that a line gives
abbrev pub entry_of : List ℕ → Result Entry BadLine
entry_of line = entry_in (without_return line)
