-- Which line spells which entry, in the words of the format.
use Rattle.std.specs.Prelude.{◌≡◌, ℕ, ◌<◌, ◌≤◌, ◌⊎◌, List, [], ◌∷◌, ◌++◌, length, Ok, codes, decimal, Result}
use Rattle.std.specs.List.{AllByRecursion}
use Rattle.entries.specs.declared.BadLine.{BadLine}
use Rattle.entries.specs.declared.Entry.{Entry}
use Rattle.entries.specs.Digits.{Decimal, number, Hexadecimal, pair_values, spelled}
use Rattle.entries.specs.Entries.{entry_of}

-- the line is decimal digits, a blank, 32 hexadecimal digits, and a carriage return or nothing;
-- the digits write the record number, and the pairs of hexadecimal digits the body
pub record Spells (line : List ℕ) (e : Entry) : Type 0 where
  pub digits : List ℕ
  pub hexes : List ℕ
  pub ending : List ℕ
  pub is : line ≡ digits ++ ((32 ∷ hexes) ++ ending)
  pub some : 0 < length digits
  pub decimal : AllByRecursion Decimal digits
  pub record_is : e.«record» ≡ number digits
  pub small : e.«record» ≤ 65535
  pub long : length hexes ≡ 32
  pub hexadecimal : AllByRecursion Hexadecimal hexes
  pub body_is : e.body ≡ pair_values hexes
  pub ends : (ending ≡ []) ⊎ (ending ≡ 13 ∷ [])

-- a line is read as an entry exactly where it spells that entry
pub record ReadsExactly (line : List ℕ) (r : Result Entry BadLine) : Type 0 where
  pub spelled_line : (e : Entry) → r ≡ Ok e → Spells line e
  pub read_line : (e : Entry) → Spells line e → r ≡ Ok e

-- the line that is shown of an entry
abbrev pub line_of : Entry → List ℕ
line_of e = decimal e.«record» ++ (codes " " ++ spelled e.body)

-- the line that is shown of an entry gives that entry
abbrev pub ShownReadsBack : Type 0
ShownReadsBack = (e : Entry) → e.«record» ≤ 65535 → length e.body ≡ 16 → AllByRecursion (λ b. b < 256) e.body → entry_of (line_of e) ≡ Ok e
