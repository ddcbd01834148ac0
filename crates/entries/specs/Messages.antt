-- What is shown of a line that gives no entry.
use Rattle.std.specs.Prelude.{ℕ, List, codes}
use Rattle.entries.specs.declared.BadLine.{BadLine}
use Rattle.entries.specs.declared.BadLine.TheVariants.{NoRecord, RecordTooLarge, NoBlank, WrongLength, NotHexadecimal}

abbrev pub message : BadLine → List ℕ
message NoRecord = codes "no record number at the start of the line"
message RecordTooLarge = codes "record number above 65535"
message NoBlank = codes "no blank after the record number"
message WrongLength = codes "not exactly 32 digits after the blank"
message NotHexadecimal = codes "not a hexadecimal digit among the 32"
