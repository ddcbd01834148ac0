-- What a line of a loading list does to a home, and what is told of it.
use Rattle.std.specs.Prelude.{◌≡◌, ℕ, ◌<◌, Bool, true, false, cond, List, [], length, Some, None, Ok, Err, Option, Result, nat_lt, slice_index_or, slice_set}
use Rattle.interfaces.specs.declared.fault.Fault.{Fault}
use Rattle.interfaces.specs.Homes.{Meaning, write_fault, after_write}
use Rattle.entries.specs.declared.Entry.{Entry}
use Rattle.entries.specs.declared.BadLine.{BadLine}
use Rattle.loading.specs.declared.reply.Reply.{Reply}
use Rattle.loading.specs.declared.reply.Reply.TheVariants.{Bad, Written, Refused}

-- record k is there and has these bytes
abbrev pub Holds : Meaning → ℕ → List ℕ → Type 0
Holds m k body = (k < length m.bodies) × (slice_index_or m.bodies k [] ≡ body)

-- what is told of an entry: refused, or written
abbrev pub told : ℕ → Option Fault → Reply
told k None = Written k
told k (Some fault) = Refused k fault

abbrev pub load_reply : Meaning → Entry → Reply
load_reply m e = told e.«record» (write_fault m e.«record»)

-- the marks of the loaded records, after a write that may have been refused
abbrev pub marked : List Bool → ℕ → Option Fault → List Bool
marked marks k None = slice_set marks k true
marked marks k (Some _) = marks

abbrev pub marks_loaded : Meaning → Entry → List Bool → List Bool
marks_loaded m e marks = marked marks e.«record» (write_fault m e.«record»)

-- the same of a line, which may be bad
abbrev pub reply_to : Meaning → Result Entry BadLine → Reply
reply_to m (Err bad) = Bad bad
reply_to m (Ok e) = load_reply m e

abbrev pub after_line : Meaning → Result Entry BadLine → Meaning
after_line m (Err _) = m
after_line m (Ok e) = after_write m e.«record» e.body

abbrev pub marks_after : Meaning → Result Entry BadLine → List Bool → List Bool
marks_after m (Err _) marks = marks
marks_after m (Ok e) marks = marks_loaded m e marks

-- what the table shows of record k: its bytes, if it was loaded
abbrev pub row : Meaning → List Bool → ℕ → Option (List ℕ)
row m marks k = cond (slice_index_or marks k false) (cond (nat_lt k (length m.bodies)) (Some (slice_index_or m.bodies k [])) None) None
