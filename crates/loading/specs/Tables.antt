-- What a home holds after any lines and replies, by these alone: each record has the body of the last line that was
-- answered as written to it.
use Rattle.std.specs.Prelude.{◌≡◌, ℕ, ◌<◌, Bool, true, false, cond, ◌||◌, List, [], ◌∷◌, ◌++◌, length, Some, None, Ok, Err, Option, Result, ◌==◌, slice_index_or}
use Rattle.entries.specs.declared.Entry.{Entry}
use Rattle.entries.specs.declared.BadLine.{BadLine}
use Rattle.entries.specs.Entries.{entry_of}
use Rattle.loading.specs.declared.reply.Reply.{Reply}
use Rattle.loading.specs.declared.reply.Reply.TheVariants.{Bad, Written, Refused, Differs}

-- a line, and what was told of it
pub record Turn : Type 0 where
  pub line : List ℕ
  pub reply : Reply

-- an entry, where it was told that it is written
abbrev pub if_written : Reply → Result Entry BadLine → Option Entry
if_written (Bad _) e = None
if_written (Written _) (Ok e) = Some e
if_written (Written _) (Err _) = None
if_written (Refused _ _) e = None
if_written (Differs _) e = None

-- the entry that a turn has loaded
abbrev pub loaded : Turn → Option Entry
loaded t = if_written t.reply (entry_of t.line)

-- whether an entry is of record k
abbrev pub is_of : Option Entry → ℕ → Bool
is_of None k = false
is_of (Some e) k = e.«record» == k

-- the body of record k after an entry was loaded, if one was
abbrev pub body_by : Option Entry → ℕ → List ℕ → List ℕ
body_by None k body = body
body_by (Some e) k body = cond (e.«record» == k) e.body body

-- whether some turn has loaded record k
abbrev pub loaded_in : List Turn → ℕ → Bool
loaded_in [] k = false
loaded_in (t ∷ turns) k = is_of (loaded t) k || loaded_in turns k

-- the body of record k after the turns: that of the last turn that has loaded it, or the first
abbrev pub body_after : List Turn → ℕ → List ℕ → List ℕ
body_after [] k body = body
body_after (t ∷ turns) k body = body_after turns k (body_by (loaded t) k body)

-- the home had the bodies `first`, and after the turns it has `bodies`, and the records marked are those loaded
pub record Shows (first : List (List ℕ)) (turns : List Turn) (bodies : List (List ℕ)) (marks : List Bool) : Type 0 where
  pub long : length marks ≡ 65535
  pub count : length bodies ≡ length first
  pub each : (k : ℕ) → k < length first → slice_index_or bodies k [] ≡ body_after turns k (slice_index_or first k [])
  pub marked : (k : ℕ) → slice_index_or marks k false ≡ loaded_in turns k
  pub inside : (k : ℕ) → slice_index_or marks k false ≡ true → k < length first

-- what was so after any turns is so after one more
pub record GoesOn (bodies : List (List ℕ)) (marks : List Bool) (turn : Turn) (bodies' : List (List ℕ)) (marks' : List Bool) : Type 0 where
  pub every : (first : List (List ℕ)) (turns : List Turn) → Shows first turns bodies marks → Shows first (turns ++ (turn ∷ [])) bodies' marks'

-- what the table has of record k after the turns
abbrev pub table : List (List ℕ) → List Turn → ℕ → Option (List ℕ)
table first turns k = cond (loaded_in turns k) (Some (body_after turns k (slice_index_or first k []))) None

-- a row that is as the turns say, whatever they were
pub record RowOf (bodies : List (List ℕ)) (marks : List Bool) (k : ℕ) (r : Option (List ℕ)) : Type 0 where
  pub every : (first : List (List ℕ)) (turns : List Turn) → Shows first turns bodies marks → r ≡ table first turns k
