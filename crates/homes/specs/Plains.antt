-- What lent bytes mean as a home: each record takes every write.
use Rattle.std.specs.Prelude.{ℕ, ◌+◌, ◌*◌, cond, List, length, None, nat_lt}
use Rattle.std.specs.List.{replace_range}
use Rattle.interfaces.specs.Homes.{Meaning, WellFormed}
use Rattle.homes.specs.Bodies.{bodies_of, few_bodies, sixteen_bodies}

abbrev pub plain : List ℕ → Meaning
plain bytes = record { bodies = bodies_of bytes; verdict = λ _ _. None }

pub plain_sound : (bytes : List ℕ) → WellFormed (plain bytes)
plain_sound bytes = record { few = few_bodies bytes; sixteen = sixteen_bodies bytes }

-- the bytes after a write of record k was asked for
abbrev pub bytes_after : List ℕ → ℕ → List ℕ → List ℕ
bytes_after bytes k body = cond (nat_lt k (length (bodies_of bytes))) (replace_range bytes (k * 16) (k * 16 + 16) body) bytes
