-- One more write of a row.
use Rattle.std.proofs.Common.{◌≡◌, ℕ, ◌+◌, ◌<◌, List, ◌∷◌, length, get_or, drop, refl}
use Rattle.std.proofs.lemmas.List.{drop_more}
use Rattle.interfaces.specs.Faults.{answer}
use Rattle.interfaces.specs.Homes.{Meaning, write_fault, after_write}
use Rattle.clients.specs.Writes.{answers_of, after_writes}

pub answers_more : (m : Meaning) (numbers body : List ℕ) (k : ℕ) → k < length numbers →
    answers_of m (drop k numbers) body ≡ answer (write_fault m (get_or numbers k 0)) ∷ answers_of (after_write m (get_or numbers k 0) body) (drop (k + 1) numbers) body
answers_more m numbers body k h = rw (drop_more numbers k 0 h) refl

pub writes_more : (m : Meaning) (numbers body : List ℕ) (k : ℕ) → k < length numbers →
    after_writes m (drop k numbers) body ≡ after_writes (after_write m (get_or numbers k 0) body) (drop (k + 1) numbers) body
writes_more m numbers body k h = rw (drop_more numbers k 0 h) refl
