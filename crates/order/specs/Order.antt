-- What it is to stand foremost in a row of places, some of which may be empty.
use Rattle.std.specs.Prelude.{◌≡◌, ℕ, ◌<◌, Bool, cond, ◌⊎◌, List, [], ◌∷◌, length, Some, None, Option, slice_index_or}

-- m stands in the row
abbrev pub In : {A : Type 0} → List (Option A) → A → Type 0
In row m = (k : ℕ) × (k < length row) × (slice_index_or row k None ≡ Some m)

-- m stands in the row, and nothing in the row is before it
pub record Foremost {A : Type 0} (before : A → A → Type 0) (row : List (Option A)) (m : A) : Type 0 where
  pub member : In row m
  pub first : (x : A) → In row x → before x m → ⊥

-- m is foremost in the row, and nothing else is
pub record TheForemost {A : Type 0} (before : A → A → Type 0) (row : List (Option A)) (m : A) : Type 0 where
  pub is : Foremost before row m
  pub only : (n : A) → Foremost before row n → n ≡ m

-- what is picked of a row: its foremost, or nothing where every place is empty
abbrev pub Picked : {A : Type 0} → (A → A → Type 0) → List (Option A) → Option A → Type 0
Picked {A = A} before row None = (x : A) → In row x → ⊥
Picked {A = A} before row (Some m) = TheForemost before row m

-- what is kept of the best so far and one more: the one more where it is before the best
abbrev pub Nearer : {A : Type 0} → (A → A → Type 0) → A → A → A → Type 0
Nearer before best x r = (before x best × (r ≡ x)) ⊎ ((before x best → ⊥) × (r ≡ best))

-- of a place and the best so far, what is kept by a test
abbrev pub better : {A : Type 0} → (A → A → Bool) → Option A → Option A → Option A
better test None best = best
better test (Some x) None = Some x
better test (Some x) (Some m) = cond (test x m) (Some x) (Some m)

-- the foremost of the row by a test, None where every place is empty
unfoldable pub pick : {A : Type 0} → (A → A → Bool) → List (Option A) → Option A
pick test [] = None
pick test (x ∷ xs) = better test x (pick test xs)
