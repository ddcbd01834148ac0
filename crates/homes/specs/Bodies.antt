-- Bytes as records of sixteen bytes, one after another.
use Rattle.std.specs.Prelude.{◌≡◌, ℕ, zero, suc, ◌+◌, ◌-◌, ◌*◌, ◌/◌, ◌<◌, ◌≤◌, min, List, [], length, drop, slice_index_or, refl}
use Rattle.std.specs.List.{between}
use Rattle.std.specs.Simd.{first_chunks}
use Rattle.std.proofs.Common.{ap, ◌∙◌, arith, length-take, length-drop}
use Rattle.std.proofs.lemmas.Grind.{common_steps}

-- how many records there are in n bytes
abbrev pub records_in : ℕ → ℕ
records_in n = min (n / 16) 65535

-- what each record holds
unfoldable pub bodies_of : List ℕ → List (List ℕ)
bodies_of bytes = first_chunks 16 (records_in (length bytes)) bytes

length-first_chunks : (n k : ℕ) (bytes : List ℕ) → length (first_chunks n k bytes) ≡ k
length-first_chunks n zero bytes = refl
length-first_chunks n (suc k) bytes = ap suc (length-first_chunks n k (drop n bytes))

pub get_or-first_chunks : (n k : ℕ) (bytes : List ℕ) (i : ℕ) (d : List ℕ) → i < k → slice_index_or (first_chunks n k bytes) i d ≡ between (i * n) (i * n + n) bytes
get_or-first_chunks n zero bytes i d h = absurd (omega arith)
get_or-first_chunks n (suc k) bytes zero d h = grind (arith, common_steps)
get_or-first_chunks n (suc k) bytes (suc i) d h = get_or-first_chunks n k (drop n bytes) i d (omega arith) ∙ grind (arith, common_steps)

pub length_bodies : (bytes : List ℕ) → length (bodies_of bytes) ≡ records_in (length bytes)
unfolding bodies_of
length_bodies bytes = length-first_chunks 16 _ bytes

pub few_bodies : (bytes : List ℕ) → length (bodies_of bytes) ≤ 65535
few_bodies bytes = omega (arith, length_bodies bytes)

pub body_within : (bytes : List ℕ) (k : ℕ) → k < length (bodies_of bytes) → k * 16 + 16 ≤ length bytes
body_within bytes k h = omega (arith, length_bodies bytes)

pub get_or_bodies : (bytes : List ℕ) (k : ℕ) (d : List ℕ) → k < length (bodies_of bytes) → slice_index_or (bodies_of bytes) k d ≡ between (k * 16) (k * 16 + 16) bytes
unfolding bodies_of
get_or_bodies bytes k d h = get_or-first_chunks 16 _ bytes k d (omega (arith, length_bodies bytes))

pub sixteen_bodies : (bytes : List ℕ) (k : ℕ) → k < length (bodies_of bytes) → length (slice_index_or (bodies_of bytes) k []) ≡ 16
sixteen_bodies bytes k h =
    ap length (get_or_bodies bytes k [] h) ∙ length-take (k * 16 + 16 - k * 16) (drop (k * 16) bytes) ∙ omega (arith, length_bodies bytes, length-drop (k * 16) bytes)
