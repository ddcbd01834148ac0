-- Bytes as records, after one of them was overwritten.
use Rattle.std.proofs.Common.{◌≡◌, ℕ, ◌+◌, ◌-◌, ◌*◌, ◌<◌, ◌≤◌, List, length, set, arith, rules}
use Rattle.std.specs.List.{between}
use borrow.Rule.Slice.PartMut.{put_mid}
use Rattle.std.proofs.lemmas.List.{same_lists, length-set, get_or-set_other, places}
use Rattle.std.proofs.lemmas.Grind.{get_or-set_at}
use Rattle.std.proofs.lemmas.Slice.{between-put_mid}
use Rattle.homes.specs.Bodies.{records_in, bodies_of, length_bodies, get_or_bodies, get_or-first_chunks}

-- the bytes with a body over record k
abbrev put : List ℕ → ℕ → List ℕ → List ℕ
put bytes k body = put_mid (k * 16) (k * 16 + 16 - k * 16) bytes body

length_put : (bytes body : List ℕ) (k : ℕ) → k * 16 + 16 ≤ length bytes → length body ≡ 16 → length (put bytes k body) ≡ length bytes
length_put bytes body k h l = search (rules, places)

other_put : (bytes body : List ℕ) (k j : ℕ) → k * 16 + 16 ≤ length bytes → j * 16 + 16 ≤ length bytes → length body ≡ 16 → (j ≡ k → ⊥) → between (j * 16) (j * 16 + 16) (put bytes k body) ≡ between (j * 16) (j * 16 + 16) bytes
other_put bytes body k j hk hj l ne = same_lists _ _ (search (rules, places)) (λ i d h. grind (arith, places))

-- bytes that differ from others in record k alone
one_changed : (bytes after body : List ℕ) (k : ℕ) → k < length (bodies_of bytes) → length after ≡ length bytes → between (k * 16) (k * 16 + 16) after ≡ body →
    ((j : ℕ) → j * 16 + 16 ≤ length bytes → (j ≡ k → ⊥) → between (j * 16) (j * 16 + 16) after ≡ between (j * 16) (j * 16 + 16) bytes) → bodies_of after ≡ set (bodies_of bytes) k body
one_changed bytes after body k h long here there =
    let e = length_bodies bytes in
    let e' = length_bodies after in
    same_lists _ _ (simp length-set (omega arith)) (λ j d lt. let other = there j in grind (arith, get_or_bodies, get_or-set_at, get_or-set_other))

-- the record has the new bytes, and no other record is changed
pub bodies_put : (bytes : List ℕ) (k : ℕ) (body : List ℕ) → k < length (bodies_of bytes) → length body ≡ 16 → bodies_of (put bytes k body) ≡ set (bodies_of bytes) k body
bodies_put bytes k body h l =
    let w : k * 16 + 16 ≤ length bytes = omega (arith, length_bodies bytes) in
    one_changed bytes (put bytes k body) body k h (length_put bytes body k w l)
    (between-put_mid (k * 16) _ bytes body (k * 16 + 16) (omega arith) (omega arith))
    (λ j v ne. other_put bytes body k j w v l ne)

pub ruleset records = (length_bodies, get_or_bodies, bodies_put, get_or-first_chunks)
