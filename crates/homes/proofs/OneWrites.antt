-- Records that take one write each: what they hold, and what they mean after a write.
use Rattle.std.proofs.Common.{◌≡◌, ℕ, ◌<◌, List, [], length, get_or, set, drop, replicate, sym, refl, ap, ◌∙◌, arith, is_some, map, false, None, Some, Option}
use Rattle.std.specs.List.{refill}
use Rattle.std.specs.Option.{unwrap_or}
use Rattle.std.proofs.lemmas.List.{map-set, length-set, get_or-map, take_all, take-append-le}
pub use Rattle.std.proofs.lemmas.List.{set-set}
use Rattle.std.proofs.lemmas.Bool.{lt-ltb}
use Rattle.interfaces.specs.Homes.{after_write}
use Rattle.homes.specs.WriteOnces.{once_of, held, length_held, body_of}

refill_whole : {X : Type 0} (n : ℕ) (xs ws : List X) → length ws ≡ n → refill n xs ws ≡ ws
refill_whole n xs ws e = take-append-le n ws (drop (length ws) xs) (omega arith) ∙ take_all n ws (omega arith)

body_whole : (written : Option (List ℕ)) → length (unwrap_or written (replicate 16 255)) ≡ 16 → body_of written ≡ unwrap_or written (replicate 16 255)
unfolding body_of
body_whole None l = refl
body_whole (Some bytes) l = refill_whole 16 (replicate 16 255) bytes l

held_all : (records : List (Option (List ℕ))) → length records ≡ 64 → held records ≡ map body_of records
unfolding held
held_all records l = ap (map body_of) (refill_whole 64 (replicate 64 None) records l)

held_set : (records : List (Option (List ℕ))) (k : ℕ) (bytes : List ℕ) → length records ≡ 64 → length bytes ≡ 16 → held (set records k (Some bytes)) ≡ set (held records) k bytes
held_set records k bytes l sixteen =
    held_all (set records k (Some bytes)) (length-set records k (Some bytes) ∙ l) ∙ map-set body_of records k (Some bytes) ∙
    ap (λ rs. set rs k (body_of (Some bytes))) (sym (held_all records l)) ∙ ap (set (held records) k) (body_whole (Some bytes) sixteen)

pub get_held : (records : List (Option (List ℕ))) (k : ℕ) → length records ≡ 64 → k < length (held records) → length (unwrap_or (get_or records k None) (replicate 16 255)) ≡ 16 → get_or (held records) k [] ≡ unwrap_or (get_or records k None) (replicate 16 255)
get_held records k l h sixteen =
    ap (λ bodies. get_or bodies k []) (held_all records l) ∙ get_or-map body_of records k None [] (omega (arith, length_held records)) ∙ body_whole (get_or records k None) sixteen

pub taken : (records : List (Option (List ℕ))) (k : ℕ) (bytes : List ℕ) → length records ≡ 64 → length bytes ≡ 16 → k < length (held records) → is_some (get_or records k None) ≡ false → once_of (set records k (Some bytes)) ≡ after_write (once_of records) k bytes
taken records k bytes l sixteen h free =
    let none : get_or (map is_some records) k false ≡ false = get_or-map is_some records k None false (omega (arith, length_held records)) ∙ free in
    let inside = lt-ltb k (length (held records)) h in
    let bodies = held_set records k bytes l sixteen in
    simp (bodies, map-set) (simp (inside, none))

-- the last, that of two writes to one place the second stands, lets an edit of `write` that writes twice prove where it is right
pub ruleset one_write = (length_held, get_held, taken, set-set)
