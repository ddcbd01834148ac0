-- What a home of records means that take one write each.
use Rattle.std.specs.Prelude.{◌≡◌, ℕ, Bool, true, false, cond, List, [], ◌∷◌, map, length, replicate, is_some, Some, None, Option, slice_index_or, slice_set, refl}
use Rattle.std.specs.List.{refill, length_refill}
use Rattle.std.proofs.Common.{sym, ap, ◌∙◌, arith}
use Rattle.std.proofs.lemmas.List.{length-map, get_or-map}
use Rattle.interfaces.specs.declared.fault.Cause.TheVariants.{AlreadyWritten}
use Rattle.interfaces.specs.Faults.{arisen}
use Rattle.interfaces.specs.Homes.{Meaning, WellFormed}
use Rattle.homes.specs.Bodies.{bodies_of, few_bodies, sixteen_bodies}

-- which records have had their write, after those of h have had theirs
abbrev pub used_after : List Bool → List ℕ → List Bool
used_after used [] = used
used_after used (k ∷ h) = used_after (slice_set used k true) h

-- records with these bodies, of which those marked in `used` have had their write
abbrev pub once : List (List ℕ) → List Bool → Meaning
once bodies used = record {
  bodies = bodies;
  verdict = λ h k. cond (slice_index_or (used_after used h) k false) (Some (arisen AlreadyWritten k)) None;
}

-- it is well formed where the bodies are cut out of a row of bytes
pub once_sound : (bytes : List ℕ) (used : List Bool) → WellFormed (once (bodies_of bytes) used)
once_sound bytes used = record { few = few_bodies bytes; sixteen = sixteen_bodies bytes }

-- what a record holds, from what was written to it: sixteen bytes, all 255 before its write; `refill` makes it sixteen
-- whatever list stands there, and changes none of sixteen
unfoldable pub body_of : Option (List ℕ) → List ℕ
body_of None = replicate 16 255
body_of (Some bytes) = refill 16 (replicate 16 255) bytes

-- what each of 64 records holds, whatever the list's length
unfoldable pub held : List (Option (List ℕ)) → List (List ℕ)
held records = map body_of (refill 64 (replicate 64 None) records)

-- 64 records of what was written to each: one that has had its write takes no other
abbrev pub once_of : List (Option (List ℕ)) → Meaning
once_of records = once (held records) (map is_some records)

pub length_body : (written : Option (List ℕ)) → length (body_of written) ≡ 16
unfolding body_of
length_body None = refl
length_body (Some bytes) = sym (length_refill 16 (replicate 16 255) bytes refl)

pub length_held : (records : List (Option (List ℕ))) → length (held records) ≡ 64
unfolding held
length_held records = length-map (refill 64 (replicate 64 None) records) body_of ∙ sym (length_refill 64 (replicate 64 None) records refl)

pub once_of_sound : (records : List (Option (List ℕ))) → WellFormed (once_of records)
unfolding held
once_of_sound records = record {
  few = omega (arith, length_held records);
  sixteen = λ k h.
      let rs = refill 64 (replicate 64 None) records in
      ap length (get_or-map body_of rs k None [] (omega (arith, length_held records, length-map rs body_of))) ∙ length_body (slice_index_or rs k None);
}

-- at first there are 64 records, every byte is 255, and none has had its write
abbrev pub once_new : Meaning
once_new = once (replicate 64 (replicate 16 255)) (replicate 64 false)
