-- What two homes mean side by side.
use Rattle.std.specs.Prelude.{◌≡◌, ℕ, ◌+◌, ◌-◌, ◌<◌, ◌≤◌, min, cond, List, [], ◌++◌, map, filter, length, take, not, nat_lt, slice_index_or, refl}
use Rattle.std.proofs.Common.{ap, ◌∙◌, ⊎_elim, arith, length-take, length-append}
use Rattle.std.proofs.lemmas.List.{get_or-take, get_or_append_left, get_or-append_right}
use Rattle.std.proofs.lemmas.Bool.{cases_lt}
use Rattle.interfaces.specs.Faults.{raised}
use Rattle.interfaces.specs.Homes.{Meaning, WellFormed}

-- of the records written in both, those of the first home, which counts n, as numbered there
abbrev pub in_first : ℕ → List ℕ → List ℕ
in_first n h = filter (λ k. nat_lt k n) h

-- and those of the second
abbrev pub in_second : ℕ → List ℕ → List ℕ
in_second n h = map (λ k. k - n) (filter (λ k. not (nat_lt k n)) h)

-- the first's records and then the second's, 65,535 at most
unfoldable pub beside : Meaning → Meaning → Meaning
beside a b = record {
  bodies = take 65535 (a.bodies ++ b.bodies);
  verdict = λ h k. let n = length a.bodies in raised (cond (nat_lt k n) (a.verdict (in_first n h) k) (b.verdict (in_second n h) (k - n)));
}

pub length_beside : (a b : Meaning) → length (beside a b).bodies ≡ min (length a.bodies + length b.bodies) 65535
unfolding beside
length_beside a b = simp (length-take, length-append) (omega arith)

pub get_first : (a b : Meaning) (k : ℕ) → k < length a.bodies → k < length (beside a b).bodies → slice_index_or (beside a b).bodies k [] ≡ slice_index_or a.bodies k []
unfolding beside
get_first a b k h l = get_or-take 65535 (a.bodies ++ b.bodies) k [] (omega (arith, length_beside a b)) ∙ get_or_append_left a.bodies b.bodies [] k h

pub get_second : (a b : Meaning) (k : ℕ) → length a.bodies ≤ k → k < length (beside a b).bodies → slice_index_or (beside a b).bodies k [] ≡ slice_index_or b.bodies (k - length a.bodies) []
unfolding beside
get_second a b k h l = get_or-take 65535 (a.bodies ++ b.bodies) k [] (omega (arith, length_beside a b)) ∙ get_or-append_right a.bodies b.bodies (length a.bodies) k [] refl h

pub beside_sound : (a b : Meaning) → WellFormed a → WellFormed b → WellFormed (beside a b)
beside_sound a b wa wb = record {
  few = omega (arith, length_beside a b);
  sixteen = λ k h.
      let n = length a.bodies in
      ⊎_elim
      (λ lt. ap length (get_first a b k lt h) ∙ wa.sixteen k lt)
      (λ le. ap length (get_second a b k le h) ∙ wb.sixteen (k - n) (omega (arith, length_beside a b)))
      (cases_lt k n);
}
