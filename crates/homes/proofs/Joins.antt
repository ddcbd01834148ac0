-- Two homes side by side: what a read and a write of either come to.
use Rattle.std.proofs.Common.{◌≡◌, ℕ, ◌-◌, ◌<◌, ◌≤◌, List, ◌++◌, length, take, set, sym, refl, ap, ◌∙◌, arith}
use mathlib.Core.Path.{fun_ext}
use lib.Seq.{take-set-lt}
use Rattle.std.proofs.lemmas.List.{length-set, set-append_left, set-append_right}
use Rattle.std.proofs.lemmas.Bool.{lt-ltb, le-ltb}
use Rattle.interfaces.specs.Faults.{raised}
use Rattle.interfaces.specs.Homes.{Meaning, write_fault, written}
use Rattle.interfaces.proofs.Calls.{verdict_inside}
use Rattle.homes.specs.Sides.{in_first, in_second, beside, length_beside, get_first, get_second}

pub fault_first : (a b : Meaning) (k : ℕ) → k < length a.bodies → k < length (beside a b).bodies → write_fault (beside a b) k ≡ raised (write_fault a k)
unfolding beside
fault_first a b k h l = let e = lt-ltb k (length a.bodies) h in verdict_inside (beside a b) k l ∙ simp e

pub fault_second : (a b : Meaning) (k : ℕ) → length a.bodies ≤ k → k < length (beside a b).bodies → write_fault (beside a b) k ≡ raised (write_fault b (k - length a.bodies))
unfolding beside
fault_second a b k h l =
    let e = le-ltb k (length a.bodies) h in
    let i = lt-ltb (k - length a.bodies) (length b.bodies) (omega (arith, length_beside a b)) in
    verdict_inside (beside a b) k l ∙ simp (e, i)

pub written_first : (a b : Meaning) (k : ℕ) (body : List ℕ) → k < length a.bodies → k < length (beside a b).bodies → beside (written a k body) b ≡ written (beside a b) k body
unfolding beside
written_first a b k body h l =
    let held : take 65535 (set a.bodies k body ++ b.bodies) ≡ set (take 65535 (a.bodies ++ b.bodies)) k body =
    ap (take 65535) (sym (set-append_left a.bodies b.bodies k body h)) ∙ take-set-lt 65535 (a.bodies ++ b.bodies) k body (omega (arith, length_beside a b)) in
    let e = lt-ltb k (length a.bodies) h in
    let says : (beside (written a k body) b).verdict ≡ (written (beside a b) k body).verdict = fun_ext (λ hs. fun_ext (λ j. simp (length-set, in_first, in_second, e))) in
    λ i. record { bodies = held i; verdict = says i }

pub written_second : (a b : Meaning) (k : ℕ) (body : List ℕ) → length a.bodies ≤ k → k < length (beside a b).bodies → beside a (written b (k - length a.bodies) body) ≡ written (beside a b) k body
unfolding beside
written_second a b k body h l =
    let n = length a.bodies in
    let held : take 65535 (a.bodies ++ set b.bodies (k - n) body) ≡ set (take 65535 (a.bodies ++ b.bodies)) k body =
    ap (take 65535) (sym (set-append_right a.bodies b.bodies n k body refl h)) ∙ take-set-lt 65535 (a.bodies ++ b.bodies) k body (omega (arith, length_beside a b)) in
    let e = le-ltb k n h in
    let says : (beside a (written b (k - n) body)).verdict ≡ (written (beside a b) k body).verdict = fun_ext (λ hs. fun_ext (λ j. simp (in_first, in_second, e))) in
    λ i. record { bodies = held i; verdict = says i }

-- what the calls of two homes side by side come to
pub ruleset joins = (length_beside, get_first, get_second, fault_first, fault_second, written_first, written_second)
