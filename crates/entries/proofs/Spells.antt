-- The digits that spell bytes.
use Rattle.std.proofs.Common.{◌≡◌, ℕ, ◌+◌, ◌*◌, ◌/◌, ◌%◌, ◌<◌, ◌≤◌, List, [], ◌∷◌, ◌++◌, length, get_or, take, drop, set, sym, ap, ◌∙◌, append_assoc, arith, length-set}
use Rattle.std.proofs.lemmas.List.{at_drop_more, at_drop_all, take_all, take_more_set, append-nil}
use Rattle.entries.specs.Digits.{hex_digit, spelled}

-- two digits are written one behind the other
two_more : (ts : List ℕ) (n x y : ℕ) → n + 1 < length ts → take (n + 1 + 1) (set (set ts n x) (n + 1) y) ≡ take n ts ++ x ∷ y ∷ []
two_more ts n x y h =
    let long = length-set ts n x in
    take_more_set (set ts n x) (n + 1) y (omega arith) ∙ ap (λ l. l ++ y ∷ []) (take_more_set ts n x (omega arith)) ∙ append_assoc (take n ts) (x ∷ []) (y ∷ [])

pub spelled_more : (ts bs : List ℕ) (k x y : ℕ) → 2 * k + 1 < length ts → k < length bs → x ≡ hex_digit (get_or bs k 0 / 16) → y ≡ hex_digit (get_or bs k 0 % 16) → take (2 * (k + 1)) (set (set ts (2 * k) x) (2 * k + 1) y) ++ spelled (drop (k + 1) bs) ≡ take (2 * k) ts ++ spelled (drop k bs)
spelled_more ts bs k x y room h ex ey =
    let next : 2 * (k + 1) ≡ 2 * k + 1 + 1 = omega arith in
    let rest : List ℕ = spelled (drop (k + 1) bs) in
    ap (λ n. take n (set (set ts (2 * k) x) (2 * k + 1) y) ++ rest) next
    ∙ ap (λ l. l ++ rest) (two_more ts (2 * k) x y room)
    ∙ append_assoc (take (2 * k) ts) (x ∷ y ∷ []) rest
    ∙ (λ i. take (2 * k) ts ++ ex i ∷ ey i ∷ rest)
    ∙ sym (ap (λ l. take (2 * k) ts ++ l) (at_drop_more spelled bs k 0 h))

pub spelled_all : (ts bs : List ℕ) (k : ℕ) → length ts ≤ 2 * k → length bs ≤ k → take (2 * k) ts ++ spelled (drop k bs) ≡ ts
spelled_all ts bs k h l = ap (λ r. take (2 * k) ts ++ r) (at_drop_all spelled bs k l) ∙ append-nil (take (2 * k) ts) ∙ take_all (2 * k) ts h
