-- The lines that give an entry are those that spell it.
use Rattle.std.proofs.Common.{◌≡◌, ℕ, ◌-◌, ◌<◌, ◌≤◌, Bool, true, false, ◌⊎◌, List, [], ◌∷◌, ◌++◌, length, get_or, take, drop, Ok, Err, Result, sym, refl, ap, ◌∙◌, inl, inr, append_assoc, arith, length-append}
use Rattle.std.specs.List.{AllByRecursion}
use Rattle.std.proofs.lemmas.Grind.{common_steps}
use Rattle.std.proofs.ByRecursion.{All-get_or}
use Rattle.std.proofs.lemmas.List.{append-nil, get_or-append_right}
use Rattle.std.proofs.lemmas.Bool.{and_parts, cases_Bool, cond-true, cond-false, eqb-true, ltb-true}
use Rattle.std.proofs.lemmas.Bool.Decides.{nat_tests}
use Rattle.entries.specs.declared.BadLine.{BadLine}
use Rattle.entries.specs.declared.Entry.{Entry}
use Rattle.entries.specs.Digits.{Decimal, number, Hexadecimal, pair_values}
use Rattle.entries.specs.Entries.{begins_with, ends_with, without_return, leading, following, unless, record_of, body_of, entry_from, entry_in, entry_of}
use Rattle.entries.specs.Spelling.{Spells, ReadsExactly}
use Rattle.entries.proofs.Hexes.{all_from_test, test_from_all, body_of_digits}
use Rattle.entries.proofs.Leads.{leading_decimal, leading_and_following}

-- from a line that spells an entry to the entry

leading_is : (ds hs : List ℕ) → AllByRecursion Decimal ds → leading (ds ++ 32 ∷ hs) ≡ ds
leading_is [] hs h = refl
leading_is (d ∷ ds) hs h = grind (arith, leading_is ds hs)

following_is : (ds hs : List ℕ) → AllByRecursion Decimal ds → following (ds ++ 32 ∷ hs) ≡ 32 ∷ hs
following_is [] hs h = refl
following_is (d ∷ ds) hs h = grind (arith, following_is ds hs)

record_is : (ds : List ℕ) → 0 < length ds → number ds ≤ 65535 → record_of ds ≡ Ok (number ds)
record_is ds some small = grind (arith, nat_tests)

body_is : (hs : List ℕ) → length hs ≡ 32 → AllByRecursion Hexadecimal hs → body_of (32 ∷ hs) ≡ Ok (pair_values hs)
body_is hs long h = body_of_digits hs long ∙ cond-true _ _ _ (test_from_all hs h)

pub entry_in_is : (ds hs : List ℕ) → 0 < length ds → AllByRecursion Decimal ds → number ds ≤ 65535 → length hs ≡ 32 → AllByRecursion Hexadecimal hs → entry_in (ds ++ 32 ∷ hs) ≡ Ok (record { «record» = number ds; body = pair_values hs })
entry_in_is ds hs some decimal small long hex =
    let front = ap record_of (leading_is ds hs decimal) ∙ record_is ds some small in
    let back = ap body_of (following_is ds hs decimal) ∙ body_is hs long hex in
    λ i. entry_from (front i) (back i)

-- a line that ends in a hexadecimal digit stays as it is
pub return_none : (ds hs : List ℕ) → length hs ≡ 32 → AllByRecursion Hexadecimal hs → without_return (ds ++ 32 ∷ hs) ≡ ds ++ 32 ∷ hs
return_none ds hs long hex =
    let n = length-append ds (32 ∷ hs) in
    let last = get_or-append_right ds (32 ∷ hs) (length ds) (length (ds ++ 32 ∷ hs) - 1) 0 refl (omega arith) in
    let digit = All-get_or Hexadecimal hs 31 0 (omega arith) hex in
    grind (arith, nat_tests)

-- one carriage return is left out
return_one : (text : List ℕ) → without_return (text ++ 13 ∷ []) ≡ text
return_one text = grind (arith, common_steps, nat_tests)

text_of : (ds hs end line : List ℕ) → length hs ≡ 32 → AllByRecursion Hexadecimal hs → line ≡ ds ++ ((32 ∷ hs) ++ end) → (end ≡ []) ⊎ (end ≡ 13 ∷ []) → without_return line ≡ ds ++ 32 ∷ hs
text_of ds hs end line long hex is (inl none) =
    let same = is ∙ ap (λ e. ds ++ ((32 ∷ hs) ++ e)) none ∙ ap (λ l. ds ++ l) (append-nil (32 ∷ hs)) in
    ap without_return same ∙ return_none ds hs long hex
text_of ds hs end line long hex is (inr one) =
    let same = is ∙ ap (λ e. ds ++ ((32 ∷ hs) ++ e)) one ∙ sym (append_assoc ds (32 ∷ hs) (13 ∷ [])) in
    ap without_return same ∙ return_one (ds ++ 32 ∷ hs)

entry_from_spells : (line : List ℕ) (e : Entry) → Spells line e → entry_of line ≡ Ok e
entry_from_spells line e s =
    let ds : List ℕ = s.digits in
    let hs : List ℕ = s.hexes in
    let text = text_of ds hs s.ending line s.long s.hexadecimal s.is s.ends in
    let small : number ds ≤ 65535 = omega (arith, s.small, s.record_is) in
    ap entry_in text
    ∙ entry_in_is ds hs s.some s.decimal small s.long s.hexadecimal
    ∙ (λ i. Ok (record { «record» = sym s.record_is i; body = sym s.body_is i }))

-- from the entry back to a line that spells it

passed : {A : Type 0} (test : Bool) (bad : BadLine) (more : Result A BadLine) (x : A) → unless test bad more ≡ Ok x → (test ≡ true) × (more ≡ Ok x)
passed true bad more x e = (refl, e)
passed false bad more x e = cc

both_from : (r : Result ℕ BadLine) (b : Result (List ℕ) BadLine) (e : Entry) → entry_from r b ≡ Ok e → (r ≡ Ok e.«record») × (b ≡ Ok e.body)
both_from (Err bad) b e h = cc
both_from (Ok n) (Err bad) e h = cc
both_from (Ok n) (Ok bytes) e h =
    let whole : Entry = record { «record» = n; body = bytes } in
    let same : whole ≡ e = cc in
    (ap (λ x. Ok x.«record») same, ap (λ x. Ok x.body) same)

pub record Numbers (ds : List ℕ) (n : ℕ) : Type 0 where
  pub some : 0 < length ds
  pub small : number ds ≤ 65535
  pub is : n ≡ number ds

numbers : (ds : List ℕ) (n : ℕ) → record_of ds ≡ Ok n → Numbers ds n
numbers ds n e = record { some = grind (arith, nat_tests); small = grind (arith, nat_tests); is = grind (arith, nat_tests) }

pub record Bodies (rest : List ℕ) (bytes : List ℕ) : Type 0 where
  pub blank : rest ≡ 32 ∷ drop 1 rest
  pub long : length (drop 1 rest) ≡ 32
  pub hexadecimal : AllByRecursion Hexadecimal (drop 1 rest)
  pub is : bytes ≡ pair_values (drop 1 rest)

blank_first : (rest : List ℕ) → begins_with 32 rest ≡ true → rest ≡ 32 ∷ drop 1 rest
blank_first [] e = cc
blank_first (c ∷ cs) e = grind (arith, nat_tests)

bodies : (rest bytes : List ℕ) → body_of rest ≡ Ok bytes → Bodies rest bytes
bodies rest bytes e =
    let first = passed _ _ _ bytes e in
    let second = passed _ _ _ bytes first.1 in
    let third = passed _ _ _ bytes second.1 in
    record {
      blank = blank_first rest first.0;
      long = eqb-true (length (drop 1 rest)) 32 second.0;
      hexadecimal = all_from_test (drop 1 rest) third.0;
      is = let last = third.1 in cc;
    }

-- a line is what is left of it, and a carriage return or nothing
pub record Ends (line : List ℕ) : Type 0 where
  pub ending : List ℕ
  pub is : line ≡ without_return line ++ ending
  pub ends : (ending ≡ []) ⊎ (ending ≡ 13 ∷ [])

last_cut : (line : List ℕ) (c : ℕ) → 0 < length line → get_or line (length line - 1) 0 ≡ c → line ≡ take (length line - 1) line ++ c ∷ []
last_cut line c some e = grind (arith, common_steps)

ends_of : (line : List ℕ) → Ends line
ends_of line =
    elim (cases_Bool (ends_with 13 line)) [
      | inl one ↦
          let parts = and_parts _ _ one in
          let cut = last_cut line 13 (ltb-true 0 (length line) parts.0) (eqb-true _ 13 parts.1) in
          record { ending = 13 ∷ []; is = cut ∙ ap (λ l. l ++ 13 ∷ []) (sym (cond-true _ _ _ one)); ends = inr refl }
      | inr none ↦ record { ending = []; is = sym (append-nil line) ∙ ap (λ l. l ++ []) (sym (cond-false _ _ _ none)); ends = inl refl }
    ]

spells_from_entry : (line : List ℕ) (e : Entry) → entry_of line ≡ Ok e → Spells line e
spells_from_entry line e h =
    let text : List ℕ = without_return line in
    let both = both_from (record_of (leading text)) (body_of (following text)) e h in
    let front = numbers (leading text) e.«record» both.0 in
    let back = bodies (following text) e.body both.1 in
    let end = ends_of line in
    let whole = leading_and_following text ∙ ap (λ l. leading text ++ l) back.blank in
    record {
      digits = leading text;
      hexes = drop 1 (following text);
      ending = end.ending;
      is = end.is ∙ ap (λ l. l ++ end.ending) whole ∙ append_assoc (leading text) (32 ∷ drop 1 (following text)) end.ending;
      some = front.some;
      decimal = leading_decimal text;
      record_is = front.is;
      small = omega (arith, front.small, front.is);
      long = back.long;
      hexadecimal = back.hexadecimal;
      body_is = back.is;
      ends = end.ends;
    }

pub reads_exactly : (line : List ℕ) (r : Result Entry BadLine) → r ≡ entry_of line → ReadsExactly line r
reads_exactly line r said = record {
  spelled_line = λ e is. spells_from_entry line e (sym said ∙ is);
  read_line = λ e spells. said ∙ entry_from_spells line e spells;
}
