-- One more turn.
use Rattle.std.proofs.Common.{◌≡◌, ℕ, ◌<◌, ◌≤◌, Bool, true, false, ◌||◌, ◌==◌, cond, List, [], ◌∷◌, ◌++◌, length, get_or, set, replicate, Some, None, Ok, Err, Option, Result, sym, refl, ap, ◌∙◌, arith}
use mathlib.Core.Bool.{or-false, or_assoc}
use Rattle.std.proofs.lemmas.List.{length-set, get_or-set_same, get_or-set_other, length-replicate, get_or_past}
use Rattle.std.proofs.lemmas.Grind.{common_steps}
use Rattle.std.proofs.lemmas.Bool.Decides.{nat_tests}
use Rattle.std.proofs.lemmas.Bool.{cases_eq, cases_lt}
use Rattle.interfaces.specs.declared.fault.Fault.{Fault}
use Rattle.interfaces.specs.Homes.{Meaning, WellFormed, write_fault, written, unless}
use Rattle.interfaces.proofs.Calls.{accepted_inside}
use Rattle.entries.specs.declared.Entry.{Entry}
use Rattle.entries.specs.declared.BadLine.{BadLine}
use Rattle.entries.specs.Entries.{entry_of}
use Rattle.loading.specs.Loads.{told, marked, reply_to, after_line, marks_after}
use Rattle.loading.specs.Tables.{Turn, loaded, is_of, body_by, loaded_in, body_after, Shows, GoesOn}

body_snoc : (turns : List Turn) (t : Turn) (k : ℕ) (body : List ℕ) → body_after (turns ++ (t ∷ [])) k body ≡ body_by (loaded t) k (body_after turns k body)
body_snoc [] t k body = refl
body_snoc (u ∷ turns) t k body = body_snoc turns t k (body_by (loaded u) k body)

loaded_snoc : (turns : List Turn) (t : Turn) (k : ℕ) → loaded_in (turns ++ (t ∷ [])) k ≡ loaded_in turns k || is_of (loaded t) k
loaded_snoc [] t k = or-false (is_of (loaded t) k)
loaded_snoc (u ∷ turns) t k = ap (λ b. is_of (loaded u) k || b) (loaded_snoc turns t k) ∙ sym (or_assoc (is_of (loaded u) k) (loaded_in turns k) (is_of (loaded t) k))

-- place k of a list, after a write to place n
after_set : {A : Type 0} (xs : List A) (n k : ℕ) (y d : A) → n < length xs → get_or (set xs n y) k d ≡ cond (n == k) y (get_or xs k d)
after_set xs n k y d h = grind (arith, nat_tests, common_steps, get_or-set_same, get_or-set_other, cases_eq k n)

-- a turn that has loaded nothing
shows_same : (first : List (List ℕ)) (turns : List Turn) (bodies : List (List ℕ)) (marks : List Bool) (t : Turn) → loaded t ≡ None →
    Shows first turns bodies marks → Shows first (turns ++ (t ∷ [])) bodies marks
shows_same first turns bodies marks t e s = record {
  long = s.long;
  count = s.count;
  each = λ k h. rw (body_snoc, e) (s.each k h);
  marked = λ k. rw (loaded_snoc, e, or-false) (s.marked k);
  inside = s.inside;
}

-- a turn that has loaded an entry
shows_loaded : (first : List (List ℕ)) (turns : List Turn) (bodies : List (List ℕ)) (marks : List Bool) (t : Turn) (e : Entry) → loaded t ≡ Some e →
    e.«record» < length bodies → length bodies ≤ 65535 → Shows first turns bodies marks →
    Shows first (turns ++ (t ∷ [])) (set bodies e.«record» e.body) (set marks e.«record» true)
shows_loaded first turns bodies marks t e l h few s =
    let in_marks : e.«record» < length marks = omega (arith, s.long) in
    record {
      long = simp length-set s.long;
      count = simp length-set s.count;
      each = λ k lt. rw (after_set, body_snoc, l, s.each k lt) refl;
      marked = λ k. grind (arith, after_set, loaded_snoc, l, s.marked k);
      inside = λ k m. grind (arith, nat_tests, after_set, s.inside k, s.count);
    }

-- an entry that the home has accepted or refused
entry_more : (m : Meaning) (w : WellFormed m) (marks : List Bool) (t : Turn) (e : Entry) (o : Option Fault) → Ok e ≡ entry_of t.line →
    write_fault m e.«record» ≡ o → t.reply ≡ told e.«record» o →
    GoesOn m.bodies marks t (unless o m (written m e.«record» e.body)).bodies (marked marks e.«record» o)
entry_more m w marks t e None reads fault reply =
    let inside = accepted_inside m e.«record» (Ok tt) tt (rw fault refl) refl in
    record { every = λ first turns. shows_loaded first turns m.bodies marks t e (rw (reply, ← reads) refl) inside w.few }
entry_more m w marks t e (Some f) reads fault reply =
    record { every = λ first turns. shows_same first turns m.bodies marks t (rw reply refl) }

line_more : (m : Meaning) (w : WellFormed m) (marks : List Bool) (t : Turn) (e : Result Entry BadLine) → e ≡ entry_of t.line → t.reply ≡ reply_to m e →
    GoesOn m.bodies marks t (after_line m e).bodies (marks_after m e marks)
line_more m w marks t (Err bad) reads reply = record { every = λ first turns. shows_same first turns m.bodies marks t (rw reply refl) }
line_more m w marks t (Ok e) reads reply = entry_more m w marks t e (write_fault m e.«record») reads refl reply

-- the same, of a home and marks that are what the line has left
pub line_done : (m : Meaning) (w : WellFormed m) (marks : List Bool) (t : Turn) (e : Result Entry BadLine) {m' : Meaning} {marks' : List Bool} → e ≡ entry_of t.line →
    t.reply ≡ reply_to m e → m' ≡ after_line m e → marks' ≡ marks_after m e marks → GoesOn m.bodies marks t m'.bodies marks'
line_done m w marks t e reads reply after marks_are = rw (after, marks_are) (line_more m w marks t e reads reply)

none_marked : (n k : ℕ) → get_or (replicate n false) k false ≡ false
none_marked n k = grind (arith, common_steps, get_or_past, cases_lt k n)

-- before any turn
pub shows_first : (first : List (List ℕ)) (marks : List Bool) → marks ≡ replicate 65535 false → Shows first [] first marks
shows_first first marks none = record {
  long = rw none (length-replicate 65535 false);
  count = refl;
  each = λ k h. refl;
  marked = λ k. rw none (none_marked 65535 k);
  inside = λ k m. let unmarked = rw none at m in let none = none_marked 65535 k in absurd cc;
}
