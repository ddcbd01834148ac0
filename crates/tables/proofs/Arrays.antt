-- Arrays as tables.
use Rattle.std.proofs.Common.{◌≡◌, ℕ, zero, suc, ◌<◌, List, length, get_or, set, replicate, Option, sym, refl, ap, ◌∙◌, ⊎_elim}
use mathlib.Core.Path.{fun_ext}
use Rattle.std.proofs.lemmas.List.{get_or-set_same, get_or-set_other}
use Rattle.std.proofs.lemmas.Bool.{cases_eq, eq-eqb, ne_eqb}
use Rattle.model.specs.declared.slot.Slot.{Slot}
use Rattle.model.specs.Tools.{put}
use Rattle.model.specs.Worlds.{put_slot}
use Rattle.tables.specs.declared.log.Log.{Log}
use Rattle.tables.specs.View.{places_of, no_log, slots_of}

-- one place of an array changed is one place of the table changed
table_set : {A B : Type 0} (f : A → B) (xs : List A) (k : ℕ) (a d : A) → k < length xs → ◌≡◌ {A = ℕ → B} (λ j. f (get_or (set xs k a) j d)) (put (λ j. f (get_or xs j d)) k (f a))
table_set f xs k a d lt =
    fun_ext (λ j. ⊎_elim
    (λ e. (let same = get_or-set_same xs k a d lt in let is = eq-eqb j k e in rw (is, e, same) refl))
    (λ n. rw (ne_eqb j k n, get_or-set_other xs k j a d n) refl) (cases_eq j k))

-- one log of the table changed: l is that log after it
pub slots_put : (xs : List Log) (u : ℕ) (l : Log) → u < length xs → (p : ℕ) (o : Option Slot) → places_of l ≡ put (places_of (get_or xs u no_log)) p o → slots_of (record { all = set xs u l }) ≡ put_slot (slots_of (record { all = xs })) u p o
slots_put xs u l lt p o e = table_set {B = ℕ → Option Slot} places_of xs u l no_log lt ∙ ap (put (slots_of (record { all = xs })) u) e

-- an array of one value that looks as the default does
pub replicated_alike : {A B : Type 0} (f : A → B) (n j : ℕ) (a d : A) → f a ≡ f d → f (get_or (replicate n a) j d) ≡ f a
replicated_alike f zero j a d e = sym e
replicated_alike f (suc n) zero a d e = refl
replicated_alike f (suc n) (suc j) a d e = replicated_alike f n j a d e
