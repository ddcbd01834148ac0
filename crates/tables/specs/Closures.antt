-- What calls of a closure give.
use Rattle.std.specs.Prelude.{◌≡◌}

-- whatever a call may give, as `gives` says, is what f computes
abbrev pub Computes : {A B : Type 0} → (A → B → Type 0) → (A → B) → Type 0
Computes {A} {B} gives f = (a : A) (b : B) → gives a b → b ≡ f a
