-- Numbers that were tested.
use Rattle.std.specs.Prelude.{◌≡◌, ℕ, ◌<◌, ◌≤◌, Bool, true, false, Ok, Err, Result}
use Rattle.model.specs.declared.refusal.Refusal.{Refusal}
use Rattle.model.specs.declared.refusal.Refusal.TheVariants.{OtherDoor, NoHold}
use Rattle.tables.specs.declared.user.User.{User}
use Rattle.tables.specs.declared.hold_number.HoldNumber.{HoldNumber}

-- the user of the number n where the test holds, and else refused
abbrev pub Admitted : Bool → ℕ → Result User Refusal → Type 0
Admitted test n (Ok u) = (test ≡ true) × (u.number ≡ n)
Admitted test n (Err why) = (test ≡ false) × (why ≡ OtherDoor)

abbrev pub Numbered : ℕ → Result HoldNumber Refusal → Type 0
Numbered n (Ok i) = (n ≤ 3) × (i.number ≡ n)
Numbered n (Err why) = (3 < n) × (why ≡ NoHold)
