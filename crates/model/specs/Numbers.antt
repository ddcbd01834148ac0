-- The numbers by which refusals, states and outcomes are told to the outside.
use Rattle.std.specs.Prelude.{ℕ}
use Rattle.model.specs.declared.refusal.Refusal.{Refusal}
use Rattle.model.specs.declared.refusal.Refusal.TheVariants.{OtherDoor, AlreadyOpen, NotOpen, NotServed, NoHold, BadRange, LockedByOther, NewerVersion, LogFull, NoDraft, StampsSpent, HomeRefused}
use Rattle.model.specs.declared.answer.State.{State}
use Rattle.model.specs.declared.answer.State.TheVariants.{Cleared, Present, DraftCleared, DraftPresent}
use Rattle.model.specs.declared.answer.Collected.{Collected}
use Rattle.model.specs.declared.answer.Collected.TheVariants.{Nothing, Waits, WrittenBack, Freed}

abbrev pub refusal_number : Refusal → ℕ
refusal_number OtherDoor = 2
refusal_number AlreadyOpen = 3
refusal_number NotOpen = 4
refusal_number NotServed = 5
refusal_number NoHold = 6
refusal_number BadRange = 7
refusal_number LockedByOther = 8
refusal_number NewerVersion = 9
refusal_number LogFull = 10
refusal_number NoDraft = 11
refusal_number StampsSpent = 12
refusal_number (HomeRefused fault) = 13

abbrev pub state_number : State → ℕ
state_number Cleared = 0
state_number Present = 1
state_number DraftCleared = 2
state_number DraftPresent = 3

abbrev pub collected_number : Collected → ℕ
collected_number Nothing = 0
collected_number Waits = 1
collected_number WrittenBack = 2
collected_number Freed = 3
