-- The calls of the store and what they answer.
use Rattle.std.specs.Prelude.{ℕ, Bool, true, false, not, ◌&&◌, List, nat_le, nat_lt}
use Rattle.model.specs.declared.door.Door.{Door}
use Rattle.model.specs.declared.door.Door.TheVariants.{Host, Firmware}
use Rattle.model.specs.declared.answer.State.{State}
use Rattle.model.specs.declared.answer.Collected.{Collected}
use Rattle.model.specs.declared.refusal.Refusal.{Refusal}

-- of a user u, with a hold i, a record r, and bytes from an offset on
pub data Call : Type 0 where
  Open : (u : ℕ) → Call
  Find : (u i r : ℕ) → Call
  Take : (u i offset count : ℕ) → Call
  Lock : (u r : ℕ) → Call
  Put : (u r offset : ℕ) → List ℕ → Call
  Clear : (u r : ℕ) → Call
  Commit : (u : ℕ) → Call
  Abort : (u : ℕ) → Call
  Survey : Call
  Collect : (u : ℕ) → Call
  Tick : (tick : ℕ) → Call

pub data Answer : Type 0 where
  refused : Refusal → Answer
  opened : (stamp : ℕ) → Answer
  found : State → (version : ℕ) → Answer
  taken : List ℕ → Answer
  done : Answer
  committed : (version : ℕ) → Answer
  surveyed : (watermark : ℕ) → Answer
  collected : Collected → Answer

-- a call with its answer
pub record Turn : Type 0 where
  pub door : Door
  pub call : Call
  pub answer : Answer

abbrev pub turn : Door → Call → Answer → Turn
turn d call a = record { door = d; call = call; answer = a }

abbrev pub accepted : Answer → Bool
accepted (refused why) = false
accepted (opened stamp) = true
accepted (found state version) = true
accepted (taken bytes) = true
accepted done = true
accepted (committed version) = true
accepted (surveyed watermark) = true
accepted (collected outcome) = true

-- which users belong to a door
abbrev pub of_door : Door → ℕ → Bool
of_door Host u = nat_lt u 4
of_door Firmware u = nat_le 4 u && nat_lt u 8

-- the user of the call is not of this door; survey and tick have none, and collect takes each user's log at either door
abbrev pub foreign : Door → Call → Bool
foreign d (Open u) = not (of_door d u)
foreign d (Find u i r) = not (of_door d u)
foreign d (Take u i offset count) = not (of_door d u)
foreign d (Lock u r) = not (of_door d u)
foreign d (Put u r offset bytes) = not (of_door d u)
foreign d (Clear u r) = not (of_door d u)
foreign d (Commit u) = not (of_door d u)
foreign d (Abort u) = not (of_door d u)
foreign d Survey = false
foreign d (Collect u) = not (nat_lt u 8)
foreign d (Tick tick) = false
