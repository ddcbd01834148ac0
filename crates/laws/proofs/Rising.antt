-- The highest stamp never falls, and no commit answers above it.
use Rattle.std.proofs.Common.{◌≡◌, ℕ, ◌<◌, ◌≤◌, arith}
use Rattle.model.specs.declared.door.Door.{Door}
use Rattle.model.specs.declared.refusal.Refusal.{Refusal}
use Rattle.model.specs.Worlds.{World}
use Rattle.model.specs.Calls.{Call, Open, Find, Take, Lock, Put, Clear, Commit, Abort, Collect, committed}
use Rattle.model.specs.Steps.{Outcome, Lawful, refuse, survey_step, own_step, step}
use Rattle.laws.proofs.Cases.{step_cases, open_cases, find_cases, take_cases, lock_cases, put_cases, clear_cases, commit_cases, abort_cases, collect_cases}

module _ (w : World) (s : ℕ) where
  -- the highest stamp after is not below the one before
  abbrev Up : Outcome → Type 0
  Up out = Lawful w.highest s out.drawn → w.highest ≤ out.after.highest

  -- where no stamp is drawn
  kept : Unit {0} → w.highest ≤ w.highest
  kept _ = omega arith

  no : (why : Refusal) → Up (refuse w why)
  no why = kept

  own_up : (call : Call) → Up (own_step w s call)
  unfolding survey_step
  own_up (Open u) = open_cases Up w no s u (λ _ le. le)
  own_up (Find u i r) = find_cases Up w no u i r (λ _ _ _. kept) (λ _ _ _ _. kept)
  own_up (Take u i offset count) = take_cases Up w no u i offset count (λ _ _ _ _. kept)
  own_up (Lock u r) = lock_cases Up w no u r (λ _ _ _. kept) (λ _ _ _ _. kept)
  own_up (Put u r offset bytes) = put_cases Up w no u r offset bytes (λ _ _. kept)
  own_up (Clear u r) = clear_cases Up w no u r (λ _ _. kept)
  own_up (Commit u) = commit_cases Up w no s u (λ next. omega arith) (λ _. kept)
  own_up (Abort u) = abort_cases Up w no u kept
  own_up (Collect u) = collect_cases Up w no s u (λ _. kept) (λ _ _ _ _ _ _. kept) (λ _ _ _ _ _ _ next. omega arith)
  own_up _ = kept

  pub step_up : (d : Door) (call : Call) → Lawful w.highest s (step w s d call).drawn → w.highest ≤ (step w s d call).after.highest
  step_up d call = step_cases Up w no s d call (λ _. own_up call)

  -- the stamp that a commit answers is 0, or new and now the highest
  pub record Stamped (c : ℕ) (out : Outcome) : Type 0 where
    pub low : c ≤ out.after.highest
    pub new : 0 < c → w.highest < c

  pub commit_stamped : (d : Door) (u c : ℕ) → Lawful w.highest s (step w s d (Commit u)).drawn → (step w s d (Commit u)).answer ≡ committed c → Stamped c (step w s d (Commit u))
  commit_stamped d u c =
      step_cases P w refusal s d (Commit u) (λ _. commit_cases P w refusal s u
      (λ next e. (let q : s ≡ c = cc in record { low = omega arith; new = λ _. omega arith }))
      (λ _ _ e. (let q : 0 ≡ c = cc in record { low = omega arith; new = λ pos. omega arith })))
    where
      P : Outcome → Type 0
      P out = Lawful w.highest s out.drawn → out.answer ≡ committed c → Stamped c out

      refusal : (why : Refusal) → P (refuse w why)
      refusal why _ e = cc
