-- Steps that a keeper takes, and the receipts of them.
use Rattle.std.specs.Prelude.{◌≡◌, ◌⊎◌, ◌++◌, ◌∷◌, [], ℕ, List, Option, Result, Ok, Err}
use Rattle.tough_keys.specs.Same.{Verifies}
use Rattle.tough_roles.specs.Root.{RootDoc}
use Rattle.tough_roles.specs.Signature.{SignedDoc}
use Rattle.tough_vault.specs.Act.{Act}
use Rattle.tough_checks.specs.declared.checks.StepError.{StepError}
use Rattle.tough_trust.specs.Failure.{Failure, Memory, step_failure}

-- how a keeper looks at its stored root: its state, a version, the root where that is newer, and the state after
abbrev pub ReadsRoot : Type 0 → Type 1
ReadsRoot K = Verifies → K → ℕ → Result (Option (SignedDoc RootDoc)) StepError → K → Type 0

-- what a step answers, its receipt apart
abbrev pub taken : {R : Type 0} → Result R StepError → Result Unit Failure
taken (Ok r) = Ok (tt {0})
taken (Err e) = Err (step_failure e)

-- a keeper, and the receipts of the steps that it took, in their order
pub record Keeping (K R : Type 0) : Type 0 where
  pub keeper : K
  pub receipts : List R

module _ {K R : Type 0} (keeps : Verifies → K → Act → Result R StepError → K → Type 0) (verifies : Verifies) where
  -- the keeper took the step, or there was no memory to ask it
  abbrev pub Steps : Act → K → Result Unit Failure → K → Type 0
  Steps act k answer next = ((r : Result R StepError) × (answer ≡ taken r) × keeps verifies k act r next)
      ⊎ ((answer ≡ Err Memory) × (next ≡ k))

  -- the receipt that the keeper gave was put by, after those before it
  abbrev pub PutsBy : Act → Keeping K R → Keeping K R → Type 0
  PutsBy act k next = (r : R) × (next.receipts ≡ k.receipts ++ r ∷ []) × keeps verifies k.keeper act (Ok r) next.keeper

  -- What a step answers, and what it leaves: where it succeeded, its receipt stands after those before it; else there is none of it.
  abbrev pub TakesStep : Act → Keeping K R → Result Unit Failure → Keeping K R → Type 0
  TakesStep act k (Ok u) next = PutsBy act k next
  TakesStep act k (Err f) next = Steps act k.keeper (Err f) next.keeper × (next.receipts ≡ k.receipts)
