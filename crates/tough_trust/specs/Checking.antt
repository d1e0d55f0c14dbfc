-- A step that succeeded has made its checks on what it was given, whatever its receipt is.
use Rattle.std.specs.Prelude.{ℕ, Bool, Result, Ok, Err, ⊤}
use Rattle.tough_keys.specs.Same.{Verifies}
use Rattle.tough_vault.specs.declared.entry.Receipt.{Receipt}
use Rattle.tough_checks.specs.declared.checks.StepError.{StepError}
use Rattle.tough_vault.specs.Stored.{Files}
use Rattle.tough_vault.specs.Step.{Parts}
use Rattle.tough_vault.specs.Act.{Act, HasChecked, Acts}
use Rattle.tough_vault.specs.Checking.{checked}

abbrev pub CheckedIfOk : {R : Type 0} → Verifies → Act → Result R StepError → Type 0
CheckedIfOk verifies act (Ok r) = HasChecked verifies act
CheckedIfOk verifies act (Err e) = ⊤

-- so has a vault's
module _ {S : Type 0} (tells : Bool) (files : S → Files) (count : S → ℕ) where
  pub vault_checks : (verifies : Verifies) (act : Act) (old new : Parts S) (result : Result Receipt StepError) → Acts tells files count verifies act old new result → CheckedIfOk verifies act result
  vault_checks verifies act old new (Ok r) h = checked tells files count verifies act old new (Ok r) h
  vault_checks verifies act old new (Err e) h = tt
