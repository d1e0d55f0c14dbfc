-- A shared step that succeeded has made its checks on what it was given.
use Rattle.std.specs.Prelude.{ℕ, Bool, Result, Ok, Err}
use Rattle.tough_keys.specs.Same.{Verifies}
use Rattle.tough_checks.specs.declared.checks.StepError.{StepError}
use Rattle.tough_vault.specs.Act.{Act}
use Rattle.tough_vault.specs.Checking.{checked}
use Rattle.tough_vault.specs.Stored.{Files}
use Rattle.tough_trust.specs.Checking.{CheckedIfOk}
use Rattle.tough_shared.specs.declared.front.Naming.{Ghosts}
use Rattle.tough_shared.specs.declared.receipt.Receipt.{Receipt as Tied}
use Rattle.tough_shared.specs.Receipts.{plain_of}
use Rattle.tough_shared.specs.Shares.{Shares}

module _ {S : Type 0} (tells : Bool) (files : S → Files) (count changes : S → ℕ) (begun : ℕ) {J : Type 0} {g : Ghosts J} where
  pub shared_checks : (verifies : Verifies) (act : Act) (result : Result (Tied J g) StepError) → Shares tells files count changes begun verifies act result → CheckedIfOk verifies act result
  shared_checks verifies act (Ok r) h = checked tells files count verifies act h.old h.new (Ok (plain_of r)) h.step
  shared_checks verifies act (Err e) h = tt
