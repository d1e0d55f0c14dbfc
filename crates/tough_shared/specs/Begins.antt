-- Where a shared vault began, and that nothing but its own steps and looks led on from there.
use Rattle.std.specs.Prelude.{◌≡◌, ◌⊎◌, ℕ, zero, suc, [], Option, Result, Bool}
use Rattle.tough_keys.specs.Same.{Verifies}
use Rattle.tough_roles.specs.Root.{RootDoc}
use Rattle.tough_roles.specs.Signature.{SignedDoc}
use Rattle.tough_checks.specs.declared.checks.StepError.{StepError}
use Rattle.tough_vault.specs.declared.entry.Receipt.{Receipt}
use Rattle.tough_vault.specs.Act.{Act, Acts}
use Rattle.tough_vault.specs.Journal.{no_tip}
use Rattle.tough_vault.specs.Looking.{Looks}
use Rattle.tough_vault.specs.Step.{Parts}
use Rattle.tough_vault.specs.Stored.{Files}

module _ {S : Type 0} (tells : Bool) (files : S → Files) (count : S → ℕ) where
  -- a step of the vault, or a look at its stored root, led from one to the other
  abbrev pub Leads : Parts S → Parts S → Type 0
  Leads old new =
      ((verifies : Verifies) × (act : Act) × (result : Result Receipt StepError) × Acts tells files count verifies act old new result)
      ⊎ ((verifies : Verifies) × (first : ℕ) × (result : Result (Option (SignedDoc RootDoc)) StepError) × Looks tells files count verifies first old new result)

  -- so many steps and looks did
  abbrev pub Runs : ℕ → Parts S → Parts S → Type 0
  Runs zero old new = new ≡ old
  Runs (suc n) old new = (between : Parts S) × Runs n old between × Leads between new

  -- They led here from an empty journal over a store that had been changed so often.
  pub record Begins (changes : S → ℕ) (begun : ℕ) (p : Parts S) : Type 0 where
    pub store : S
    pub steps : ℕ
    pub unchanged : changes store ≡ begun
    pub run : Runs steps (record { store = store; notes = []; tip = no_tip }) p
