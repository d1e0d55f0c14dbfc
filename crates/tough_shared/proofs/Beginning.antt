-- What led on from where a shared vault began.
use Rattle.std.proofs.Common.{◌≡◌, ℕ, zero, suc, [], Bool, Option, Result, refl, sym, subst, inl, inr}
use Rattle.std.proofs.Math.Logic.{∥∥₁_map}
use Rattle.tough_keys.specs.Same.{Verifies}
use Rattle.tough_roles.specs.Root.{RootDoc}
use Rattle.tough_roles.specs.Signature.{SignedDoc}
use Rattle.tough_checks.specs.declared.checks.StepError.{StepError}
use Rattle.tough_vault.specs.declared.entry.Receipt.{Receipt}
use Rattle.tough_vault.specs.Act.{Act, Acts}
use Rattle.tough_vault.specs.Journal.{no_tip}
use Rattle.tough_vault.specs.Looking.{Looks}
use Rattle.tough_vault.specs.Step.{Parts}
use Rattle.tough_vault.specs.Stored.{Files}
use Rattle.tough_shared.specs.Begins.{Leads, Begins}

module _ {S : Type 0} (tells : Bool) (files : S → Files) (count changes : S → ℕ) where
  -- one more step or look
  led : (begun : ℕ) (old new : Parts S) → Leads tells files count old new → Begins tells files count changes begun old → Begins tells files count changes begun new
  led begun old new l b = record { store = b.store; steps = suc b.steps; unchanged = b.unchanged; run = (old, b.run, l) }

  pub stepped : (was is : ℕ) (old new : Parts S) (verifies : Verifies) (act : Act) (result : Result Receipt StepError) → is ≡ was → Acts tells files count verifies act old new result
      → ∥ Begins tells files count changes was old ∥₁ → ∥ Begins tells files count changes is new ∥₁
  stepped was is old new verifies act result same acts b =
      subst (λ (n : ℕ). ∥ Begins tells files count changes n new ∥₁) (sym same) (∥∥₁_map b (led was old new (inl (verifies, act, result, acts))))

  pub looked : (was is : ℕ) (old new : Parts S) (verifies : Verifies) (first : ℕ) (result : Result (Option (SignedDoc RootDoc)) StepError) → is ≡ was → Looks tells files count verifies first old new result
      → ∥ Begins tells files count changes was old ∥₁ → ∥ Begins tells files count changes is new ∥₁
  looked was is old new verifies first result same looks b =
      subst (λ (n : ℕ). ∥ Begins tells files count changes n new ∥₁) (sym same) (∥∥₁_map b (led was old new (inr (verifies, first, result, looks))))

  -- nothing yet
  pub begins : (store : S) (new : Parts S) → new ≡ record { store = store; notes = []; tip = no_tip } → Begins tells files count changes (changes store) new
  begins store new same = record { store = store; steps = zero; unchanged = refl; run = same }
