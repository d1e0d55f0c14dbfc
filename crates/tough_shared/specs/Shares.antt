-- What a step through the lock says: it is the vault's step, between two states that the lock held.
use Rattle.std.specs.Prelude.{◌≡◌, ◌+◌, ℕ, Bool, true, false, List, length, Option, Result}
use mathlib.Core.List.{IsPrefix}
use Rattle.tough_keys.specs.Same.{Verifies}
use Rattle.tough_roles.specs.Root.{RootDoc}
use Rattle.tough_roles.specs.Signature.{SignedDoc}
use Rattle.tough_checks.specs.declared.checks.StepError.{StepError}
use Rattle.tough_vault.specs.Act.{Act, Acts}
use Rattle.tough_vault.specs.Journal.{Note, Legal, has_broken}
use Rattle.tough_vault.specs.Looking.{Looks}
use Rattle.tough_vault.specs.Parts.{Holds}
use Rattle.tough_vault.specs.Step.{Parts}
use Rattle.tough_vault.specs.Stored.{Files}
use Rattle.tough_shared.specs.declared.front.Naming.{Ghosts}
use Rattle.tough_shared.specs.declared.line.Line.{Line}
use Rattle.tough_shared.specs.declared.receipt.Receipt.{Receipt as Tied}
use Rattle.tough_shared.specs.Begins.{Begins}
use Rattle.tough_shared.specs.Lines.{history}
use Rattle.tough_shared.specs.Receipts.{untied}

-- of steps that ask for no signature
abbrev pub no_signature : Verifies
no_signature key message signature = false

-- What a keeper did beside others: all that it had seen of the history begins the journal before the step, it has then seen the journal behind
-- the step whole, and the entries that it made are more by those of the step alone.
pub record Alone (begun : ℕ) (old new : List Note) (seen later : List Line) (made more : ℕ) : Type 0 where
  pub before : IsPrefix seen (history begun old)
  pub after : later ≡ history begun new
  pub counted : more + length old ≡ made + length new

module _ {S : Type 0} (tells : Bool) (files : S → Files) (count changes : S → ℕ) (begun : ℕ) where
  -- What the lock keeps: replaying the journal gives the tip, and no entry is below those before it; where no write failed, the files of a store
  -- that tells them hold what was accepted last; and nothing but the vault's own steps and looks led here from where the history began.
  pub record Keeps (p : Parts S) : Type 0 where
    pub legal : Legal p.notes p.tip
    pub holds : tells ≡ true → has_broken p.notes ≡ false → ∥ Holds (files p.store) p.notes p.tip ∥₁
    pub begins : ∥ Begins tells files count changes begun p ∥₁

  -- There are two states that the lock held, between which the vault's own step led to this answer.
  pub record Shares {J : Type 0} {g : Ghosts J} (verifies : Verifies) (act : Act) (result : Result (Tied J g) StepError) : Type 0 where
    pub old : Parts S
    pub new : Parts S
    pub before : Keeps old
    pub step : Acts tells files count verifies act old new (untied result)
    pub after : Keeps new

  -- There are two states that the lock held, between which the vault's own look at its stored root led to this answer; of it nothing is noted.
  pub record SharesLook (verifies : Verifies) (first : ℕ) (result : Result (Option (SignedDoc RootDoc)) StepError) : Type 0 where
    pub old : Parts S
    pub new : Parts S
    pub before : Keeps old
    pub look : Looks tells files count verifies first old new result
    pub after : Keeps new

  -- So it is, and beside it the keeper did nothing.
  abbrev pub StepsAlone : List Line → List Line → ℕ → ℕ → {J : Type 0} {g : Ghosts J} → Verifies → Act → Result (Tied J g) StepError → Type 0
  StepsAlone seen after made more verifies act result = (s : Shares verifies act result) × Alone begun s.old.notes s.new.notes seen after made more

  -- So it is, and nothing was counted as the keeper's.
  abbrev pub LooksAlone : List Line → List Line → Verifies → ℕ → Result (Option (SignedDoc RootDoc)) StepError → Type 0
  LooksAlone seen after verifies first result = (s : SharesLook verifies first result) × ((made : ℕ) → Alone begun s.old.notes s.new.notes seen after made made)
