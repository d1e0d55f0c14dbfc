-- Receipts that are tied to one store.
use Rattle.std.specs.Prelude.{◌≡◌, ◌+◌, ◌≤◌, ℕ, length, Result, Ok, Err}
use Rattle.tough_vault.specs.declared.entry.Receipt.{Receipt}
use Rattle.tough_checks.specs.declared.checks.StepError.{StepError}
use Rattle.tough_vault.specs.Journal.{number_of}
use Rattle.tough_shared.specs.declared.front.Naming.{Ghosts}
use Rattle.tough_shared.specs.declared.receipt.Receipt.{Receipt as Tied}
use Rattle.tough_shared.specs.Lines.{told}

module _ {J : Type 0} {g : Ghosts J} where
  -- the receipt of the vault
  abbrev pub plain_of : Tied J g → Receipt
  plain_of r = r.plain

  -- what a step answers, without what ties its receipt to the store
  abbrev pub untied : Result (Tied J g) StepError → Result Receipt StepError
  untied (Ok r) = Ok (plain_of r)
  untied (Err e) = Err e

  -- the entry stands behind so many lines, the first of which tells where the history began, and it is the last that was seen
  abbrev pub IsLater : ℕ → Tied J g → Type 0
  IsLater least r = (least ≤ number_of r.plain + 1) × (length (told r.front.seen.log) ≡ number_of r.plain + 2)

  -- the number of the receipt is at least this, and the next one's at least that
  abbrev pub Behind : ℕ → ℕ → Result (Tied J g) StepError → Type 0
  Behind next later (Ok r) = (next ≤ number_of (plain_of r)) × (later ≡ number_of (plain_of r) + 1)
  Behind next later (Err e) = later ≡ next
