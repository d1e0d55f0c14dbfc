-- A lent vault as a keeper.
use Rattle.std.specs.Prelude.{◌≡◌, ℕ, Bool, Option, Result, Some, ⊤}
use Rattle.std.specs.Borrow.{MutBor}
use Rattle.tough_keys.specs.Same.{Verifies}
use Rattle.tough_roles.specs.Root.{RootDoc}
use Rattle.tough_roles.specs.Signature.{SignedDoc}
use Rattle.tough_checks.specs.StoredDocuments.{stored_time}
use Rattle.tough_checks.specs.declared.checks.StepError.{StepError}
use Rattle.tough_vault.specs.declared.entry.Receipt.{Receipt}
use Rattle.tough_vault.specs.declared.store.Store.{Ghosts}
use Rattle.tough_vault.specs.declared.vault.Vault.{Vault}
use Rattle.tough_vault.specs.Act.{Act, NoteTime, PutRoot, AdvanceTimestamp, AdvanceSnapshot, Acts}
use Rattle.tough_vault.specs.Looking.{Looks}
use Rattle.tough_vault.specs.Parts.{RootReadsBack, TimestampReadsBack, SnapshotReadsBack}
use Rattle.tough_vault.specs.Steps.{time_text}
use Rattle.tough_vault.specs.Stored.{Files}
use Rattle.tough_vault.specs.Vault.{parts_of}

-- It takes the step, and is still the same loan, so that the lender learns what the steps left.
abbrev pub vault_keeps : {S : Type 0} {g : Ghosts S} → Bool → (S → Files) → (S → ℕ) → Verifies → MutBor (Vault S g) → Act → Result Receipt StepError → MutBor (Vault S g) → Type 0
vault_keeps tells files count verifies k act result next = Acts tells files count verifies act (parts_of k.now) (parts_of next.now) result × (next.ghost_name ≡ k.ghost_name)

-- It looks at the stored root, and is still the same loan.
abbrev pub vault_reads : {S : Type 0} {g : Ghosts S} → Bool → (S → Files) → (S → ℕ) → Verifies → MutBor (Vault S g) → ℕ → Result (Option (SignedDoc RootDoc)) StepError → MutBor (Vault S g) → Type 0
vault_reads tells files count verifies k first result next = Looks tells files count verifies first (parts_of k.now) (parts_of next.now) result × (next.ghost_name ≡ k.ghost_name)

-- what the step stores is read as what it was given, where that nests no deeper than is read
abbrev pub ReadsBack : Act → Type 0
ReadsBack (NoteTime now) = stored_time (time_text now) ≡ Some now
ReadsBack (PutRoot root) = RootReadsBack root
ReadsBack (AdvanceTimestamp root t start enforced) = TimestampReadsBack t
ReadsBack (AdvanceSnapshot root listed s start enforced) = SnapshotReadsBack s
ReadsBack _ = ⊤
