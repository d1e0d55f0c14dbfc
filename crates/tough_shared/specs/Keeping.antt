-- A shared store as a keeper.
use Rattle.std.specs.Prelude.{◌≡◌, ℕ, List, Bool, Option, Result}
use Rattle.tough_keys.specs.Same.{Verifies}
use Rattle.tough_roles.specs.Root.{RootDoc}
use Rattle.tough_roles.specs.Signature.{SignedDoc}
use Rattle.tough_checks.specs.declared.checks.StepError.{StepError}
use Rattle.tough_vault.specs.declared.store.Store.{Ghosts as StoreGhosts}
use Rattle.tough_vault.specs.Act.{Act}
use Rattle.tough_vault.specs.Stored.{Files}
use Rattle.tough_shared.specs.declared.front.Naming.{Ghosts}
use Rattle.tough_shared.specs.declared.keeper.SharedKeeper.{SharedKeeper}
use Rattle.tough_shared.specs.declared.line.Line.{Line}
use Rattle.tough_shared.specs.declared.receipt.Receipt.{Receipt as Tied}
use Rattle.tough_shared.specs.Lines.{begun_in, told}
use Rattle.tough_shared.specs.Receipts.{Behind}
use Rattle.tough_shared.specs.Shares.{Shares, SharesLook, Alone}

module _ {S R J : Type 0} {g : StoreGhosts S} {h : Ghosts J} where
  -- the numbers of its receipts so far are below it
  abbrev pub next_of : SharedKeeper S R J g h → ℕ
  next_of k = k.next

  -- the history that it has seen
  abbrev pub seen_of : SharedKeeper S R J g h → List Line
  seen_of k = told k.front.seen.log

  -- how often the store had been changed when the history began
  abbrev pub begun_of : SharedKeeper S R J g h → ℕ
  begun_of k = begun_in (told k.front.seen.log)

  -- how many entries of the journal it made
  abbrev pub made_by : SharedKeeper S R J g h → ℕ
  made_by k = k.own.amount

  -- It takes the vault's step through the lock and does nothing beside it, and its receipt has a number behind those before it.
  abbrev pub shared_keeps : Bool → (S → Files) → (S → ℕ) → Verifies → SharedKeeper S R J g h → Act → Result (Tied J h) StepError → SharedKeeper S R J g h → Type 0
  shared_keeps tells files count verifies k act result new =
      (s : Shares tells files count g.changes (begun_of k) verifies act result)
      × Behind (next_of k) (next_of new) result
      × Alone (begun_of k) s.old.notes s.new.notes (seen_of k) (seen_of new) (made_by k) (made_by new)

  -- It looks at the vault's stored root through the lock and does nothing beside it, and goes on from where it was.
  abbrev pub shared_reads : Bool → (S → Files) → (S → ℕ) → Verifies → SharedKeeper S R J g h → ℕ → Result (Option (SignedDoc RootDoc)) StepError → SharedKeeper S R J g h → Type 0
  shared_reads tells files count verifies k first result new =
      (s : SharesLook tells files count g.changes (begun_of k) verifies first result)
      × (next_of new ≡ next_of k)
      × Alone (begun_of k) s.old.notes s.new.notes (seen_of k) (seen_of new) (made_by k) (made_by new)
