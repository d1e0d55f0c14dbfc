-- The parts of a vault.
use Rattle.std.specs.Prelude.{List}
use Rattle.tough_vault.specs.declared.store.Store.{Ghosts}
use Rattle.tough_vault.specs.declared.vault.Vault.{Vault}
use Rattle.tough_vault.specs.declared.entry.Entry.{Entry}
use Rattle.tough_vault.specs.Stored.{Files}
use Rattle.tough_vault.specs.Journal.{Note, Last, notes_of, tip_of}
use Rattle.tough_vault.specs.Step.{Parts}
use Rattle.tough_vault.specs.Parts.{parts}

module _ {S : Type 0} {g : Ghosts S} where
  abbrev pub store_of : Vault S g → S
  store_of v = v.store

  abbrev pub journal_of : Vault S g → List Entry
  journal_of v = v.journal.items

  -- the journal, as plain entries
  abbrev pub notes_in : Vault S g → List Note
  notes_in v = notes_of v.journal.items

  abbrev pub tip_in : Vault S g → Last
  tip_in v = tip_of v.tip

  -- the files of its store
  abbrev pub files_in : (S → Files) → Vault S g → Files
  files_in files v = files v.store

  abbrev pub parts_of : Vault S g → Parts S
  parts_of v = parts v.store v.journal.items v.tip
