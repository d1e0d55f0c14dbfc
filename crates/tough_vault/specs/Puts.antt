-- What accepting a root does to the parts of a vault.
use Rattle.std.specs.Prelude.{◌≡◌, ◌≢◌, ◌⊎◌, ℕ, List, Option, None, Result, Bool, true, false, IfOk}
use Rattle.tough_keys.specs.Same.{Verifies}
use Rattle.tough_roles.specs.Root.{RootDoc}
use Rattle.tough_roles.specs.Signature.{SignedDoc}
use Rattle.tough_checks.specs.Documents.{root_text}
use Rattle.tough_checks.specs.Files.{root_file}
use Rattle.tough_checks.specs.Rotation.{rotates}
use Rattle.tough_checks.specs.StoredDocuments.{stored_root}
use Rattle.tough_checks.specs.declared.checks.StepError.{StepError}
use Rattle.tough_vault.specs.Journal.{Root, note_of, entry_of}
use Rattle.tough_vault.specs.Step.{Parts, Passes, Takes, Tried}
use Rattle.tough_vault.specs.Steps.{root_step}
use Rattle.tough_vault.specs.Stored.{Files, SameElsewhere}
use Rattle.tough_vault.specs.declared.entry.Receipt.{Receipt}

module _ {S : Type 0} (tells : Bool) (files : S → Files) (count : S → ℕ) (verifies : Verifies) (root : SignedDoc RootDoc) where
  -- The root was refused, or not written, or stored after one with the same lists of keys for timestamp and snapshot.
  pub record Stores (old new : Parts S) (result : Result Receipt StepError) : Type 0 where
    pub takes : Takes tells files count (root_step verifies old.tip root) old new result
    pub keeps : IfOk result (λ r. note_of (entry_of r) ≡ Root root.role.head.version false)

  -- The root was stored after one with other lists of keys, and then both removals were tried: that of the timestamp and that of the snapshot.
  pub record Replaces (old new : Parts S) (result : Result Receipt StepError) : Type 0 where
    pub found : Option (List ℕ)
    pub passes : Passes tells files count (root_step verifies old.tip root) old.store found
    pub rotated : rotates (stored_root verifies found) root.role ≡ true
    -- the store after the write, and before the removals
    pub between : S
    pub stored : (root_text root ≢ None) × (tells ≡ true → files between root_file ≡ root_text root)
    pub elsewhere : tells ≡ true → SameElsewhere root_file (files old.store) (files between)
    pub tried : Tried tells files count (Root root.role.head.version true) (record { store = between; notes = old.notes; tip = old.tip }) new result

  -- The contract of `put_root`.
  abbrev pub Puts : Parts S → Parts S → Result Receipt StepError → Type 0
  Puts old new result = Stores old new result ⊎ Replaces old new result
