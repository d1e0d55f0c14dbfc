-- What is asked of the keeper of a store: one of the six steps that note an entry (TUF specification 1.0, section 5).
use Rattle.std.specs.Prelude.{◌≡◌, ℕ, ℤ, List, Option, None, Bool, Result, Ok, Err, ⊤}
use Rattle.tough_keys.specs.Same.{Verifies}
use Rattle.tough_roles.specs.Signature.{SignedDoc}
use Rattle.tough_roles.specs.Root.{RootDoc}
use Rattle.tough_roles.specs.Timestamp.{TimestampDoc}
use Rattle.tough_roles.specs.Snapshot.{SnapshotDoc}
use Rattle.tough_roles.specs.declared.role_type.RoleType.TheVariants as role
use Rattle.tough_vault.specs.declared.entry.Receipt.{Receipt}
use Rattle.tough_checks.specs.declared.checks.StepError.{StepError}
use Rattle.tough_checks.specs.Checks.{timestamp_first, snapshot_first, expiry}
use Rattle.tough_checks.specs.Documents.{root_verdict, timestamp_verdict, snapshot_verdict}
use Rattle.tough_vault.specs.Stored.{Files}
use Rattle.tough_vault.specs.Step.{Parts, Takes, Clears}
use Rattle.tough_vault.specs.Steps.{time_step, timestamp_step, snapshot_step, document_step}
use Rattle.tough_vault.specs.Puts.{Puts}

pub data Act : Type 0 where
  NoteTime : ℤ → Act
  PutRoot : SignedDoc RootDoc → Act
  ClearRotated : Act
  -- the root, the document, when the update began, whether expiry counts
  AdvanceTimestamp : RootDoc → SignedDoc TimestampDoc → ℤ → Bool → Act
  -- the root, the version that the timestamp lists, the document, when the update began, whether expiry counts
  AdvanceSnapshot : RootDoc → ℕ → SignedDoc SnapshotDoc → ℤ → Bool → Act
  -- the file's name, and the document's text, if it has one
  PutDocument : List ℕ → Option (List ℕ) → Act

-- What a step that succeeded has checked of what it was given: its verification, its form, its version and its expiry.
abbrev pub HasChecked : Verifies → Act → Type 0
HasChecked verifies (PutRoot root) = root_verdict verifies root.role root ≡ Ok (tt {0})
HasChecked verifies (AdvanceTimestamp root t start enforced) =
    (timestamp_first (timestamp_verdict verifies root t) t.role ≡ None) × (expiry role.Timestamp enforced start t.role.head.expires ≡ None)
HasChecked verifies (AdvanceSnapshot root listed s start enforced) =
    (snapshot_first listed (snapshot_verdict verifies root s) s.role ≡ None) × (expiry role.Snapshot enforced start s.role.head.expires ≡ None)
HasChecked verifies _ = ⊤

abbrev pub CheckedIfOk : Verifies → Act → Result Receipt StepError → Type 0
CheckedIfOk verifies act (Ok r) = HasChecked verifies act
CheckedIfOk verifies act (Err e) = ⊤

module _ {S : Type 0} (tells : Bool) (files : S → Files) (count : S → ℕ) where
  -- the step that a vault of these parts takes
  abbrev pub Acts : Verifies → Act → Parts S → Parts S → Result Receipt StepError → Type 0
  Acts verifies (NoteTime now) old new result = Takes tells files count (time_step old.tip now) old new result
  Acts verifies (PutRoot root) old new result = Puts tells files count verifies root old new result
  Acts verifies ClearRotated old new result = Clears tells files count old new result
  Acts verifies (AdvanceTimestamp root t start enforced) old new result = Takes tells files count (timestamp_step verifies root old.tip t start enforced) old new result
  Acts verifies (AdvanceSnapshot root listed s start enforced) old new result = Takes tells files count (snapshot_step verifies root old.tip listed s start enforced) old new result
  Acts verifies (PutDocument name text) old new result = Takes tells files count (document_step name text) old new result
