-- Steps on one store, by one vault after another.
use Rattle.std.specs.Prelude.{◌≡◌, ℕ, ℤ, List, [], ◌∷◌, ◌++◌, Option, None, Some, Bool, true, Result, OnOk, ⊤}
use Rattle.tough_keys.specs.Same.{Verifies}
use Rattle.tough_roles.specs.Policy.{Policy, policy}
use Rattle.tough_roles.specs.Timestamp.{TimestampDoc}
use Rattle.tough_roles.specs.Snapshot.{SnapshotDoc}
use Rattle.tough_roles.specs.Root.{RootDoc}
use Rattle.tough_roles.specs.declared.role_type.RoleType.TheVariants as role
use Rattle.tough_checks.specs.Checks.{later, timestamp_against, timestamp_tip, snapshot_against, snapshot_tip}
use Rattle.tough_checks.specs.Documents.{root_in, timestamp_in, snapshot_in}
use Rattle.tough_checks.specs.Files.{time_file, timestamp_file, snapshot_file, IsFree}
use Rattle.tough_checks.specs.StoredDocuments.{stored_time, stored_timestamp, stored_snapshot}
use Rattle.tough_checks.specs.declared.checks.StepError.{StepError}
use Rattle.tough_vault.specs.declared.entry.Receipt.{Receipt}
use Rattle.tough_vault.specs.Act.{Act, PutRoot, AdvanceTimestamp, AdvanceSnapshot, PutDocument, Acts}
use Rattle.tough_vault.specs.Journal.{Note, Last}
use Rattle.tough_vault.specs.Step.{Parts}
use Rattle.tough_vault.specs.Stored.{Files, SameFiles}
use Rattle.tough_trust.specs.Vaults.{ReadsBack}

-- Such steps updates ask for: a timestamp or snapshot was read from bytes, and no document has a name of the vault's own files.
abbrev pub IsProper : Act → Type 0
IsProper (AdvanceTimestamp root t start enforced) = (bytes : List ℕ) × (timestamp_in bytes ≡ Some t)
IsProper (AdvanceSnapshot root listed s start enforced) = (bytes : List ℕ) × (snapshot_in bytes ≡ Some s)
IsProper (PutDocument name text) = IsFree name
IsProper _ = ⊤

-- a root was read from bytes, as each that an update stores
abbrev pub IsRead : Act → Type 0
IsRead (PutRoot root) = (bytes : List ℕ) × (root_in bytes ≡ Some root)
IsRead _ = ⊤

-- its root asks this of the signatures of a timestamp, and that of those of a snapshot
abbrev pub IsUnder : Option Policy → Option Policy → Act → Type 0
IsUnder P Q (AdvanceTimestamp root t start enforced) = policy root role.Timestamp ≡ P
IsUnder P Q (AdvanceSnapshot root listed s start enforced) = policy root role.Snapshot ≡ Q
IsUnder P Q _ = ⊤

-- a step that was asked, and the entries that it added
pub record Taken : Type 0 where
  pub act : Act
  pub notes : List Note

abbrev pub all_notes : List Taken → List Note
all_notes [] = []
all_notes (x ∷ xs) = x.notes ++ all_notes xs

abbrev pub AllUnder : Option Policy → Option Policy → List Taken → Type 0
AllUnder P Q [] = ⊤
AllUnder P Q (x ∷ xs) = IsUnder P Q x.act × AllUnder P Q xs

abbrev pub AllProper : List Taken → Type 0
AllProper [] = ⊤
AllProper (x ∷ xs) = IsProper x.act × AllProper xs

abbrev pub AllRead : List Taken → Type 0
AllRead [] = ⊤
AllRead (x ∷ xs) = IsRead x.act × AllRead xs

module _ {S : Type 0} (tells : Bool) (files : S → Files) (count : S → ℕ) (verifies : Verifies) where
  -- some vault took it
  pub record Takes (x : Taken) (old new : S) : Type 0 where
    pub before : Parts S
    pub after : Parts S
    pub result : Result Receipt StepError
    pub acts : Acts tells files count verifies x.act before after result
    pub back : OnOk result (ReadsBack x.act)
    pub added : after.notes ≡ before.notes ++ x.notes
    -- since the last step the stored root may have been looked at
    pub from : tells ≡ true → SameFiles (files old) (files before.store)
    pub to : after.store ≡ new

  -- steps one after another, of any vaults on the store
  abbrev pub Trail : S → List Taken → S → Type 0
  Trail old [] new = tells ≡ true → SameFiles (files old) (files new)
  Trail old (x ∷ xs) new = (mid : S) × Takes x old mid × Trail mid xs new

  -- The checks against a vault's tip refuse nothing that the checks against what its store holds let through, under roots of these policies.
  pub record AddsNothing (P Q : Option Policy) (p : Parts S) : Type 0 where
    pub times : (now : ℤ) → later (stored_time (files p.store time_file)) now ≡ None → later p.tip.time now ≡ None
    pub timestamps : (root : RootDoc) (t : TimestampDoc) → policy root role.Timestamp ≡ P
        → timestamp_against (stored_timestamp verifies root (files p.store timestamp_file)) t ≡ None → timestamp_tip p.tip.timestamp t ≡ None
    pub snapshots : (root : RootDoc) (s : SnapshotDoc) → policy root role.Snapshot ≡ Q
        → snapshot_against (stored_snapshot verifies root (files p.store snapshot_file)) s ≡ None → snapshot_tip p.tip.snapshot s ≡ None
