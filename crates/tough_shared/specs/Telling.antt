-- What the answer of a step tells of what it was given.
use Rattle.std.specs.Prelude.{◌≡◌, ◌<◌, ◌==◌, ℕ, Option, None, Some, Result, Ok, Err, Bool, not, ⊤}
use Rattle.tough_keys.specs.Same.{Verifies}
use Rattle.tough_roles.specs.declared.role_type.RoleType.{RoleType}
use Rattle.tough_roles.specs.declared.role_type.RoleType.TheVariants as role
use Rattle.tough_checks.specs.Checks.{Reason, DatastoreSerialize, VerifyMetadata, VersionMismatch, OlderMetadata, ExpiredMetadata, reason_of, refuse, verified, expiry, versions_in, roles_in}
use Rattle.tough_checks.specs.Documents.{root_text, root_verdict, timestamp_verdict, snapshot_verdict}
use Rattle.tough_checks.specs.declared.checks.StepError.{StepError}
use Rattle.tough_checks.specs.declared.checks.StepError.TheVariants.{Refused}
use Rattle.tough_vault.specs.declared.entry.Receipt.{Receipt}
use Rattle.tough_vault.specs.Act.{Act, NoteTime, PutRoot, ClearRotated, AdvanceTimestamp, AdvanceSnapshot, PutDocument, HasChecked}
use Rattle.tough_vault.specs.Journal.{Note, Noted, Root, Timestamp, Snapshot, Cleared, Document, note_of, entry_of}
use Rattle.tough_vault.specs.Steps.{time_text, needs}

-- the entry tells what was given
abbrev pub Tells : Act → Note → Type 0
Tells (NoteTime now) n = n ≡ Noted now
Tells (PutRoot root) n = (cleared : Bool) × (n ≡ Root root.role.head.version cleared)
Tells ClearRotated n = n ≡ Cleared
Tells (AdvanceTimestamp root t start enforced) n = (had : Bool) × (n ≡ Timestamp (versions_in t.role) had)
Tells (AdvanceSnapshot root listed s start enforced) n = (had : Bool) × (n ≡ Snapshot (roles_in s.role) had)
Tells (PutDocument name text) n = n ≡ Document name

-- what verification refuses of what was given
abbrev pub unverified : Verifies → Act → Option Reason
unverified verifies (PutRoot root) = verified role.Root (root_verdict verifies root.role root)
unverified verifies (AdvanceTimestamp root t start enforced) = verified role.Timestamp (timestamp_verdict verifies root t)
unverified verifies (AdvanceSnapshot root listed s start enforced) = verified role.Snapshot (snapshot_verdict verifies root s)
unverified verifies _ = None

-- its version isn't the listed one
abbrev pub mismatched : Act → Option Reason
mismatched (AdvanceSnapshot root listed s start enforced) = refuse (not (s.role.head.version == listed)) (VersionMismatch role.Snapshot s.role.head.version listed)
mismatched _ = None

-- it has expired
abbrev pub expired : Act → Option Reason
expired (AdvanceTimestamp root t start enforced) = expiry role.Timestamp enforced start t.role.head.expires
expired (AdvanceSnapshot root listed s start enforced) = expiry role.Snapshot enforced start s.role.head.expires
expired _ = None

-- it has no text
abbrev pub textless : Act → Option Reason
textless (NoteTime now) = needs (time_text now)
textless (PutRoot root) = needs (root_text root)
textless (PutDocument name text) = needs text
textless _ = None

-- this is the role, and the version, of the document that was given
abbrev pub IsVersion : Act → RoleType → ℕ → Type 0
IsVersion (PutRoot root) type v = (type ≡ role.Root) × (v ≡ root.role.head.version)
IsVersion (AdvanceTimestamp root t start enforced) type v = (type ≡ role.Timestamp) × (v ≡ t.role.head.version)
IsVersion (AdvanceSnapshot root listed s start enforced) type v = (type ≡ role.Snapshot) × (v ≡ s.role.head.version)
IsVersion _ type v = ⊥

-- The refusals that speak of what was given come only where that is so of it; one of an older document names its version as the new one, below
-- the current one.
abbrev pub IsDue : Verifies → Act → Reason → Type 0
IsDue verifies act (VerifyMetadata type cause) = unverified verifies act ≡ Some (VerifyMetadata type cause)
IsDue verifies act (VersionMismatch type version listed) = mismatched act ≡ Some (VersionMismatch type version listed)
IsDue verifies act (ExpiredMetadata type expires start) = expired act ≡ Some (ExpiredMetadata type expires start)
IsDue verifies act DatastoreSerialize = textless act ≡ Some DatastoreSerialize
IsDue verifies act (OlderMetadata type current new) = IsVersion act type new × (new < current)
IsDue verifies act _ = ⊤

-- A step that succeeded has made its checks, and its entry tells what was given.
abbrev pub AnswersTo : Verifies → Act → Result Receipt StepError → Type 0
AnswersTo verifies act (Ok r) = HasChecked verifies act × Tells act (note_of (entry_of r))
AnswersTo verifies act (Err (Refused c)) = IsDue verifies act (reason_of c)
AnswersTo verifies act (Err _) = ⊤
