-- The checks of the steps (TUF specification 5.3 to 5.6). Each is the refusal that it gives, if any; of a list the first counts.
use Rattle.std.specs.Prelude.{◌≡◌, ◌==◌, ℕ, ℤ, List, [], ◌∷◌, map, length, Option, None, Some, Result, Ok, Err, Bool, true, false, not, nat_lt, int_lt, is_some, string_bytes, ◌&&◌}
use Rattle.tough_roles.specs.declared.role_type.RoleType.{RoleType}
use Rattle.tough_roles.specs.declared.role_type.RoleType.TheVariants as role
use Rattle.tough_roles.specs.Root.{RootDoc}
use Rattle.tough_roles.specs.Signature.{SignedDoc}
use Rattle.tough_roles.specs.Timestamp.{TimestampDoc, MetafileDoc, timestamp_doc}
use Rattle.tough_roles.specs.declared.timestamp.Timestamp.{Timestamp as TimestampFile}
use Rattle.tough_roles.specs.declared.snapshot.Snapshot.{Snapshot as SnapshotFile}
use Rattle.tough_roles.specs.Snapshot.{SnapshotDoc, snapshot_doc}
use Rattle.tough_checks.specs.declared.checks.ExpirationEnforcement.{ExpirationEnforcement}
use Rattle.tough_checks.specs.declared.checks.ExpirationEnforcement.TheVariants.{Safe, Unsafe}
use Rattle.tough_roles.specs.Verdict.{Refused, refused}
use Rattle.tough_checks.specs.declared.checks.Refusal.{Refusal}
use Rattle.tough_checks.specs.declared.checks.Refusal.TheVariants as refusal
use Rattle.tough_checks.specs.declared.checks.StepError.{StepError}
use Rattle.tough_checks.specs.declared.checks.StepError.TheVariants as step
use Rattle.tough_checks.specs.Files.{snapshot_file, targets_file}
use Rattle.tough_roles.specs.Timestamp.{metafile_in}
use Rattle.tough_checks.specs.Versions.{Pair, Roles, Item, version_in}

-- why a step was refused by a check
pub data Reason : Type 0 where
  -- the moment, and the later one that is known
  SystemTimeSteppedBackward : ℤ → ℤ → Reason
  DatastoreSerialize : Reason
  -- what verification refused
  VerifyMetadata : RoleType → Option Refused → Reason
  -- the document's version, and the listed one
  VersionMismatch : RoleType → ℕ → ℕ → Reason
  -- the timestamp's version, and how many names it lists
  TimestampMetaLength : ℕ → ℕ → Reason
  MissingSnapshotMeta : ℕ → Reason
  SnapshotTargetsMetaMissing : ℕ → Reason
  -- the current version, and the new one
  OlderMetadata : RoleType → ℕ → ℕ → Reason
  -- the snapshot's and the timestamp's version: of the new one, and of the old one
  OlderSnapshotInTimestamp : ℕ → ℕ → ℕ → ℕ → Reason
  -- the name, and the versions of the old and the new snapshot
  SnapshotRoleMissing : List ℕ → ℕ → ℕ → Reason
  -- the name, its old version, the old snapshot's, its new version, the new snapshot's
  SnapshotRoleRollback : List ℕ → ℕ → ℕ → ℕ → ℕ → Reason
  -- its expiry, and when the update began
  ExpiredMetadata : RoleType → ℤ → ℤ → Reason

abbrev pub refuse : Bool → Reason → Option Reason
refuse true r = Some r
refuse false r = None

abbrev pub or_else : Option Reason → Option Reason → Option Reason
or_else (Some r) q = Some r
or_else None q = q

abbrev pub first_of : List (Option Reason) → Option Reason
first_of [] = None
first_of (c ∷ cs) = or_else c (first_of cs)

-- the update began after this instant; where expiry isn't enforced, this isn't checked
abbrev pub is_expired : Bool → ℤ → ℤ → Bool
is_expired enforced start expires = enforced && int_lt expires start

abbrev pub expiry : RoleType → Bool → ℤ → ℤ → Option Reason
expiry role enforced start expires = refuse (is_expired enforced start expires) (ExpiredMetadata role expires start)

-- an instant later than the one to be noted
abbrev pub later : Option ℤ → ℤ → Option Reason
later None now = None
later (Some time) now = refuse (int_lt now time) (SystemTimeSteppedBackward now time)

abbrev pub version_of : Option MetafileDoc → ℕ
version_of None = 0
version_of (Some m) = m.version

-- the version of the snapshot that a timestamp names
abbrev pub snapshot_version : TimestampDoc → ℕ
snapshot_version t = version_of (metafile_in t.meta snapshot_file)

-- a timestamp lists exactly `snapshot.json`
abbrev pub timestamp_form : TimestampDoc → Option Reason
timestamp_form t = first_of
    (refuse (not (length t.meta == 1)) (TimestampMetaLength t.head.version (length t.meta))
    ∷ refuse (not (is_some (metafile_in t.meta snapshot_file))) (MissingSnapshotMeta t.head.version)
    ∷ [])

abbrev pub verified : RoleType → Result Unit Refused → Option Reason
verified role (Ok u) = None
verified role (Err r) = Some (VerifyMetadata role (Some r))

-- ---- roots

-- the root isn't older than one that was accepted before
abbrev pub root_older : ℕ → RootDoc → Option Reason
root_older old r = refuse (nat_lt r.head.version old) (OlderMetadata role.Root old r.head.version)

-- against the stored root
abbrev pub root_against : Option (SignedDoc RootDoc) → RootDoc → Option Reason
root_against None r = None
root_against (Some old) r = root_older old.role.head.version r

-- against the tip
abbrev pub root_tip : Option ℕ → RootDoc → Option Reason
root_tip None r = None
root_tip (Some tip) r = root_older tip r

-- after the stored root was read: against it, then the tip
abbrev pub root_after : Option (SignedDoc RootDoc) → Option ℕ → RootDoc → Option Reason
root_after old tip r = first_of (root_against old r ∷ root_tip tip r ∷ [])

-- ---- timestamps

-- before the stored timestamp is read
abbrev pub timestamp_first : Result Unit Refused → TimestampDoc → Option Reason
timestamp_first verdict t = first_of (verified role.Timestamp verdict ∷ timestamp_form t ∷ [])

-- against an older pair of versions
abbrev pub timestamp_below : Pair → TimestampDoc → Option Reason
timestamp_below old t = refuse (nat_lt (snapshot_version t) old.snapshot) (OlderSnapshotInTimestamp (snapshot_version t) t.head.version old.snapshot old.version)

abbrev pub timestamp_older : ℕ → TimestampDoc → Option Reason
timestamp_older old t = refuse (nat_lt t.head.version old) (OlderMetadata role.Timestamp old t.head.version)

-- against the stored timestamp
abbrev pub timestamp_against : Option TimestampDoc → TimestampDoc → Option Reason
timestamp_against None t = None
timestamp_against (Some old) t = first_of
    (timestamp_older old.head.version t
    ∷ timestamp_form old
    ∷ timestamp_below (record { version = old.head.version; snapshot = snapshot_version old }) t
    ∷ [])

-- against the tip
abbrev pub timestamp_tip : Option Pair → TimestampDoc → Option Reason
timestamp_tip None t = None
timestamp_tip (Some tip) t = first_of (timestamp_older tip.version t ∷ timestamp_below tip t ∷ [])

-- after the stored timestamp was read: against it, then the tip, then expiry
abbrev pub timestamp_after : Option TimestampDoc → Option Pair → TimestampDoc → ℤ → Bool → Option Reason
timestamp_after old tip t start enforced = first_of
    (timestamp_against old t
    ∷ timestamp_tip tip t
    ∷ expiry role.Timestamp enforced start t.head.expires
    ∷ [])

-- ---- snapshots

-- the names and versions that a snapshot lists, in order
abbrev pub items_in : List (List ℕ × MetafileDoc) → List Item
items_in meta = map (λ e. record { name = e.0; version = e.1.version }) meta

-- a snapshot lists `targets.json`
abbrev pub snapshot_form : SnapshotDoc → Option Reason
snapshot_form s = refuse (not (is_some (metafile_in s.meta targets_file))) (SnapshotTargetsMetaMissing s.head.version)

-- before the stored snapshot is read: it has the listed version, it is signed, and it has the form of a snapshot
abbrev pub snapshot_first : ℕ → Result Unit Refused → SnapshotDoc → Option Reason
snapshot_first listed verdict s = first_of
    (refuse (not (s.head.version == listed)) (VersionMismatch role.Snapshot s.head.version listed)
    ∷ verified role.Snapshot verdict
    ∷ snapshot_form s
    ∷ [])

-- a name that an older snapshot (version `old`) lists with a version, against what a newer one (version `new`) lists for it
abbrev pub fallen_at : Item → Option ℕ → ℕ → ℕ → Option Reason
fallen_at item None old new = Some (SnapshotRoleMissing item.name old new)
fallen_at item (Some now) old new = refuse (nat_lt now item.version) (SnapshotRoleRollback item.name item.version old now new)

-- the first listed name, in order, that is missing or fell
abbrev pub fallen : List Item → List Item → ℕ → ℕ → Option Reason
fallen [] items old new = None
fallen (item ∷ rest) items old new = or_else (fallen_at item (version_in items item.name) old new) (fallen rest items old new)

abbrev pub snapshot_older : ℕ → SnapshotDoc → Option Reason
snapshot_older old s = refuse (nat_lt s.head.version old) (OlderMetadata role.Snapshot old s.head.version)

-- against the stored snapshot
abbrev pub snapshot_against : Option SnapshotDoc → SnapshotDoc → Option Reason
snapshot_against None s = None
snapshot_against (Some old) s = first_of
    (snapshot_older old.head.version s
    ∷ snapshot_form old
    ∷ fallen (items_in old.meta) (items_in s.meta) old.head.version s.head.version
    ∷ [])

-- against the tip
abbrev pub snapshot_tip : Option Roles → SnapshotDoc → Option Reason
snapshot_tip None s = None
snapshot_tip (Some tip) s = first_of (snapshot_older tip.version s ∷ fallen tip.items (items_in s.meta) tip.version s.head.version ∷ [])

-- after the stored snapshot was read: against it, then the tip, then expiry
abbrev pub snapshot_after : Option SnapshotDoc → Option Roles → SnapshotDoc → ℤ → Bool → Option Reason
snapshot_after old tip s start enforced = first_of
    (snapshot_against old s
    ∷ snapshot_tip tip s
    ∷ expiry role.Snapshot enforced start s.head.expires
    ∷ [])

-- after the stored time was read
abbrev pub time_after : Option ℤ → Option ℤ → ℤ → Option Reason
time_after stored tip now = first_of (later stored now ∷ later tip now ∷ [])

-- a refusal, with the names in it as bytes and the instants in nanoseconds
abbrev pub reason_of : Refusal → Reason
reason_of (refusal.SystemTimeSteppedBackward now later) = SystemTimeSteppedBackward now.nanosecond later.nanosecond
reason_of refusal.DatastoreSerialize = DatastoreSerialize
reason_of (refusal.VerifyMetadata role source) = VerifyMetadata role (refused source)
reason_of (refusal.VersionMismatch role fetched expected) = VersionMismatch role fetched expected
reason_of (refusal.TimestampMetaLength version count) = TimestampMetaLength version count
reason_of (refusal.MissingSnapshotMeta version) = MissingSnapshotMeta version
reason_of (refusal.SnapshotTargetsMetaMissing version) = SnapshotTargetsMetaMissing version
reason_of (refusal.OlderMetadata role current new) = OlderMetadata role current new
reason_of (refusal.OlderSnapshotInTimestamp a b c d) = OlderSnapshotInTimestamp a b c d
reason_of (refusal.SnapshotRoleMissing name old new) = SnapshotRoleMissing (string_bytes name) old new
reason_of (refusal.SnapshotRoleRollback name was old now new) = SnapshotRoleRollback (string_bytes name) was old now new
reason_of (refusal.ExpiredMetadata role expires now) = ExpiredMetadata role expires.nanosecond now.nanosecond

-- checks were made: all passed, or the first that refuses is told, or memory was wanting
abbrev pub Checked : {A : Type 0} → Option Reason → Result A StepError → Type 0
Checked first (Ok x) = first ≡ None
Checked first (Err (step.Refused c)) = first ≡ Some (reason_of c)
Checked first (Err step.Memory) = Unit {0}
Checked first (Err _) = ⊥

-- the same of checks that take no memory
abbrev pub RefusedBy : {A : Type 0} → Option Reason → Result A Refusal → Type 0
RefusedBy first (Ok x) = first ≡ None
RefusedBy first (Err c) = first ≡ Some (reason_of c)

abbrev pub timestamp_where : Option TimestampFile → Option TimestampDoc
timestamp_where None = None
timestamp_where (Some t) = Some (timestamp_doc t)

abbrev pub enforces : ExpirationEnforcement → Bool
enforces Safe = true
enforces Unsafe = false

abbrev pub snapshot_where : Option SnapshotFile → Option SnapshotDoc
snapshot_where None = None
snapshot_where (Some s) = Some (snapshot_doc s)

-- the versions of a timestamp, and those of a snapshot
abbrev pub versions_in : TimestampDoc → Pair
versions_in t = record { version = t.head.version; snapshot = snapshot_version t }

abbrev pub roles_in : SnapshotDoc → Roles
roles_in s = record { version = s.head.version; items = items_in s.meta }
