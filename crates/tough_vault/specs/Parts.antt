-- What a vault holds, and the parts of a step's work.
use Rattle.std.specs.Prelude.{◌≡◌, ◌≢◌, ℕ, ℤ, List, length, Option, None, Some, Result, Err, Bool, true, IfOk, IfErr, OnOk, IsErrOf, slice_get, string_bytes}
use Rattle.tough_keys.specs.Same.{Verifies}
use Rattle.tough_roles.specs.Chain.{ReachesUnder}
use Rattle.tough_roles.specs.Signature.{SignedDoc, signed_json}
use Rattle.tough_roles.specs.declared.role_type.RoleType.TheVariants as role
use Rattle.tough_roles.specs.Root.{RootDoc, AreOwn, root_json}
use Rattle.tough_roles.specs.Timestamp.{TimestampDoc, timestamp_json}
use Rattle.tough_roles.specs.Snapshot.{SnapshotDoc, snapshot_json}
use Rattle.tough_vault.specs.Stored.{Files, SameFiles, SameElsewhere}
use Rattle.tough_vault.specs.declared.entry.Receipt.{Receipt}
use Rattle.tough_vault.specs.declared.entry.Entry.{Entry}
use Rattle.tough_vault.specs.declared.entry.Tip.{Tip}
use Rattle.tough_vault.specs.declared.parts.Prepared.{Prepared}
use Rattle.tough_checks.specs.declared.checks.StepError.{StepError}
use Rattle.tough_checks.specs.declared.checks.StepError.TheVariants.{DatastoreOpen, DatastoreCreate, Memory}
use Rattle.tough_checks.specs.Files.{time_file, root_file, timestamp_file, snapshot_file, IsFree}
use Rattle.tough_checks.specs.Documents.{root_text, root_in, timestamp_text, timestamp_in, snapshot_text, snapshot_in, ReadsBack}
use Rattle.tough_checks.specs.Versions.{Pair, Roles}
use Rattle.tough_vault.specs.Journal.{Note, Document, Broken, Last, note_of, notes_of, tip_of}
use Rattle.tough_vault.specs.Step.{Step, Parts, IsNoted, IsReceipt, IsUnwritten, Passes, Why}
use Rattle.tough_checks.specs.StoredDocuments.{stored_time}
use Rattle.tough_checks.specs.Checks.{versions_in, roles_in}
use Rattle.tough_vault.specs.Steps.{time_text}

abbrev pub parts : {S : Type 0} → S → List Entry → Tip → Parts S
parts store journal tip = record { store = store; notes = notes_of journal; tip = tip_of tip }

-- the file is the text of this instant, and is read as it
abbrev pub HoldsTime : ℤ → Option (List ℕ) → Type 0
HoldsTime t file = (file ≡ time_text t) × (file ≢ None) × (stored_time file ≡ Some t)

-- the file is the text of a signed timestamp with these versions, and is read as it
abbrev pub HoldsTimestamp : Pair → Option (List ℕ) → Type 0
HoldsTimestamp p file = (d : SignedDoc TimestampDoc) × (file ≡ timestamp_text d) × (file ≢ None) × (versions_in d.role ≡ p) × ReadsBack timestamp_in (signed_json timestamp_json d) d file

-- the same of a signed snapshot
abbrev pub HoldsSnapshot : Roles → Option (List ℕ) → Type 0
HoldsSnapshot r file = (d : SignedDoc SnapshotDoc) × (file ≡ snapshot_text d) × (file ≢ None) × (roles_in d.role ≡ r) × ReadsBack snapshot_in (signed_json snapshot_json d) d file

-- the text of the timestamp is read as it, where it nests no deeper than is read
abbrev pub TimestampReadsBack : SignedDoc TimestampDoc → Type 0
TimestampReadsBack d = ReadsBack timestamp_in (signed_json timestamp_json d) d (timestamp_text d)

-- the same of a snapshot
abbrev pub SnapshotReadsBack : SignedDoc SnapshotDoc → Type 0
SnapshotReadsBack d = ReadsBack snapshot_in (signed_json snapshot_json d) d (snapshot_text d)

-- the same of a root whose keys stand under their own identifiers
abbrev pub RootReadsBack : SignedDoc RootDoc → Type 0
RootReadsBack d = AreOwn d.role.keys → ReadsBack root_in (signed_json root_json d) d (root_text d)

-- the file is the text of a signed root of this version that verified itself by some verifier, and is read as it where its keys stand under their own identifiers
abbrev pub HoldsRoot : ℕ → Option (List ℕ) → Type 0
HoldsRoot v file = (d : SignedDoc RootDoc) × (file ≡ root_text d) × (file ≢ None) × (d.role.head.version ≡ v)
    × ((verifies : Verifies) × ReachesUnder verifies d.role role.Root root_json d)
    × (AreOwn d.role.keys → ReadsBack root_in (signed_json root_json d) d file)

-- What the files of a vault hold, for each part of the tip and each entry that speaks of one.
pub record Holds (files : Files) (notes : List Note) (tip : Last) : Type 0 where
  -- `latest_known_time.json` is the text of the tip's time
  pub time : (t : ℤ) → tip.time ≡ Some t → HoldsTime t (files time_file)
  -- `timestamp.json` is the text of a signed timestamp with the tip's versions
  pub timestamp : (p : Pair) → tip.timestamp ≡ Some p → HoldsTimestamp p (files timestamp_file)
  -- `snapshot.json` is the text of a signed snapshot with the tip's versions
  pub snapshot : (r : Roles) → tip.snapshot ≡ Some r → HoldsSnapshot r (files snapshot_file)
  -- `root.json` is the text of a signed root of the tip's version
  pub root : (v : ℕ) → tip.root ≡ Some v → HoldsRoot v (files root_file)
  -- each Document entry's file is there
  pub documents : (k : ℕ) (name : List ℕ) → slice_get notes k ≡ Some (Document name) → files name ≢ None

-- no Document entry has the name of one of the vault's own files
abbrev pub NamesFree : List Note → Type 0
NamesFree notes = (k : ℕ) (name : List ℕ) → slice_get notes k ≡ Some (Document name) → IsFree name

-- what a write needs was made: the entry and the bytes
pub record Carries (note : Note) (text : Option (List ℕ)) (p : Prepared) : Type 0 where
  pub entry : note_of p.entry ≡ note
  pub bytes : text ≡ Some p.bytes.items

module _ {S : Type 0} (tells : Bool) (files : S → Files) (count : S → ℕ) where
  -- A read of this file, as a step tells it: what it finds, or the store's fault with the file's name.
  abbrev pub IsReadFault : List ℕ → S → S → StepError → Type 0
  IsReadFault file old new (DatastoreOpen path) = (string_bytes path ≡ file) × (count new ≢ count old)
  IsReadFault file old new Memory = Unit {0}
  IsReadFault file old new _ = ⊥

  -- The first part of a step: it reads and checks, and writes nothing.
  pub record Prepares (step : Step) (old new : S) (result : Result Prepared StepError) : Type 0 where
    pub ready : IfOk result (λ p. (found : Option (List ℕ)) × Passes tells files count step old found × Carries (step.entry found) step.bytes p)
    pub why : IfErr result (Why tells files count step old new)
    pub early : IfErr result (λ e. IsUnwritten e → ⊥)
    pub quiet : OnOk result (count new ≡ count old)
    pub same : tells ≡ true → SameFiles (files old) (files new)

  -- a fault of a write of this file
  abbrev pub IsFault : List ℕ → S → S → StepError → Type 0
  IsFault file old new Memory = Unit {0}
  IsFault file old new (DatastoreCreate path) = (string_bytes path ≡ file) × (count new ≢ count old)
  IsFault file old new _ = ⊥

  -- The last part of a step: it writes the bytes, and notes this.
  pub record Writes (file : List ℕ) (note : Note) (bytes : List ℕ) (old new : Parts S) (result : Result Receipt StepError) : Type 0 where
    pub done : IfOk result (λ r. IsNoted note old new × IsReceipt (length old.notes) note r)
    pub stored : OnOk result (tells ≡ true → files new.store file ≡ Some bytes)
    pub fault : IfErr result (IsFault file old.store new.store)
    pub broken : IfErr result (λ e. IsUnwritten e → IsNoted Broken old new)
    pub same : IsErrOf result Memory → (new.notes ≡ old.notes) × (new.tip ≡ old.tip) × (tells ≡ true → SameFiles (files old.store) (files new.store))
    pub elsewhere : tells ≡ true → SameElsewhere file (files old.store) (files new.store)

  -- The same of what was prepared, where the first part may have refused: then nothing changes.
  pub record Concludes (file : List ℕ) (prepared : Result Prepared StepError) (old new : Parts S) (result : Result Receipt StepError) : Type 0 where
    pub refused : IfErr prepared (λ e. (result ≡ Err e) × (new ≡ old))
    pub written : IfOk prepared (λ p. Writes file (note_of p.entry) p.bytes.items old new result)
