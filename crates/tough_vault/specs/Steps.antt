-- The steps that write, each as the table of its refusals and what it writes and notes.
use Rattle.std.specs.Prelude.{ℕ, ℤ, List, [], ◌∷◌, Option, None, Some, Bool, true, false, is_some, option_map}
use Rattle.tough_roles.specs.Signature.{SignedDoc}
use Rattle.tough_roles.specs.Root.{RootDoc}
use Rattle.tough_roles.specs.Timestamp.{TimestampDoc}
use Rattle.tough_roles.specs.Snapshot.{SnapshotDoc}
use Rattle.tough_roles.specs.declared.role_type.RoleType.TheVariants as role
use Rattle.tough_keys.specs.Same.{Verifies}
use Rattle.tough_json.specs.Moment.{moment_text}
use Rattle.serde_json.specs.Data as Data
use Rattle.serde_json.specs.Written.{compact_text}
use Rattle.tough_checks.specs.Files.{time_file, root_file, timestamp_file, snapshot_file}
use Rattle.tough_checks.specs.Documents.{root_text, root_verdict, timestamp_text, timestamp_verdict, snapshot_text, snapshot_verdict}
use Rattle.tough_vault.specs.Journal.{Noted, Root as RootNote, Timestamp, Snapshot, Document, Last}
use Rattle.tough_checks.specs.Checks.{Reason, DatastoreSerialize, first_of, verified, time_after, root_after, timestamp_first, timestamp_after, snapshot_first, snapshot_after, versions_in, roles_in}
use Rattle.tough_checks.specs.Rotation.{rotates}
use Rattle.tough_checks.specs.StoredDocuments.{stored_time, stored_root, stored_timestamp, stored_snapshot}
use Rattle.tough_vault.specs.Step.{Step}

-- the text of an instant in a store: one JSON text
abbrev pub time_text : ℤ → Option (List ℕ)
time_text t = option_map (λ s. compact_text (Data.string s)) (moment_text t)

-- a document or an instant without a text is refused
abbrev pub needs : Option (List ℕ) → Option Reason
needs None = Some DatastoreSerialize
needs (Some text) = None

-- Notes the time, unless the stored one or the tip's is later.
abbrev pub time_step : Last → ℤ → Step
time_step tip now = record {
  file = time_file;
  reads = true;
  before = None;
  after = λ found. first_of (time_after (stored_time found) tip.time now ∷ needs (time_text now) ∷ []);
  bytes = time_text now;
  entry = λ found. Noted now;
}

-- Accepts a root (TUF specification 5.3). Where the stored root has other lists of keys, timestamp and snapshot are cleared.
abbrev pub root_step : Verifies → Last → SignedDoc RootDoc → Step
root_step verifies tip root = record {
  file = root_file;
  reads = true;
  before = verified role.Root (root_verdict verifies root.role root);
  after = λ found. first_of (root_after (stored_root verifies found) tip.root root.role ∷ needs (root_text root) ∷ []);
  bytes = root_text root;
  entry = λ found. RootNote root.role.head.version (rotates (stored_root verifies found) root.role);
}

-- Accepts a timestamp (TUF specification 5.4).
abbrev pub timestamp_step : Verifies → RootDoc → Last → SignedDoc TimestampDoc → ℤ → Bool → Step
timestamp_step verifies root tip new start enforced = record {
  file = timestamp_file;
  reads = true;
  before = timestamp_first (timestamp_verdict verifies root new) new.role;
  after = λ found. timestamp_after (stored_timestamp verifies root found) tip.timestamp new.role start enforced;
  bytes = timestamp_text new;
  entry = λ found. Timestamp (versions_in new.role) (is_some (stored_timestamp verifies root found));
}

-- Accepts a snapshot of the version that the timestamp lists (TUF specification 5.5).
abbrev pub snapshot_step : Verifies → RootDoc → Last → ℕ → SignedDoc SnapshotDoc → ℤ → Bool → Step
snapshot_step verifies root tip listed new start enforced = record {
  file = snapshot_file;
  reads = true;
  before = snapshot_first listed (snapshot_verdict verifies root new) new.role;
  after = λ found. snapshot_after (stored_snapshot verifies root found) tip.snapshot new.role start enforced;
  bytes = snapshot_text new;
  entry = λ found. Snapshot (roles_in new.role) (is_some (stored_snapshot verifies root found));
}

-- Stores targets or a delegated document, of this text, in the file of this name.
abbrev pub document_step : List ℕ → Option (List ℕ) → Step
document_step name text = record {
  file = name;
  reads = false;
  before = needs text;
  after = λ found. None;
  bytes = text;
  entry = λ found. Document name;
}
