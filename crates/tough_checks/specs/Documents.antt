-- Signed documents as the steps see them.
use Rattle.std.specs.Prelude.{◌≡◌, ℕ, List, Option, None, Some, option_and_then, Result}
use Rattle.serde_json.specs.Data.{Data}
use Rattle.serde_json.specs.Read.{max_depth}
use Rattle.tough_json.specs.CanonicalText.{canonical_of}
use Rattle.tough_json.specs.Pieces.{compact_of}
use Rattle.tough_json.specs.Results.{json_of}
use Rattle.tough_roles.specs.Signature.{SignedDoc, signed_at, signed_json}
use Rattle.tough_roles.specs.Readable.{NestsWithin}
use Rattle.tough_roles.specs.Root.{RootDoc, root_at, root_json}
use Rattle.tough_roles.specs.Timestamp.{TimestampDoc, timestamp_at, timestamp_json}
use Rattle.tough_roles.specs.Snapshot.{SnapshotDoc, snapshot_at, snapshot_json}
use Rattle.tough_keys.specs.Same.{Verifies}
use Rattle.tough_roles.specs.Chain.{text_by}
use Rattle.tough_roles.specs.Policy.{policy}
use Rattle.tough_roles.specs.Verdict.{Refused, MissingRole, verdict}
use Rattle.tough_roles.specs.declared.role_type.RoleType.TheVariants as role

-- the text of a signed document in a store, compact JSON, where it can be written
abbrev pub root_text : SignedDoc RootDoc → Option (List ℕ)
root_text d = option_and_then compact_of (signed_json root_json d)

abbrev pub timestamp_text : SignedDoc TimestampDoc → Option (List ℕ)
timestamp_text d = option_and_then compact_of (signed_json timestamp_json d)

abbrev pub snapshot_text : SignedDoc SnapshotDoc → Option (List ℕ)
snapshot_text d = option_and_then compact_of (signed_json snapshot_json d)

-- the signed root that bytes are
abbrev pub root_in : List ℕ → Option (SignedDoc RootDoc)
root_in bytes = option_and_then (signed_at root_at) (json_of bytes)

-- the signed timestamp that bytes are
abbrev pub timestamp_in : List ℕ → Option (SignedDoc TimestampDoc)
timestamp_in bytes = option_and_then (signed_at timestamp_at) (json_of bytes)

-- what a root's verification of a signed root answers
abbrev pub root_verdict : Verifies → RootDoc → SignedDoc RootDoc → Result Unit Refused
root_verdict verifies root d = verdict verifies (MissingRole role.Root) role.Root (policy root role.Root) (text_by root_json d.role) d.signatures

-- what a root's verification of a signed timestamp answers
abbrev pub timestamp_verdict : Verifies → RootDoc → SignedDoc TimestampDoc → Result Unit Refused
timestamp_verdict verifies root d = verdict verifies (MissingRole role.Timestamp) role.Timestamp (policy root role.Timestamp) (option_and_then canonical_of (timestamp_json d.role)) d.signatures

-- the same of a snapshot
abbrev pub snapshot_in : List ℕ → Option (SignedDoc SnapshotDoc)
snapshot_in bytes = option_and_then (signed_at snapshot_at) (json_of bytes)

abbrev pub snapshot_verdict : Verifies → RootDoc → SignedDoc SnapshotDoc → Result Unit Refused
snapshot_verdict verifies root d = verdict verifies (MissingRole role.Snapshot) role.Snapshot (policy root role.Snapshot) (option_and_then canonical_of (snapshot_json d.role)) d.signatures

-- what the file holds is read as the document, where its JSON nests no deeper than is read
abbrev pub ReadsBack : {A : Type 0} → (List ℕ → Option (SignedDoc A)) → Option Data → SignedDoc A → Option (List ℕ) → Type 0
ReadsBack reads json d file = (bytes : List ℕ) → file ≡ Some bytes → NestsWithin max_depth json → reads bytes ≡ Some d
