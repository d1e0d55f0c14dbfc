-- What a store holds, as the steps see it.
use Rattle.std.specs.Prelude.{◌≡◌, ℕ, ℤ, List, Option, None, Some, option_and_then, nat_lt, Result, Ok, Err, Vec, if◌then◌else◌}
use Rattle.std.specs.declared.alloc.Global.{Global}
use Rattle.tough_roles.specs.Root.{RootDoc, root_doc}
use Rattle.tough_roles.specs.Timestamp.{TimestampDoc}
use Rattle.tough_roles.specs.Snapshot.{SnapshotDoc}
use Rattle.tough_keys.specs.Same.{Verifies}
use Rattle.tough_roles.specs.Chain.{text_by}
use Rattle.tough_roles.specs.Policy.{policy}
use Rattle.tough_roles.specs.Signature.{SignedDoc, signed_doc, signatures_doc}
use Rattle.tough_roles.specs.Verdict.{Refused, MissingRole, verdict}
use Rattle.tough_roles.specs.declared.role_type.RoleType.{RoleType}
use Rattle.tough_roles.specs.declared.root.Root.{Root}
use Rattle.tough_roles.specs.declared.signed.Signed.{Signed}
use Rattle.serde_json.specs.Data.{Data}
use Rattle.tough_json.specs.declared.error.ReadError.{ReadError}
use Rattle.tough_json.specs.declared.error.ReadError.TheVariants as errors
use Rattle.tough_json.specs.Results.{json_of}
use Rattle.tough_json.specs.Reading.{instant, ◌>>=◌}
use Rattle.tough_checks.specs.Documents.{root_in, root_verdict, timestamp_in, timestamp_verdict, snapshot_in, snapshot_verdict}

-- what a read found
abbrev pub content : Option (Vec ℕ Global) → Option (List ℕ)
content None = None
content (Some v) = Some v.items

-- the instant that bytes are
abbrev pub time_in : List ℕ → Option ℤ
time_in bytes = option_and_then instant (json_of bytes)

abbrev pub stored_time : Option (List ℕ) → Option ℤ
stored_time None = None
stored_time (Some bytes) = time_in bytes

-- what verification answered, on a document that reads
abbrev pub if_verified : {A : Type 0} → Result Unit Refused → A → Option A
if_verified (Ok u) a = Some a
if_verified (Err r) a = None

-- the document that was read, where it could be read and the root verifies it; nothing is said where memory was wanting
abbrev pub IsAccepted : {T : Type 0} → Verifies → RootDoc → RoleType → (T → Option Data) → Result (Signed T) ReadError → Option T → Type 0
IsAccepted verifies root type json (Ok s) old =
    old ≡ if_verified (verdict verifies (MissingRole type) type (policy root type) (text_by json s.signed) (signatures_doc s.signatures.items)) s.signed
IsAccepted verifies root type json (Err (errors.Json place)) old = old ≡ None
IsAccepted verifies root type json (Err (errors.Shape told)) old = old ≡ None
IsAccepted verifies root type json (Err errors.Memory) old = ⊥

-- the stored document, where the file reads and the root verifies it
abbrev pub stored_timestamp : Verifies → RootDoc → Option (List ℕ) → Option TimestampDoc
stored_timestamp verifies root found = do
  bytes ← found
  d ← timestamp_in bytes
  if_verified (timestamp_verdict verifies root d) d.role

abbrev pub stored_snapshot : Verifies → RootDoc → Option (List ℕ) → Option SnapshotDoc
stored_snapshot verifies root found = do
  bytes ← found
  d ← snapshot_in bytes
  if_verified (snapshot_verdict verifies root d) d.role

-- ---- roots

-- the root that was read, where it could be read and verifies itself; nothing is said where memory was wanting
abbrev pub IsAcceptedRoot : Verifies → Result (Signed Root) ReadError → Option (Signed Root) → Type 0
IsAcceptedRoot verifies (Ok s) old = old ≡ if_verified (root_verdict verifies (root_doc s.signed) (signed_doc root_doc s)) s
IsAcceptedRoot verifies (Err (errors.Json place)) old = old ≡ None
IsAcceptedRoot verifies (Err (errors.Shape told)) old = old ≡ None
IsAcceptedRoot verifies (Err errors.Memory) old = ⊥

abbrev pub root_where : Option (Signed Root) → Option (SignedDoc RootDoc)
root_where None = None
root_where (Some r) = Some (signed_doc root_doc r)

-- the stored root, where the file reads and the root verifies itself
abbrev pub stored_root : Verifies → Option (List ℕ) → Option (SignedDoc RootDoc)
stored_root verifies found = do
  bytes ← found
  d ← root_in bytes
  if_verified (root_verdict verifies d.role d) d

-- the root, where it is newer than this version
abbrev pub newer_root : ℕ → Option (SignedDoc RootDoc) → Option (SignedDoc RootDoc)
newer_root first None = None
newer_root first (Some r) = if nat_lt first r.role.head.version then Some r else None
