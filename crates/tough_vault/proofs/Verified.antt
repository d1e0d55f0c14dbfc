-- What was verified can be written.
use Rattle.std.proofs.Common.{◌≡◌, ◌≢◌, ℕ, not, ◌==◌, List, [], ◌∷◌, Option, Some, None, Result, Ok, Err, option_and_then, refl}
use Rattle.serde_json.specs.Data.{Data}
use Rattle.tough_json.specs.CanonicalText.{canonical_of}
use Rattle.tough_json.specs.Pieces.{text_in}
use Rattle.tough_json.specs.declared.pieces.Form.TheVariants as forms
use Rattle.tough_keys.specs.Same.{Verifies}
use Rattle.tough_roles.specs.Policy.{Policy}
use Rattle.tough_roles.specs.Root.{RootDoc}
use Rattle.tough_roles.specs.Signature.{SignatureDoc, SignedDoc, AreSpelled}
use Rattle.tough_roles.specs.Snapshot.{SnapshotDoc, snapshot_json}
use Rattle.tough_roles.specs.Timestamp.{TimestampDoc, timestamp_json}
use Rattle.tough_roles.specs.Verdict.{Refused, verdict}
use Rattle.tough_roles.specs.declared.role_type.RoleType.{RoleType}
use Rattle.tough_roles.specs.declared.role_type.RoleType.TheVariants as role
use Rattle.tough_roles.proofs.lemmas.Written.{verified-text, verified-written}
use Rattle.tough_checks.specs.Checks.{VersionMismatch, refuse, verified, first_of, timestamp_first, timestamp_form, snapshot_first, snapshot_form}
use Rattle.tough_checks.specs.Documents.{timestamp_text, timestamp_verdict, snapshot_text, snapshot_verdict}
use Rattle.tough_vault.proofs.Fitting.{or_else_none}

ok_of : (type : RoleType) (answer : Result Unit Refused) → verified type answer ≡ None → answer ≡ Ok tt
ok_of type (Ok u) h = refl
ok_of type (Err r) h = cc

some_none : {A : Type 0} (o : Option A) (a : A) → o ≡ Some a → o ≡ None → ⊥
some_none o a is none = cc

unwritten : (v : Verifies) (absent : Refused) (type : RoleType) (p : Option Policy) (o : Option Data) (ss : List SignatureDoc) → verdict v absent type p (option_and_then canonical_of o) ss ≡ Ok tt → option_and_then (text_in forms.Compact) o ≡ None → ⊥
unwritten v absent type p o ss h none = let t = verified-text v absent type p o ss h in some_none _ t.0 t.1 none

timestamp_ok : (v : Verifies) (root : RootDoc) (d : SignedDoc TimestampDoc) → timestamp_first (timestamp_verdict v root d) d.role ≡ None → timestamp_verdict v root d ≡ Ok tt
timestamp_ok v root d h =
    let first = or_else_none (verified role.Timestamp (timestamp_verdict v root d)) (first_of (timestamp_form d.role ∷ [])) h in
    ok_of role.Timestamp (timestamp_verdict v root d) first.0

-- a timestamp that passed its first checks has a text
pub timestamp-unwritten : (v : Verifies) (root : RootDoc) (d : SignedDoc TimestampDoc) → timestamp_first (timestamp_verdict v root d) d.role ≡ None → option_and_then (text_in forms.Compact) (timestamp_json d.role) ≡ None → ⊥
timestamp-unwritten v root d h none = unwritten v _ _ _ (timestamp_json d.role) d.signatures (timestamp_ok v root d h) none

snapshot_ok : (v : Verifies) (root : RootDoc) (listed : ℕ) (d : SignedDoc SnapshotDoc) → snapshot_first listed (snapshot_verdict v root d) d.role ≡ None → snapshot_verdict v root d ≡ Ok tt
snapshot_ok v root listed d h =
    let rest = or_else_none (refuse (not (d.role.head.version == listed)) (VersionMismatch role.Snapshot d.role.head.version listed)) (first_of (verified role.Snapshot (snapshot_verdict v root d) ∷ snapshot_form d.role ∷ [])) h in
    let first = or_else_none (verified role.Snapshot (snapshot_verdict v root d)) (first_of (snapshot_form d.role ∷ [])) rest.1 in
    ok_of role.Snapshot (snapshot_verdict v root d) first.0

-- the same of a snapshot
pub snapshot-unwritten : (v : Verifies) (root : RootDoc) (listed : ℕ) (d : SignedDoc SnapshotDoc) → snapshot_first listed (snapshot_verdict v root d) d.role ≡ None → option_and_then (text_in forms.Compact) (snapshot_json d.role) ≡ None → ⊥
snapshot-unwritten v root listed d h none = unwritten v _ _ _ (snapshot_json d.role) d.signatures (snapshot_ok v root listed d h) none

pub timestamp-stored : (v : Verifies) (root : RootDoc) (d : SignedDoc TimestampDoc) → timestamp_verdict v root d ≡ Ok tt → AreSpelled d.signatures → timestamp_text d ≢ None
timestamp-stored v root d h spelled none = let t = verified-written v _ _ _ (timestamp_json d.role) d.signatures h spelled in some_none (timestamp_text d) t.0 t.1 none

pub snapshot-stored : (v : Verifies) (root : RootDoc) (d : SignedDoc SnapshotDoc) → snapshot_verdict v root d ≡ Ok tt → AreSpelled d.signatures → snapshot_text d ≢ None
snapshot-stored v root d h spelled none = let t = verified-written v _ _ _ (snapshot_json d.role) d.signatures h spelled in some_none (snapshot_text d) t.0 t.1 none
