-- What is read of a store is the stored document.
use Rattle.std.specs.Prelude.{◌≡◌, ℕ, List, Option, Some, None, Result, Ok, Err, IfOk, option_map, option_and_then}
use Rattle.std.proofs.Common.{refl, ap, ◌∙◌}
use Rattle.serde_json.specs.Data.{Data}
use Rattle.tough_json.specs.CanonicalText.{canonical_of}
use Rattle.tough_json.specs.Reading.{◌>>=◌}
use Rattle.tough_json.specs.Results.{json_of}
use Rattle.tough_json.specs.declared.error.ReadError.{ReadError}
use Rattle.tough_json.specs.declared.error.ReadError.TheVariants as errors
use Rattle.tough_keys.specs.Same.{Verifies}
use Rattle.tough_roles.specs.Document.{IsSigned, IsNotSigned, ReadsText}
use Rattle.tough_roles.specs.Policy.{policy}
use Rattle.tough_roles.specs.Root.{RootDoc, root_doc, root_at}
use Rattle.tough_roles.specs.Signature.{SignedDoc, signed_at, signed_doc}
use Rattle.tough_roles.specs.Snapshot.{snapshot_doc}
use Rattle.tough_roles.specs.Timestamp.{timestamp_doc}
use Rattle.tough_roles.specs.Verdict.{Refused, MissingRole, verdict}
use Rattle.tough_roles.specs.declared.role_type.RoleType.{RoleType}
use Rattle.tough_roles.specs.declared.root.Root.{Root}
use Rattle.tough_roles.specs.declared.signed.Signed.{Signed}
use Rattle.tough_roles.specs.declared.snapshot.Snapshot.{Snapshot}
use Rattle.tough_roles.specs.declared.timestamp.Timestamp.{Timestamp}
use Rattle.tough_roles.proofs.lemmas.Signed.{signed-read, signed-refused}
use Rattle.tough_checks.specs.Checks.{timestamp_where, snapshot_where}
use Rattle.tough_checks.specs.Documents.{root_verdict}
use Rattle.tough_checks.specs.StoredDocuments.{IsAccepted, IsAcceptedRoot, root_where, if_verified}

verified-map : {A B : Type 0} (f : A → B) (r : Result Unit Refused) (a : A) → option_map f (if_verified r a) ≡ if_verified r (f a)
verified-map f (Ok u) a = refl
verified-map f (Err e) a = refl

timestamp-map : (o : Option Timestamp) → timestamp_where o ≡ option_map timestamp_doc o
timestamp-map None = refl
timestamp-map (Some t) = refl

snapshot-map : (o : Option Snapshot) → snapshot_where o ≡ option_map snapshot_doc o
snapshot-map None = refl
snapshot-map (Some t) = refl

-- what holds of each
pub each : {A E : Type 0} (P Q : A → Type 0) (r : Result A E) → IfOk r P → ((a : A) → P a → Q a) → IfOk r Q
each P Q (Ok a) h law = law a h
each P Q (Err e) h law = tt

module _ {T A : Type 0} (verifies : Verifies) (root : RootDoc) (type : RoleType) (f : Data → Option A) (doc : T → A) (json : A → Option Data) where
  -- what the root's verification answers
  abbrev verdict_on : SignedDoc A → Result Unit Refused
  verdict_on d = verdict verifies (MissingRole type) type (policy root type) (option_and_then canonical_of (json d.role)) d.signatures

  -- the document that was read is that of the bytes, where the root verifies it
  pub accepted-stored : (bytes : List ℕ) (read : Result (Signed T) ReadError) (old : Option T)
      → ReadsText (IsSigned (λ e x. f e ≡ Some (doc x))) (IsNotSigned (λ e. f e ≡ None)) read bytes
      → IsAccepted verifies root type (λ x. json (doc x)) read old
      → option_map doc old ≡ (option_and_then (signed_at f) (json_of bytes) >>= λ d. if_verified (verdict_on d) d.role)
  accepted-stored bytes (Ok s) old (d, is, h) accepted = rw (is, signed-read f doc d s h) (ap (option_map doc) accepted ∙ verified-map doc (verdict_on (signed_doc doc s)) s.signed)
  accepted-stored bytes (Err (errors.Json place)) old none accepted = rw none (ap (option_map doc) accepted)
  accepted-stored bytes (Err (errors.Shape told)) old (d, is, apart) accepted = rw (is, signed-refused f d apart) (ap (option_map doc) accepted)
  accepted-stored bytes (Err errors.Memory) old h accepted = absurd accepted

pub timestamp-stored : (o : Option Timestamp) (x : Option _) → option_map timestamp_doc o ≡ x → timestamp_where o ≡ x
timestamp-stored o x h = timestamp-map o ∙ h

pub snapshot-stored : (o : Option Snapshot) (x : Option _) → option_map snapshot_doc o ≡ x → snapshot_where o ≡ x
snapshot-stored o x h = snapshot-map o ∙ h

-- ---- roots

root-map : (o : Option (Signed Root)) → root_where o ≡ option_map (signed_doc root_doc) o
root-map None = refl
root-map (Some r) = refl

-- the root that was read is that of the bytes, where it verifies itself
root-accepted : (verifies : Verifies) (bytes : List ℕ) (read : Result (Signed Root) ReadError) (old : Option (Signed Root))
    → ReadsText (IsSigned (λ e x. root_at e ≡ Some (root_doc x))) (IsNotSigned (λ e. root_at e ≡ None)) read bytes
    → IsAcceptedRoot verifies read old
    → option_map (signed_doc root_doc) old ≡ (option_and_then (signed_at root_at) (json_of bytes) >>= λ d. if_verified (root_verdict verifies d.role d) d)
root-accepted verifies bytes (Ok s) old (d, is, h) accepted =
    rw (is, signed-read root_at root_doc d s h) (ap (option_map (signed_doc root_doc)) accepted ∙ verified-map (signed_doc root_doc) (root_verdict verifies (root_doc s.signed) (signed_doc root_doc s)) s)
root-accepted verifies bytes (Err (errors.Json place)) old none accepted = rw none (ap (option_map (signed_doc root_doc)) accepted)
root-accepted verifies bytes (Err (errors.Shape told)) old (d, is, apart) accepted = rw (is, signed-refused root_at d apart) (ap (option_map (signed_doc root_doc)) accepted)
root-accepted verifies bytes (Err errors.Memory) old h accepted = absurd accepted

pub root-stored : (verifies : Verifies) (bytes : List ℕ) (read : Result (Signed Root) ReadError) (old : Option (Signed Root))
    → ReadsText (IsSigned (λ e x. root_at e ≡ Some (root_doc x))) (IsNotSigned (λ e. root_at e ≡ None)) read bytes
    → IsAcceptedRoot verifies read old
    → root_where old ≡ (option_and_then (signed_at root_at) (json_of bytes) >>= λ d. if_verified (root_verdict verifies d.role d) d)
root-stored verifies bytes read old h accepted = root-map old ∙ root-accepted verifies bytes read old h accepted
