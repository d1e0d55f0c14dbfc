-- Documents that are signed, with their files.
use Rattle.std.proofs.Common.{◌≡◌, ℕ, List, Some, Result, Ok, Err, IfOk, IfErr, ◌⊎◌, inr, ap, ap₂, sym, subst, ◌∙◌}
use Rattle.serde_json.specs.Read.{max_depth}
use Rattle.tough_keys.specs.Key.{KeyDoc}
use Rattle.tough_roles.specs.Document.{document_json}
use Rattle.tough_roles.specs.Readable.{NestsWithin, IsTextOf}
use Rattle.tough_roles.specs.RoleId.{standard}
use Rattle.tough_roles.specs.Snapshot.{snapshot_doc, snapshot_at}
use Rattle.tough_roles.specs.Timestamp.{timestamp_doc, timestamp_at}
use Rattle.tough_roles.specs.declared.role_type.RoleType.TheVariants as types
use Rattle.tough_roles.specs.declared.signed.Signed.{Signed}
use Rattle.tough_roles.specs.declared.snapshot.Snapshot.{Snapshot}
use Rattle.tough_roles.specs.declared.timestamp.Timestamp.{Timestamp}
use Rattle.tough_schema.specs.Targets.{targets_doc, targets_at, KeysAreOwn}
use Rattle.tough_schema.specs.declared.targets.Targets.{Targets}
use Rattle.tough_signed.specs.Holders.{HolderDoc, by_root}
use Rattle.tough_signed.specs.Roles.{signed_of, buffer_of, IsWritten}
use Rattle.tough_signed.specs.Signing.{IsSignedFor, IsRoleRefused}
use Rattle.tough_signed.specs.declared.error.EditError.{EditError}
use Rattle.tough_signed.specs.declared.signed_role.SignedRole.{SignedRole}
use Rattle.tough_release.specs.Documents.{Metas, IsSnapshot, IsTimestamp, snapshot_metas, timestamp_metas}
use Rattle.tough_release.specs.Edits.{HeadingDoc, ReleaseDoc}
use Rattle.tough_roles.specs.Root.{RootDoc, root_doc}
use Rattle.tough_roles.specs.Signature.{SignedDoc, signed_doc}
use Rattle.tough_roles.specs.declared.root.Root.{Root}
use Rattle.tough_schema.specs.Entries.{IsValid}
use Rattle.tough_schema.specs.Whole.{TreeDoc}
use Rattle.tough_schema.specs.declared.targets.DelegatedTargets.{DelegatedTargets}
use Rattle.tough_signed.specs.Standing.{roles_of, is_consistent}
use Rattle.tough_release.specs.Closing.{IsClosed}
use Rattle.tough_release.specs.Repository.{root_of, targets_of, snapshot_of, timestamp_of, delegated_of}
use Rattle.tough_release.specs.Roots.{root_in}
use Rattle.tough_release.specs.declared.repository.SignedRepository.{SignedRepository}
use Rattle.tough_release.specs.Files.{IsTargetsFile, json_of_targets, AreFiled}
use Rattle.tough_release.specs.Release.{json_of_snapshot, json_of_timestamp, IsSnapshotBy, IsTimestampBy, IsSnapshotRefused, IsTimestampRefused, IsMade, IsUnmade, IsReleased, IsReleaseRefused}

-- the targets' file, of what their signed document is
pub targets_file : (d : Signed Targets) (r : SignedRole Targets) → signed_of r ≡ d → IsWritten json_of_targets r
    → (KeysAreOwn (targets_doc d.signed).delegations → NestsWithin max_depth (document_json json_of_targets d) → IsTextOf (λ j x. targets_at j ≡ Some (targets_doc x)) d (buffer_of r)) → IsTargetsFile r
targets_file d r e w b = record {
  written = w;
  back = subst (λ x. KeysAreOwn (targets_doc x.signed).delegations → NestsWithin max_depth (document_json json_of_targets x) → IsTextOf (λ j y. targets_at j ≡ Some (targets_doc y)) x (buffer_of r)) (sym e) b;
}

module _ {S : Type 0} (key_of : S → KeyDoc) (signs : S → List ℕ → List ℕ → Type 0) (fails : S → List ℕ → Type 0) (holder : HolderDoc) (signers : List S) (heading : HeadingDoc) (shown metas : Metas) where
  pub snapshot_by : (x : Snapshot) (r : Result (SignedRole Snapshot) EditError) → shown ≡ metas → IsSnapshot heading shown (snapshot_doc x) → IfOk r (λ s. (signed_of s).signed ≡ x)
      → IfOk r (λ s. IsSignedFor json_of_snapshot types.Snapshot key_of signs holder (standard types.Snapshot) signers (signed_of s)) → IfOk r (IsWritten json_of_snapshot)
      → IfOk r (λ s. NestsWithin max_depth (document_json json_of_snapshot (signed_of s)) → IsTextOf (λ d y. snapshot_at d ≡ Some (snapshot_doc y)) (signed_of s) (buffer_of s))
      → IfOk r (IsSnapshotBy key_of signs holder signers heading metas)
  snapshot_by x (Ok s) same built e signed written back = record {
    document = subst (λ m. IsSnapshot heading m (snapshot_doc (signed_of s).signed)) same (subst (λ y. IsSnapshot heading shown (snapshot_doc y)) (sym e) built);
    signed = signed;
    file = record { written = written; back = λ kept. back };
  }
  snapshot_by x (Err error) same built e signed written back = back

  pub snapshot_refused : (x : Snapshot) (r : Result (SignedRole Snapshot) EditError) → shown ≡ metas → IsSnapshot heading shown (snapshot_doc x)
      → IfErr r (IsRoleRefused json_of_snapshot types.Snapshot key_of signs fails holder (standard types.Snapshot) signers x)
      → IfErr r (IsSnapshotRefused key_of signs fails holder signers heading metas)
  snapshot_refused x (Ok s) same built h = h
  snapshot_refused x (Err error) same built h = inr (x, subst (λ m. IsSnapshot heading m (snapshot_doc x)) same built, h)

  pub timestamp_by : (x : Timestamp) (r : Result (SignedRole Timestamp) EditError) → shown ≡ metas → IsTimestamp heading shown (timestamp_doc x) → IfOk r (λ s. (signed_of s).signed ≡ x)
      → IfOk r (λ s. IsSignedFor json_of_timestamp types.Timestamp key_of signs holder (standard types.Timestamp) signers (signed_of s)) → IfOk r (IsWritten json_of_timestamp)
      → IfOk r (λ s. NestsWithin max_depth (document_json json_of_timestamp (signed_of s)) → IsTextOf (λ d y. timestamp_at d ≡ Some (timestamp_doc y)) (signed_of s) (buffer_of s))
      → IfOk r (IsTimestampBy key_of signs holder signers heading metas)
  timestamp_by x (Ok s) same built e signed written back = record {
    document = subst (λ m. IsTimestamp heading m (timestamp_doc (signed_of s).signed)) same (subst (λ y. IsTimestamp heading shown (timestamp_doc y)) (sym e) built);
    signed = signed;
    file = record { written = written; back = λ kept. back };
  }
  timestamp_by x (Err error) same built e signed written back = back

  pub timestamp_refused : (x : Timestamp) (r : Result (SignedRole Timestamp) EditError) → shown ≡ metas → IsTimestamp heading shown (timestamp_doc x)
      → IfErr r (IsRoleRefused json_of_timestamp types.Timestamp key_of signs fails holder (standard types.Timestamp) signers x)
      → IfErr r (IsTimestampRefused key_of signs fails holder signers heading metas)
  timestamp_refused x (Ok s) same built h = h
  timestamp_refused x (Err error) same built h = inr (x, subst (λ m. IsTimestamp heading m (timestamp_doc x)) same built, h)

-- ---- the repository

module _ {S : Type 0} (key_of : S → KeyDoc) (signs : S → List ℕ → List ℕ → Type 0) (signers : List S) where
  pub is_made : (e : ReleaseDoc) (root : SignedRole Root) (shown : RootDoc) (s : SignedDoc TreeDoc) (t : SignedRole Targets) (ds : List (SignedRole DelegatedTargets)) (first : SignedRole Snapshot) (second : SignedRole Timestamp) (r : SignedRepository)
      → signed_doc root_doc (signed_of root) ≡ e.root → buffer_of root ≡ e.root_file → root_in (buffer_of root) ≡ Some (signed_doc root_doc (signed_of root)) → shown ≡ e.root.role → e.targets ≡ Some s → AreFiled s t ds
      → IsSnapshotBy key_of signs (by_root shown) signers e.snapshot (snapshot_metas t ds) first → IsTimestampBy key_of signs (by_root shown) signers e.timestamp (timestamp_metas first) second → IsValid s.role → root_of r ≡ root → targets_of r ≡ t
      → roles_of (delegated_of r) ≡ ds → is_consistent (delegated_of r) ≡ shown.consistent_snapshot → snapshot_of r ≡ first → timestamp_of r ≡ second → IsMade key_of signs signers e r
  is_made e root shown s t ds first second r is file read same there filed one two valid p_root p_t p_ds p_same p_one p_two = record {
    root = ap (λ (x : SignedRole Root). signed_doc root_doc (signed_of x)) p_root ∙ is;
    root_file = ap (λ (x : SignedRole Root). buffer_of x) p_root ∙ file;
    rooted = subst (λ (x : SignedRole Root). root_in (buffer_of x) ≡ Some (signed_doc root_doc (signed_of x))) (sym p_root) read;
    targets = s;
    there = there;
    files = subst (λ (l : List (SignedRole DelegatedTargets)). AreFiled s (targets_of r) l) (sym p_ds) (subst (λ (x : SignedRole Targets). AreFiled s x ds) (sym p_t) filed);
    consistent = p_same ∙ ap (λ (d : RootDoc). d.consistent_snapshot) same;
    snapshot = subst (λ (x : SignedRole Snapshot). IsSnapshotBy key_of signs (by_root e.root.role) signers e.snapshot (snapshot_metas (targets_of r) (roles_of (delegated_of r))) x) (sym p_one)
        (subst (λ (m : Metas). IsSnapshotBy key_of signs (by_root e.root.role) signers e.snapshot m first) (ap₂ (λ (x : SignedRole Targets) (l : List (SignedRole DelegatedTargets)). snapshot_metas x l) (sym p_t) (sym p_ds))
        (subst (λ (d : RootDoc). IsSnapshotBy key_of signs (by_root d) signers e.snapshot (snapshot_metas t ds) first) same one));
    timestamp = subst (λ (x : SignedRole Timestamp). IsTimestampBy key_of signs (by_root e.root.role) signers e.timestamp (timestamp_metas (snapshot_of r)) x) (sym p_two)
        (subst (λ (x : SignedRole Snapshot). IsTimestampBy key_of signs (by_root e.root.role) signers e.timestamp (timestamp_metas x) second) (sym p_one)
        (subst (λ (d : RootDoc). IsTimestampBy key_of signs (by_root d) signers e.timestamp (timestamp_metas first) second) same two));
    valid = valid;
  }

  pub released : (e closed : ReleaseDoc) (r : Result SignedRepository EditError) → IsClosed key_of signs signers e closed → IfOk r (IsMade key_of signs signers closed) → IfOk r (IsReleased key_of signs signers e)
  released e closed (Ok x) closes made = record { closed = closed; closes = closes; made = made }
  released e closed (Err error) closes made = made

  pub unreleased : (fails : S → List ℕ → Type 0) (e closed : ReleaseDoc) (r : Result SignedRepository EditError) → IsClosed key_of signs signers e closed → IfErr r (IsUnmade key_of signs fails signers closed) → IfErr r (IsReleaseRefused key_of signs fails signers e)
  unreleased fails e closed (Ok x) closes h = h
  unreleased fails e closed (Err error) closes h = inr (closed, closes, h)
