-- What signing a repository makes (TUF specification 1.0, sections 4.2 to 4.6).
use Rattle.std.specs.Prelude.{◌≡◌, ⊤, ℕ, List, Option, Some, None, ◌⊎◌, codes}
use Rattle.serde_json.specs.Data.{Data}
use Rattle.tough_keys.specs.Key.{KeyDoc}
use Rattle.tough_roles.specs.RoleId.{standard}
use Rattle.tough_roles.specs.Root.{root_doc}
use Rattle.tough_roles.specs.Signature.{SignedDoc, signed_doc}
use Rattle.tough_roles.specs.Snapshot.{snapshot_doc, snapshot_at, snapshot_json}
use Rattle.tough_roles.specs.Timestamp.{timestamp_doc, timestamp_at, timestamp_json}
use Rattle.tough_roles.specs.declared.role_type.RoleType.TheVariants as types
use Rattle.tough_roles.specs.declared.snapshot.Snapshot.{Snapshot}
use Rattle.tough_roles.specs.declared.timestamp.Timestamp.{Timestamp}
use Rattle.tough_schema.specs.Entries.{IsValid, IsInvalid}
use Rattle.tough_schema.specs.Whole.{TreeDoc}
use Rattle.tough_schema.specs.declared.targets.DelegatedTargets.{DelegatedTargets}
use Rattle.tough_schema.specs.declared.targets.Targets.{Targets}
use Rattle.tough_signed.specs.Holders.{HolderDoc, by_root}
use Rattle.tough_signed.specs.Roles.{signed_of, buffer_of}
use Rattle.tough_signed.specs.Signing.{IsSignedFor, IsRoleRefused}
use Rattle.tough_signed.specs.Standing.{roles_of, is_consistent}
use Rattle.tough_signed.specs.declared.error.EditError.{EditError}
use Rattle.tough_signed.specs.declared.error.EditError.TheVariants as errors
use Rattle.tough_signed.specs.declared.signed_role.SignedRole.{SignedRole}
use Rattle.tough_release.specs.Closing.{IsNoMemory, IsClosed, IsUnclosed}
use Rattle.tough_release.specs.Documents.{Metas, IsSnapshot, IsTimestamp, IsHeadless, snapshot_metas, timestamp_metas}
use Rattle.tough_release.specs.Edits.{HeadingDoc, ReleaseDoc}
use Rattle.tough_release.specs.Files.{IsFile, AreFiled, IsUnfiledTree}
use Rattle.tough_release.specs.Repository.{root_of, targets_of, snapshot_of, timestamp_of, delegated_of}
use Rattle.tough_release.specs.Roots.{root_in}
use Rattle.tough_release.specs.declared.repository.SignedRepository.{SignedRepository}

-- the JSON of a snapshot and of a timestamp
abbrev pub json_of_snapshot : Snapshot → Option Data
json_of_snapshot x = snapshot_json (snapshot_doc x)

abbrev pub json_of_timestamp : Timestamp → Option Data
json_of_timestamp x = timestamp_json (timestamp_doc x)

abbrev pub IsSnapshotFile : SignedRole Snapshot → Type 0
IsSnapshotFile r = IsFile json_of_snapshot (λ d x. snapshot_at d ≡ Some (snapshot_doc x)) (λ x. ⊤) r

abbrev pub IsTimestampFile : SignedRole Timestamp → Type 0
IsTimestampFile r = IsFile json_of_timestamp (λ d x. timestamp_at d ≡ Some (timestamp_doc x)) (λ x. ⊤) r

-- a listed name isn't found; or memory was wanting
abbrev pub IsPathless : TreeDoc → EditError → Type 0
IsPathless t (errors.InvalidPath source) = IsNoMemory source × IsInvalid t source
IsPathless t errors.Memory = ⊤
IsPathless t _ = ⊥

module _ {S : Type 0} (key_of : S → KeyDoc) where
  -- The snapshot with exactly these entries, signed for the holder of its keys, with its file.
  pub record IsSnapshotBy (signs : S → List ℕ → List ℕ → Type 0) (holder : HolderDoc) (signers : List S) (heading : HeadingDoc) (metas : Metas) (r : SignedRole Snapshot) : Type 0 where
    pub document : IsSnapshot heading metas (snapshot_doc (signed_of r).signed)
    pub signed : IsSignedFor json_of_snapshot types.Snapshot key_of signs holder (standard types.Snapshot) signers (signed_of r)
    pub file : IsSnapshotFile r

  -- The same of a timestamp.
  pub record IsTimestampBy (signs : S → List ℕ → List ℕ → Type 0) (holder : HolderDoc) (signers : List S) (heading : HeadingDoc) (metas : Metas) (r : SignedRole Timestamp) : Type 0 where
    pub document : IsTimestamp heading metas (timestamp_doc (signed_of r).signed)
    pub signed : IsSignedFor json_of_timestamp types.Timestamp key_of signs holder (standard types.Timestamp) signers (signed_of r)
    pub file : IsTimestampFile r

  -- The repository, where no editor is open: the root with its file as it is; the targets, and each document below them by itself, in preorder, with
  -- their files; the snapshot that lists exactly these; the timestamp that lists exactly the snapshot. Each listed name is found.
  pub record IsMade (signs : S → List ℕ → List ℕ → Type 0) (signers : List S) (e : ReleaseDoc) (r : SignedRepository) : Type 0 where
    pub root : signed_doc root_doc (signed_of (root_of r)) ≡ e.root
    pub root_file : buffer_of (root_of r) ≡ e.root_file
    pub rooted : root_in (buffer_of (root_of r)) ≡ Some (signed_doc root_doc (signed_of (root_of r)))
    pub targets : SignedDoc TreeDoc
    pub there : e.targets ≡ Some targets
    pub files : AreFiled targets (targets_of r) (roles_of (delegated_of r))
    pub consistent : is_consistent (delegated_of r) ≡ e.root.role.consistent_snapshot
    pub snapshot : IsSnapshotBy signs (by_root e.root.role) signers e.snapshot (snapshot_metas (targets_of r) (roles_of (delegated_of r))) (snapshot_of r)
    pub timestamp : IsTimestampBy signs (by_root e.root.role) signers e.timestamp (timestamp_metas (snapshot_of r)) (timestamp_of r)
    pub valid : IsValid targets.role

  -- The open editor, if any, is signed and closed, and the repository is made then.
  pub record IsReleased (signs : S → List ℕ → List ℕ → Type 0) (signers : List S) (e : ReleaseDoc) (r : SignedRepository) : Type 0 where
    pub closed : ReleaseDoc
    pub closes : IsClosed key_of signs signers e closed
    pub made : IsMade signs signers closed r

  -- ---- the refusals

  -- The snapshot isn't built, or isn't signed for the holder, or has no text.
  abbrev pub IsSnapshotRefused : (S → List ℕ → List ℕ → Type 0) → (S → List ℕ → Type 0) → HolderDoc → List S → HeadingDoc → Metas → EditError → Type 0
  IsSnapshotRefused signs fails holder signers heading metas error =
      IsHeadless (codes "snapshot version") (codes "snapshot expiration") heading error
      ⊎ ((x : Snapshot) × IsSnapshot heading metas (snapshot_doc x) × IsRoleRefused json_of_snapshot types.Snapshot key_of signs fails holder (standard types.Snapshot) signers x error)

  -- The same of the timestamp.
  abbrev pub IsTimestampRefused : (S → List ℕ → List ℕ → Type 0) → (S → List ℕ → Type 0) → HolderDoc → List S → HeadingDoc → Metas → EditError → Type 0
  IsTimestampRefused signs fails holder signers heading metas error =
      IsHeadless (codes "timestamp version") (codes "timestamp expiration") heading error
      ⊎ ((x : Timestamp) × IsTimestamp heading metas (timestamp_doc x) × IsRoleRefused json_of_timestamp types.Timestamp key_of signs fails holder (standard types.Timestamp) signers x error)

  -- The snapshot is refused, or it isn't and its timestamp is; or memory was wanting.
  abbrev pub AreRefused : (S → List ℕ → List ℕ → Type 0) → (S → List ℕ → Type 0) → HolderDoc → List S → HeadingDoc → HeadingDoc → Metas → EditError → Type 0
  AreRefused signs fails holder signers first second metas error =
      (error ≡ errors.Memory)
      ⊎ (IsSnapshotRefused signs fails holder signers first metas error
      ⊎ ((r : SignedRole Snapshot) × IsSnapshotBy signs holder signers first metas r × IsTimestampRefused signs fails holder signers second (timestamp_metas r) error))

  -- Both are signed, and a listed name isn't found.
  abbrev pub IsUnfound : (S → List ℕ → List ℕ → Type 0) → HolderDoc → List S → HeadingDoc → HeadingDoc → Metas → TreeDoc → EditError → Type 0
  IsUnfound signs holder signers first second metas t error =
      (r : SignedRole Snapshot) × (x : SignedRole Timestamp) × IsSnapshotBy signs holder signers first metas r × IsTimestampBy signs holder signers second (timestamp_metas r) x × IsPathless t error

  -- A document has no text; or each has one, and what comes after that is refused.
  abbrev pub IsTreeRefused : (S → List ℕ → List ℕ → Type 0) → (S → List ℕ → Type 0) → HolderDoc → List S → HeadingDoc → HeadingDoc → SignedDoc TreeDoc → EditError → Type 0
  IsTreeRefused signs fails holder signers first second s error =
      IsUnfiledTree s error
      ⊎ ((t : SignedRole Targets) × (ds : List (SignedRole DelegatedTargets)) × AreFiled s t ds
      × (AreRefused signs fails holder signers first second (snapshot_metas t ds) error ⊎ IsUnfound signs holder signers first second (snapshot_metas t ds) s.role error))

  -- There are no targets, or their tree is refused.
  abbrev pub IsUnmade : (S → List ℕ → List ℕ → Type 0) → (S → List ℕ → Type 0) → List S → ReleaseDoc → EditError → Type 0
  IsUnmade signs fails signers e error =
      ((error ≡ errors.NoTargets) × (e.targets ≡ None))
      ⊎ ((s : SignedDoc TreeDoc) × (e.targets ≡ Some s) × IsTreeRefused signs fails (by_root e.root.role) signers e.snapshot e.timestamp s error)

  -- The open editor isn't signed and closed; or it is, and the repository isn't made.
  abbrev pub IsReleaseRefused : (S → List ℕ → List ℕ → Type 0) → (S → List ℕ → Type 0) → List S → ReleaseDoc → EditError → Type 0
  IsReleaseRefused signs fails signers e error =
      IsUnclosed key_of signs fails signers e error ⊎ ((closed : ReleaseDoc) × IsClosed key_of signs signers e closed × IsUnmade signs fails signers closed error)
