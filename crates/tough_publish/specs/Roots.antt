-- What an editor of a repository begins with (TUF specification 1.0, sections 4.3 to 4.6).
use Rattle.std.specs.Prelude.{◌≡◌, ◌⊎◌, ⊤, ℕ, List, codes, Option, Some, None, string_bytes}
use Rattle.tough_editor.specs.Editors.{EditorDoc}
use Rattle.tough_files.specs.Contents.{Node, file}
use Rattle.tough_json.specs.declared.error.ReadError.{ReadError}
use Rattle.tough_json.specs.declared.error.ReadError.TheVariants as reading
use Rattle.tough_parts.specs.declared.RepositoryParts.{RepositoryParts}
use Rattle.tough_roles.specs.Document.{IsNotSigned, RefusesText}
use Rattle.tough_roles.specs.Root.{RootDoc, root_at}
use Rattle.tough_roles.specs.Signature.{SignedDoc, signed_doc}
use Rattle.tough_roles.specs.Snapshot.{snapshot_doc}
use Rattle.tough_roles.specs.Timestamp.{timestamp_doc}
use Rattle.tough_roles.specs.declared.signed.Signed.{Signed}
use Rattle.tough_roles.specs.declared.snapshot.Snapshot.{Snapshot}
use Rattle.tough_roles.specs.declared.timestamp.Timestamp.{Timestamp}
use Rattle.tough_schema.specs.Targets.{targets_doc}
use Rattle.tough_schema.specs.Whole.{tree_doc}
use Rattle.tough_schema.specs.declared.targets.Targets.{Targets}
use Rattle.tough_signed.specs.declared.error.EditError.{EditError}
use Rattle.tough_signed.specs.declared.error.EditError.TheVariants as errors
use Rattle.tough_release.specs.Edits.{ReleaseDoc, begun, with_targets, with_snapshot_extra, with_timestamp_extra, IsOtherVersion}
use Rattle.tough_release.specs.Roots.{root_in, first_unstable, IsUnstable}
use Rattle.tough_publish.specs.Files.{IsUnread}

-- ---- the root of a file

-- an editor of new targets stands on a root whose roles list as many identifiers as their thresholds; nothing else is set
pub record IsBegun (e : ReleaseDoc) : Type 0 where
  pub read : root_in e.root_file ≡ Some e.root
  pub stable : first_unstable e.root.role.roles ≡ None
  pub begins : e ≡ begun e.root e.root_file

-- the file of the editor's root stands there
abbrev pub IsRootAt : Option Node → ReleaseDoc → Type 0
IsRootAt n e = n ≡ Some (file e.root_file)

-- the bytes are no signed root
abbrev pub IsNoRoot : ReadError → List ℕ → Type 0
IsNoRoot reading.Memory bytes = ⊥
IsNoRoot e bytes = RefusesText (IsNotSigned (λ d. root_at d ≡ None)) e bytes

-- what is there can't be read, or is no signed root; want of memory says nothing
abbrev pub IsUnrooted : List ℕ → Option Node → EditError → Type 0
IsUnrooted path n (errors.FileRead p source) = (string_bytes p ≡ path) × IsUnread n source
IsUnrooted path n (errors.FileParseJson p source) = (string_bytes p ≡ path) × (bytes : List ℕ) × (n ≡ Some (file bytes)) × IsNoRoot source bytes
IsUnrooted path n errors.Memory = ⊤
IsUnrooted path n _ = ⊥

-- it is the file of a signed root, one of whose roles lists fewer identifiers than its threshold
pub record IsUnstableAt (n : Option Node) (error : EditError) : Type 0 where
  pub bytes : List ℕ
  pub at : n ≡ Some (file bytes)
  pub root : SignedDoc RootDoc
  pub read : root_in bytes ≡ Some root
  pub unstable : IsUnstable root.role.roles error

-- why no editor stands on what is there
abbrev pub IsRootless : List ℕ → Option Node → EditError → Type 0
IsRootless path n error = IsUnrooted path n error ⊎ IsUnstableAt n error

-- ---- the parts of a loaded repository

-- the targets are taken over, and of the snapshot and the timestamp the extras
abbrev pub with_documents : Signed Targets → Snapshot → Timestamp → ReleaseDoc → ReleaseDoc
with_documents t s x e = with_timestamp_extra (timestamp_doc x).extra (with_snapshot_extra (snapshot_doc s).extra (with_targets (signed_doc tree_doc t) e))

abbrev pub targets_version : Signed Targets → List ℕ
targets_version t = (targets_doc t.signed).head.spec_version

-- a document has another version of the specification than `1.0.0`, and those before it haven't; or memory was wanting
abbrev pub IsOtherDocument : Signed Targets → Snapshot → Timestamp → EditError → Type 0
IsOtherDocument t s x error =
    (error ≡ errors.Memory)
    ⊎ (IsOtherVersion (targets_version t) error
    ⊎ ((targets_version t ≡ codes "1.0.0") × (IsOtherVersion (snapshot_doc s).head.spec_version error
    ⊎ (((snapshot_doc s).head.spec_version ≡ codes "1.0.0") × IsOtherVersion (timestamp_doc x).head.spec_version error))))

-- an editor stands on the root whose file is there, and takes not all of these documents over
pub record IsUntaken (n : Option Node) (t : Signed Targets) (s : Snapshot) (x : Timestamp) (error : EditError) : Type 0 where
  pub edits : ReleaseDoc
  pub begun : IsBegun edits
  pub rooted : IsRootAt n edits
  pub other : IsOtherDocument t s x error

module _ {T : Type 0} where
  -- the documents are taken over, with what fetches
  abbrev pub with_parts : RepositoryParts T → ReleaseDoc → EditorDoc ReleaseDoc T
  with_parts p e = record { edits = with_documents p.targets p.snapshot.signed p.timestamp.signed e; limits = Some p.limits; transport = Some p.transport }

  -- no editor stands on what is there; or one does, and takes not all of these documents over
  abbrev pub IsPartless : List ℕ → Option Node → RepositoryParts T → EditError → Type 0
  IsPartless path n p error = IsRootless path n error ⊎ IsUntaken n p.targets p.snapshot.signed p.timestamp.signed error
