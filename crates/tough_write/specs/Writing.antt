-- The calls by which the files of signed roles are written into a folder (TUF specification 1.0, section 6: a repository's metadata is a set of files).
use Rattle.std.specs.Prelude.{ℕ, Bool, List, ◌∷◌, codes, map, string_bytes}
use Rattle.std.specs.Path.{path_join}
use Rattle.tough_files.specs.Calls.{create_at, append_to}
use Rattle.tough_roles.specs.Names.{file_name, versioned}
use Rattle.tough_roles.specs.Root.{root_doc}
use Rattle.tough_roles.specs.Snapshot.{snapshot_doc}
use Rattle.tough_roles.specs.declared.root.Root.{Root}
use Rattle.tough_roles.specs.declared.snapshot.Snapshot.{Snapshot}
use Rattle.tough_roles.specs.declared.timestamp.Timestamp.{Timestamp}
use Rattle.tough_save.specs.Scripts.{Script}
use Rattle.tough_release.specs.Repository.{root_of, targets_of, snapshot_of, timestamp_of, delegated_of}
use Rattle.tough_release.specs.declared.repository.SignedRepository.{SignedRepository}
use Rattle.tough_schema.specs.Targets.{delegated_doc, delegated_file, delegated_name, targets_doc}
use Rattle.tough_schema.specs.declared.targets.DelegatedTargets.{DelegatedTargets}
use Rattle.tough_schema.specs.declared.targets.Targets.{Targets}
use Rattle.tough_signed.specs.declared.signed_role.SignedRole.{SignedRole}
use Rattle.tough_signed.specs.Roles.{signed_of, buffer_of}
use Rattle.tough_signed.specs.Standing.{roles_of}
use Rattle.tough_write.specs.declared.error.OutputError.TheVariants as error
use Rattle.tough_write.specs.declared.write.NamedFile.{NamedFile}
use Rattle.tough_write.specs.Steps.{Done, Does, EachOf, IfMemory, MakesFolders, Resolves, Then}

-- a file to be written: its name, and its bytes
abbrev pub FileDoc : Type 0
FileDoc = List ℕ × List ℕ

abbrev pub file_doc : NamedFile → FileDoc
file_doc f = (string_bytes f.name, f.bytes.now)

-- an empty file is made, and then the bytes are appended to it
abbrev pub Writes : List ℕ → List ℕ → Done → Script
Writes path bytes = Then (Does (create_at path) error.FileWrite path) (λ u. Does (append_to path bytes) error.FileWrite path)

-- The folder is made, and its path is looked up; the file is written there.
abbrev pub WritesRole : List ℕ → FileDoc → Done → Script
WritesRole outdir file = Then (MakesFolders outdir) (λ u. Then (Resolves outdir) (λ dir. IfMemory (Writes (path_join (string_bytes dir) file.0) file.1)))

-- the files in their order
abbrev pub WritesAll : List ℕ → List FileDoc → Done → Script
WritesAll outdir files = EachOf (WritesRole outdir) files

-- the file of a signed role: its name, by whether snapshots are consistent, and its bytes
abbrev pub role_file : {T : Type 0} → (T → Bool → List ℕ) → Bool → SignedRole T → FileDoc
role_file file consistent r = (file (signed_of r).signed consistent, buffer_of r)

-- the files of signed roles
abbrev pub role_files : {T : Type 0} → (T → Bool → List ℕ) → Bool → List (SignedRole T) → List FileDoc
role_files file consistent rs = map (role_file file consistent) rs

-- the name of the file of a delegated role's document: escaped, and after the version where snapshots are consistent
abbrev pub roles_file : DelegatedTargets → Bool → List ℕ
roles_file d consistent = file_name consistent (delegated_doc d).head.version (delegated_file (delegated_name d))

-- the names of the files of the other roles (TUF specification 1.0, section 6.2): a root's always has its version, a timestamp's never
abbrev pub root_file : Root → Bool → List ℕ
root_file x consistent = versioned (root_doc x).head.version (codes "root.json")

abbrev pub targets_file : Targets → Bool → List ℕ
targets_file x consistent = file_name consistent (targets_doc x).head.version (codes "targets.json")

abbrev pub snapshot_file : Snapshot → Bool → List ℕ
snapshot_file x consistent = file_name consistent (snapshot_doc x).head.version (codes "snapshot.json")

abbrev pub timestamp_file : Timestamp → Bool → List ℕ
timestamp_file x consistent = codes "timestamp.json"

-- the files of a signed repository, in the order in which they are written
abbrev pub repository_files : Bool → SignedRepository → List FileDoc
repository_files consistent r = role_file root_file consistent (root_of r) ∷ role_file targets_file consistent (targets_of r)
    ∷ role_file snapshot_file consistent (snapshot_of r) ∷ role_file timestamp_file consistent (timestamp_of r)
    ∷ role_files roles_file consistent (roles_of (delegated_of r))
