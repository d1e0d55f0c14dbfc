-- The files of a signed repository, under the names that a client asks for (TUF specification 1.0, sections 3.1.2 and 6.2).
use Rattle.std.specs.Prelude.{ℕ, ℤ, List, ◌∷◌, map, codes}
use Rattle.std.specs.Map.{lookup}
use Rattle.std.specs.Str.{bytes_eq}
use Rattle.tough_roles.specs.Names.{versioned, file_name}
use Rattle.tough_roles.specs.Root.{RootDoc, root_doc}
use Rattle.tough_roles.specs.Signature.{SignedDoc, signed_doc}
use Rattle.tough_roles.specs.Snapshot.{SnapshotDoc, snapshot_doc}
use Rattle.tough_roles.specs.Timestamp.{TimestampDoc, timestamp_doc}
use Rattle.tough_schema.specs.Targets.{targets_doc}
use Rattle.tough_schema.specs.Whole.{TreeDoc, tree_doc}
use Rattle.tough_signed.specs.Roles.{signed_of, buffer_of}
use Rattle.tough_signed.specs.Standing.{roles_of, is_consistent}
use Rattle.tough_release.specs.Repository.{root_of, targets_of, snapshot_of, timestamp_of, delegated_of}
use Rattle.tough_release.specs.declared.repository.SignedRepository.{SignedRepository}
use Rattle.tough_update.specs.Loadable.{Files, all_received}
use Rattle.tough_update.specs.Stages.{KnownDoc, LoadedDoc, SettingDoc}
use Rattle.tough_round.specs.Roles.{FileDoc, role_file}

-- ---- the documents

abbrev pub root_in_it : SignedRepository → SignedDoc RootDoc
root_in_it r = signed_doc root_doc (signed_of (root_of r))

abbrev pub timestamp_in_it : SignedRepository → SignedDoc TimestampDoc
timestamp_in_it r = signed_doc timestamp_doc (signed_of (timestamp_of r))

abbrev pub snapshot_in_it : SignedRepository → SignedDoc SnapshotDoc
snapshot_in_it r = signed_doc snapshot_doc (signed_of (snapshot_of r))

-- the targets, with the documents of the roles below them
abbrev pub tree_in_it : SignedRepository → SignedDoc TreeDoc
tree_in_it r = signed_doc tree_doc (signed_of (targets_of r))

-- ---- their files

abbrev pub targets_version : SignedRepository → ℕ
targets_version r = (targets_doc (signed_of (targets_of r)).signed).head.version

-- A root's version stands before its file's name, a timestamp's doesn't, and the others' do with consistent snapshots.
abbrev pub written : SignedRepository → List FileDoc
written r = let consistent = is_consistent (delegated_of r) in
    (versioned (root_in_it r).role.head.version (codes "root.json"), buffer_of (root_of r))
    ∷ (file_name consistent (targets_version r) (codes "targets.json"), buffer_of (targets_of r))
    ∷ (file_name consistent (snapshot_in_it r).role.head.version (codes "snapshot.json"), buffer_of (snapshot_of r))
    ∷ (codes "timestamp.json", buffer_of (timestamp_of r))
    ∷ map (role_file consistent) (roles_of (delegated_of r))

abbrev pub files_of : SignedRepository → Files
files_of r name = lookup (bytes_eq name) (written r)

-- ---- what a load of these files that begins at this moment ends with

abbrev pub known_of : ℤ → SignedRepository → KnownDoc
known_of start r = record { start = start; root = root_in_it r; timestamp = timestamp_in_it r; snapshot = snapshot_in_it r }

abbrev pub loaded_of : SettingDoc → ℤ → SignedRepository → LoadedDoc
loaded_of s start r = record { known = known_of start r; targets = tree_in_it r; received = all_received (files_of r) s (known_of start r) (tree_in_it r).role }
