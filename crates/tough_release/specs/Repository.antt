-- A signed repository (TUF specification 1.0, section 4.1).
use Rattle.tough_roles.specs.declared.root.Root.{Root}
use Rattle.tough_roles.specs.declared.snapshot.Snapshot.{Snapshot}
use Rattle.tough_roles.specs.declared.timestamp.Timestamp.{Timestamp}
use Rattle.tough_schema.specs.declared.targets.Targets.{Targets}
use Rattle.tough_signed.specs.declared.signed_role.SignedRole.{SignedRole}
use Rattle.tough_signed.specs.declared.signed_roles.SignedDelegatedTargets.{SignedDelegatedTargets}
use Rattle.tough_release.specs.declared.repository.SignedRepository.{SignedRepository}

abbrev pub root_of : SignedRepository → SignedRole Root
root_of r = r.root

abbrev pub targets_of : SignedRepository → SignedRole Targets
targets_of r = r.targets

abbrev pub snapshot_of : SignedRepository → SignedRole Snapshot
snapshot_of r = r.snapshot

abbrev pub timestamp_of : SignedRepository → SignedRole Timestamp
timestamp_of r = r.timestamp

-- the documents of the delegated roles, in preorder
abbrev pub delegated_of : SignedRepository → SignedDelegatedTargets
delegated_of r = r.delegated
