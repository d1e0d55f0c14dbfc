use Rattle.std.proofs.Common.{◌≡◌, take}
use Rattle.tough_checks.specs.Versions.{items_of}
use Rattle.tough_checks.proofs.versions.SnapshotVersions.copy.Given as goal

abbrev pub invariant-loop-role : goal.invariant-loop-role
invariant-loop-role l = items_of l.roles.items ≡ items_of (take l.role-index l.self.roles.items)
