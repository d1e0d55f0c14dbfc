use Rattle.std.proofs.Common.{◌≡◌}
use Rattle.tough_roles.specs.Timestamp.{metafiles_doc}
use Rattle.tough_roles.specs.Snapshot.{snapshot_doc}
use Rattle.tough_checks.specs.Checks.{fallen, items_in}
use Rattle.tough_checks.proofs.snapshot_checks.check_stored_roles.Given as goal

abbrev pub invariant-loop-name : goal.invariant-loop-name
invariant-loop-name l = fallen (items_in (metafiles_doc l.name-iterator)) (items_in (snapshot_doc l.new).meta) l.old_version (snapshot_doc l.new).head.version
    ≡ fallen (items_in (snapshot_doc l.old).meta) (items_in (snapshot_doc l.new).meta) l.old_version (snapshot_doc l.new).head.version
