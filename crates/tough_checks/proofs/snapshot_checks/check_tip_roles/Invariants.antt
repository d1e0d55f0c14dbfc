use Rattle.std.proofs.Common.{◌≡◌, drop}
use Rattle.tough_roles.specs.Snapshot.{snapshot_doc}
use Rattle.tough_checks.specs.Versions.{items_of}
use Rattle.tough_checks.specs.Checks.{fallen, items_in}
use Rattle.tough_checks.proofs.snapshot_checks.check_tip_roles.Given as goal

abbrev pub invariant-loop-item : goal.invariant-loop-item
invariant-loop-item l = fallen (items_of (drop l.item-index l.tip.roles.items)) (items_in (snapshot_doc l.new).meta) l.tip.version (snapshot_doc l.new).head.version
    ≡ fallen (items_of l.tip.roles.items) (items_in (snapshot_doc l.new).meta) l.tip.version (snapshot_doc l.new).head.version
