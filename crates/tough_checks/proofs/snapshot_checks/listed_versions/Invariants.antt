use Rattle.std.proofs.Common.{◌≡◌, ◌++◌}
use Rattle.tough_roles.specs.Timestamp.{metafiles_doc}
use Rattle.tough_checks.specs.Versions.{items_of}
use Rattle.tough_checks.specs.Checks.{items_in}
use Rattle.tough_checks.proofs.snapshot_checks.listed_versions.Given as goal

abbrev pub invariant-loop-name : goal.invariant-loop-name
invariant-loop-name l = items_of l.roles.items ++ items_in (metafiles_doc l.name-iterator) ≡ items_in (metafiles_doc l.meta.entries)
