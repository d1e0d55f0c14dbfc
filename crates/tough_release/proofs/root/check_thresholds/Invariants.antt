use Rattle.std.proofs.Common.{◌≡◌}
use Rattle.tough_roles.specs.Root.{roles_doc}
use Rattle.tough_release.specs.Roots.{first_unstable}
use Rattle.tough_release.proofs.root.check_thresholds.Given as goal

abbrev pub invariant-loop-role : goal.invariant-loop-role
invariant-loop-role l = first_unstable (roles_doc l.role-iterator) ≡ first_unstable (roles_doc l.root.roles.entries)
