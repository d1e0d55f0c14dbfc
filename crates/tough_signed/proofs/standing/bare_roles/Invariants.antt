use Rattle.std.proofs.Common.{◌≡◌, map, take}
use Rattle.tough_schema.specs.Delegations.{delegated_role_doc}
use Rattle.tough_schema.specs.Fresh.{AreUnloaded}
use Rattle.tough_signed.proofs.standing.bare_roles.Given as goal

abbrev pub invariant-loop-role : goal.invariant-loop-role
invariant-loop-role l = (map delegated_role_doc l.copies.items ≡ map delegated_role_doc (take l.role-index l.roles)) × AreUnloaded l.copies.items
