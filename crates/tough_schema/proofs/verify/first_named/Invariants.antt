use Rattle.std.proofs.Common.{◌≡◌, map, drop}
use Rattle.tough_schema.specs.Delegations.{delegated_role_doc}
use Rattle.tough_schema.specs.Verify.{role_named}
use Rattle.tough_schema.proofs.verify.first_named.Given as goal

-- what is named among all is what is named among those that are left
abbrev pub invariant-loop-role : goal.invariant-loop-role
invariant-loop-role l = role_named l.name (map delegated_role_doc (drop l.role-index l.roles)) ≡ role_named l.name (map delegated_role_doc l.roles)
