use Rattle.std.proofs.Common.{◌≡◌, map, drop}
use Rattle.tough_schema.specs.Delegations.{delegated_role_doc}
use Rattle.tough_schema.specs.Matching.{some_match}
use Rattle.tough_schema.proofs.matching.some_role.Given as goal

abbrev pub invariant-loop-role : goal.invariant-loop-role
invariant-loop-role l = some_match l.name.resolved (map delegated_role_doc (drop l.role-index l.roles)) ≡ some_match l.name.resolved (map delegated_role_doc l.roles)
