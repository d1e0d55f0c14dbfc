use Rattle.std.proofs.Common.{◌≡◌, map, Some, take}
use Rattle.serde_json.specs.View.{items_view}
use Rattle.tough_json.specs.Writing.{all_json}
use Rattle.tough_schema.specs.Delegations.{delegated_role_json, delegated_role_doc}
use Rattle.tough_schema.proofs.write_delegations.role_values.Given as goal

abbrev pub invariant-loop-role : goal.invariant-loop-role
invariant-loop-role l = all_json delegated_role_json (map delegated_role_doc (take l.role-index l.roles)) ≡ Some (items_view l.values.items)
