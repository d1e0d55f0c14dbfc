use Rattle.std.proofs.Common.{◌≡◌, map, take, filter}
use Rattle.tough_schema.specs.Whole.{role_tree}
use Rattle.tough_edit.specs.Roles.{stays}
use Rattle.tough_edit.proofs.roles.staying.Given as goal

abbrev pub invariant-loop-role : goal.invariant-loop-role
invariant-loop-role l = map role_tree l.left.items ≡ filter (stays l.name l.recursive) (map role_tree (take l.role-index l.roles))
