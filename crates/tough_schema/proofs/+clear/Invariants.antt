use Rattle.std.proofs.Common.{◌≡◌, map, take}
use Rattle.tough_schema.specs.Whole.{role_tree, role_cleared}
use Rattle.tough_schema.proofs.+clear.Given as goal

abbrev pub invariant-edit::clear_roles-loop-role : goal.invariant-edit::clear_roles-loop-role
invariant-edit::clear_roles-loop-role l =
    goal.unvisited-edit::clear_roles-loop-role l × (map role_tree (take l.role-index l.roles) ≡ map role_cleared (map role_tree (take l.role-index l.fn.roles)))
