use Rattle.std.proofs.Common.{◌≡◌, ◌++◌, map, take}
use Rattle.tough_schema.specs.Whole.{role_tree}
use Rattle.tough_edit.proofs.build.add_copies.Given as goal

abbrev pub invariant-loop-role : goal.invariant-loop-role
invariant-loop-role l = map role_tree l.all.items ≡ map role_tree l.fn.all.items ++ map role_tree (take l.role-index l.roles)
