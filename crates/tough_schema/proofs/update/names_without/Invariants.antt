use Rattle.std.proofs.Common.{◌≡◌, map, string_bytes, take}
use Rattle.tough_schema.specs.Whole.{tree_doc, role_tree}
use Rattle.tough_schema.specs.Update.{needed}
use Rattle.tough_schema.proofs.update.names_without.Given as goal

abbrev pub invariant-loop-role : goal.invariant-loop-role
invariant-loop-role l = map string_bytes l.names.items ≡ needed (tree_doc l.old) (map (λ r. (role_tree r).0) (take l.role-index l.roles))
