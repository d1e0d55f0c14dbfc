use Rattle.std.proofs.Common.{◌≡◌, map, option_map, take}
use Rattle.tough_schema.specs.Whole.{tree_doc, role_tree, held_doc}
use Rattle.tough_schema.specs.Update.{documents_for}
use Rattle.tough_schema.proofs.update.copies_for.Given as goal

abbrev pub invariant-loop-role : goal.invariant-loop-role
invariant-loop-role l = map (option_map held_doc) l.copies.items ≡ documents_for (tree_doc l.old) (map role_tree (take l.role-index l.roles))
