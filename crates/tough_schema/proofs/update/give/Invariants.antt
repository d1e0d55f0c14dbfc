use Rattle.std.proofs.Common.{◌≡◌, ◌++◌, map, option_map, take, drop, length}
use Rattle.tough_schema.specs.Whole.{role_tree, held_doc}
use Rattle.tough_schema.specs.Update.{all_given}
use Rattle.tough_schema.proofs.update.give.Given as goal

abbrev pub invariant-loop-role : goal.invariant-loop-role
invariant-loop-role l =
    (length l.roles ≡ length l.fn.roles) ×
    (map role_tree (take l.role-index l.roles) ++ all_given (map role_tree (drop l.role-index l.roles)) (map (option_map held_doc) l.left.rest.items) ≡ all_given (map role_tree l.fn.roles) (map (option_map held_doc) l.fn.documents.items))
