use Rattle.std.proofs.Common.{◌≡◌, ◌++◌, map, take, drop, length}
use Rattle.tough_schema.specs.Whole.{role_tree}
use Rattle.tough_edit.specs.Keys.{all_given}
use Rattle.tough_edit.proofs.keys.put_all.Given as goal

-- what becomes of the roles that are left completes what became of the others
abbrev pub invariant-loop-role : goal.invariant-loop-role
invariant-loop-role l =
    (length l.roles ≡ length l.fn.roles) ×
    (map role_tree (take l.role-index l.roles) ++ all_given (map role_tree (drop l.role-index l.roles)) (map (λ v. v.items) l.left.rest.items) ≡ all_given (map role_tree l.fn.roles) (map (λ v. v.items) l.fn.lists.items))
