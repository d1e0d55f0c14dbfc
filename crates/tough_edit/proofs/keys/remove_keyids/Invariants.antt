use Rattle.std.proofs.Common.{◌≡◌, ◌++◌, map, take, drop, length}
use Rattle.tough_schema.specs.Whole.{role_tree}
use Rattle.tough_edit.specs.Keys.{with_fewer}
use Rattle.tough_edit.proofs.keys.remove_keyids.Given as goal

-- what becomes of the roles that are left completes what became of the others
abbrev pub invariant-loop-role : goal.invariant-loop-role
invariant-loop-role l =
    (length l.roles ≡ length l.fn.roles) ×
    (map role_tree (take l.role-index l.roles) ++ map (with_fewer l.name l.keyid) (map role_tree (drop l.role-index l.roles)) ≡ map (with_fewer l.name l.keyid) (map role_tree l.fn.roles))
