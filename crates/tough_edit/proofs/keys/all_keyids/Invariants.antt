use Rattle.std.proofs.Common.{◌≡◌, map, take}
use Rattle.tough_schema.specs.Whole.{role_tree}
use Rattle.tough_edit.specs.Keys.{more_keyids}
use Rattle.tough_edit.proofs.keys.all_keyids.Given as goal

abbrev pub invariant-loop-role : goal.invariant-loop-role
invariant-loop-role l = map (λ w. w.items) l.all.items ≡ map (more_keyids l.name l.ids.items) (map role_tree (take l.role-index l.roles))
