use Rattle.std.proofs.Common.{◌≡◌, ◌++◌, take}
use Rattle.tough_schema.specs.Whole.{role_tree}
use Rattle.tough_edit.proofs.keys.more_keyids.Given as goal

abbrev pub invariant-loop-id : goal.invariant-loop-id
invariant-loop-id l = l.all.items ≡ (role_tree l.role).0.keyids ++ take l.id-index l.ids.items
