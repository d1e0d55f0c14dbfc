use Rattle.std.proofs.Common.{◌≡◌, length}
use Rattle.json.specs.Value.{members_view as json_members}
use Rattle.json.specs.Find.{get_member as last_member}
use Rattle.tough_json.proofs.borrowed.last_of.Given as goal

abbrev pub invariant-loop-key : goal.invariant-loop-key
invariant-loop-key l = last_member l.name (json_members l.fn.members.items) ≡ last_member l.name (json_members l.left.items)

abbrev pub decreases-loop-key : goal.decreases-loop-key
decreases-loop-key l = length l.left.items
