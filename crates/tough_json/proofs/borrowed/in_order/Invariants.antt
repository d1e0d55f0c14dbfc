use Rattle.std.proofs.Common.{◌≡◌, Some}
use Rattle.json.specs.Value.{members_view as json_members}
use Rattle.serde_json.specs.Data.{Members, no_members}
use Rattle.serde_json.specs.Read.{of_members}
use Rattle.tough_json.specs.Borrowed.{listed}
use Rattle.tough_json.proofs.borrowed.in_order.Given as goal

abbrev pub invariant-loop-name : goal.invariant-loop-name
invariant-loop-name l =
    (goal.iterator-loop-name).can_next l.name-iterator ×
    (goal.iterator-loop-name).is_finite l.name-iterator ×
    ((ms : Members) → of_members (json_members l.fn.members.items) no_members ≡ Some ms
    → (found : Members) × (listed l.found.entries ≡ Some found) × (of_members (json_members l.name-iterator.rest.items) found ≡ Some ms))
