use Rattle.std.proofs.Common.{◌≡◌, is_some, drop}
use Rattle.json.specs.Value.{items_view as json_items, members_view as json_members}
use Rattle.serde_json.specs.Data.{Members, no_members}
use Rattle.serde_json.specs.Read.{of_items, of_members}
use Rattle.tough_json.proofs.borrowed.+is_value.Given as goal

abbrev pub invariant-are_values-loop-item : goal.invariant-are_values-loop-item
invariant-are_values-loop-item l = is_some (of_items (json_items l.fn.items.items)) ≡ is_some (of_items (json_items (drop l.item-index l.item-items)))

abbrev pub invariant-have_values-loop-member : goal.invariant-have_values-loop-member
invariant-have_values-loop-member l = (found : Members) × (of_members (json_members l.fn.members.items) no_members ≡ of_members (json_members (drop l.member-index l.member-items)) found)
