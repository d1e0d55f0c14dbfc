use Rattle.std.proofs.Common.{◌≡◌, option_map, drop}
use Rattle.json.specs.Value.{items_view as json_items, members_view as json_members}
use Rattle.serde_json.specs.Data.{no_members}
use Rattle.serde_json.specs.Read.{of_items, of_members}
use Rattle.serde_json.specs.View.{members_view}
use Rattle.tough_json.proofs.lemmas.Borrowed.{items_before}
use Rattle.tough_json.proofs.borrowed.+value_in.Given as goal

abbrev pub invariant-items_in-loop-item : goal.invariant-items_in-loop-item
invariant-items_in-loop-item l = of_items (json_items l.fn.items.items) ≡ option_map (items_before l.values.items) (of_items (json_items (drop l.item-index l.item-items)))

abbrev pub invariant-members_in-loop-member : goal.invariant-members_in-loop-member
invariant-members_in-loop-member l = of_members (json_members l.fn.members.items) no_members ≡ of_members (json_members (drop l.member-index l.member-items)) (members_view l.values.entries)
