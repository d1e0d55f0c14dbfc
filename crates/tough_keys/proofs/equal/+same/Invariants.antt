use Rattle.std.proofs.Common.{◌≡◌, length}
use Rattle.serde_json.specs.View.{items_view, members_view}
use Rattle.tough_keys.specs.Equal.{same_items, same_members}
use Rattle.tough_keys.proofs.equal.+same.Given as goal

abbrev pub invariant-same_list-loop-x : goal.invariant-same_list-loop-x
invariant-same_list-loop-x l =
    (same_items (items_view l.x-iterator.a.rest.now) (items_view l.x-iterator.b.rest.now) ≡ same_items (items_view l.a) (items_view l.b))
    × (length l.x-iterator.a.rest.now ≡ length l.x-iterator.b.rest.now)

abbrev pub invariant-same_map-loop-name : goal.invariant-same_map-loop-name
invariant-same_map-loop-name l =
    (same_members (members_view l.name-iterator.a) (members_view l.name-iterator.b) ≡ same_members (members_view l.a.entries) (members_view l.b.entries))
    × (length l.name-iterator.a ≡ length l.name-iterator.b)
