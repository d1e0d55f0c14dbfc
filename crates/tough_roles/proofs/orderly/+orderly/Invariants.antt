use Rattle.std.proofs.Common.{drop}
use Rattle.serde_json.specs.View.{items_view, members_view}
use Rattle.tough_roles.specs.Orderly.{AreOrderly, HasOrderly}
use Rattle.tough_roles.proofs.orderly.+orderly.Given as goal

abbrev pub invariant-are_orderly-loop-item : goal.invariant-are_orderly-loop-item
invariant-are_orderly-loop-item l = AreOrderly (items_view (drop l.item-index l.item-items)) → AreOrderly (items_view l.item-items)

abbrev pub invariant-has_order-loop-member : goal.invariant-has_order-loop-member
invariant-has_order-loop-member l = HasOrderly (members_view l.member-iterator) → HasOrderly (members_view l.initial.member-iterator)
