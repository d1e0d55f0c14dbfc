use Rattle.std.proofs.Common.{◌≡◌, map}
use Rattle.serde_json.specs.View.{items_view}
use Rattle.tough_json.specs.Reading.{all_at}
use Rattle.tough_json.proofs.lemmas.List.{after}
use Rattle.tough_schema.specs.Delegations.{delegated_role_at, delegated_role_doc}
use Rattle.tough_schema.specs.Fresh.{AreUnloaded}
use Rattle.tough_schema.proofs.read_delegations.roles_of.Given as goal

-- what is read of all is what was read, and then what is read of the rest
abbrev pub invariant-loop-value : goal.invariant-loop-value
invariant-loop-value l =
    (goal.iterator-loop-value).can_next l.value-iterator ×
    (goal.iterator-loop-value).is_finite l.value-iterator ×
    ((all_at delegated_role_at (items_view l.fn.values.items) ≡ after (map delegated_role_doc l.roles.items) (all_at delegated_role_at (items_view l.value-iterator.rest.items))) × AreUnloaded l.roles.items)
