use Rattle.std.proofs.Common.{◌≡◌}
use Rattle.serde_json.specs.View.{items_view}
use Rattle.tough_json.specs.Reading.{all_at}
use Rattle.tough_json.proofs.lemmas.List.{after}
use Rattle.tough_json.specs.Reading.{text}
use Rattle.tough_schema.proofs.read_delegations.prefixes_of.Given as goal

-- what is read of all is what was read, and then what is read of the rest
abbrev pub invariant-loop-value : goal.invariant-loop-value
invariant-loop-value l =
    (goal.iterator-loop-value).can_next l.value-iterator ×
    (goal.iterator-loop-value).is_finite l.value-iterator ×
    (all_at text (items_view l.fn.values.items) ≡ after l.prefixes.items (all_at text (items_view l.value-iterator.rest.items)))
