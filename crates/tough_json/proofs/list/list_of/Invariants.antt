use Rattle.std.proofs.Common.{◌≡◌, map}
use Rattle.serde_json.specs.View.{items_view}
use Rattle.tough_json.specs.Reading.{all_at}
use Rattle.tough_json.proofs.lemmas.List.{after}
use Rattle.tough_json.proofs.list.list_of.Given as goal

-- what is read of all is what was read, and then what is read of the rest
abbrev pub invariant-loop-value : goal.invariant-loop-value
invariant-loop-value g l =
    (goal.iterator-loop-value g).can_next l.value-iterator ×
    (goal.iterator-loop-value g).is_finite l.value-iterator ×
    (all_at g.T.FromJson.at (items_view l.fn.values.items) ≡ after (map g.T.FromJson.doc l.list.items) (all_at g.T.FromJson.at (items_view l.value-iterator.rest.items)))
