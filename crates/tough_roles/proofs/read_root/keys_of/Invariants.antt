use Rattle.std.proofs.Common.{◌≡◌, []}
use Rattle.serde_json.specs.View.{members_view}
use Rattle.tough_roles.specs.Root.{keys_from, keys_doc}
use Rattle.tough_roles.proofs.read_root.keys_of.Given as goal

-- what all members make is what those left make of the keys that were found
abbrev pub invariant-loop-name : goal.invariant-loop-name
invariant-loop-name l =
    (goal.iterator-loop-name).can_next l.name-iterator ×
    (goal.iterator-loop-name).is_finite l.name-iterator ×
    (keys_from [] (members_view l.fn.members.entries) ≡ keys_from (keys_doc l.keys.entries) (members_view l.name-iterator))
