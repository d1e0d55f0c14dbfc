use Rattle.std.proofs.Common.{◌≡◌, ◌+◌}
use Rattle.tough_schema.specs.Below.{work}
use Rattle.tough_schema.specs.Whole.{tree_doc, role_branches}
use Rattle.tough_schema.specs.Putting.{way, way_in, way_through, rest_work}
use Rattle.tough_schema.proofs.way.way_to.Given as goal

-- what the search that goes on from here finds is what it finds in the whole
abbrev pub invariant-loop-above : goal.invariant-loop-above
invariant-loop-above l = way_through l.name l.above.items (way l.name (role_branches l.here)) ≡ way_in l.name (tree_doc l.document)

abbrev pub decreases-loop-above : goal.decreases-loop-above
decreases-loop-above l = rest_work l.above.items + work l.here
