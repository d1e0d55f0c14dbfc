use Rattle.std.proofs.Common.{◌≡◌, ◌++◌, length}
use Rattle.tough_schema.specs.Whole.{tree_doc}
use Rattle.tough_schema.specs.Preorder.{preorder_below}
use Rattle.tough_schema.specs.Numbered.{spans, node_spans}
use Rattle.tough_schema.specs.Adding.{all_stepped, weights}
use Rattle.tough_schema.proofs.nodes.add_below.Given as goal

-- the steps that are left lead to all roles
abbrev pub invariant-loop-step : goal.invariant-loop-step
invariant-loop-step l = all_stepped l.steps.items (node_spans l.found.items) ≡ node_spans l.fn.found.items ++ spans (preorder_below (length l.fn.found.items) (tree_doc l.document))

abbrev pub decreases-loop-step : goal.decreases-loop-step
decreases-loop-step l = weights l.steps.items
