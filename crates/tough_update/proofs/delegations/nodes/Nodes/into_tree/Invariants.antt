use Rattle.std.proofs.Common.{◌≡◌}
use Rattle.tough_update.specs.delegations.Numbered.{last_number, tree_of}
use Rattle.tough_update.specs.delegations.Documents.{nodes_doc}
use Rattle.tough_update.proofs.delegations.nodes.Nodes.into_tree.Given as goal

abbrev pub invariant-loop-node : goal.invariant-loop-node
invariant-loop-node l = tree_of (nodes_doc l.self) ≡ tree_of (nodes_doc l.fn.self)

abbrev pub decreases-loop-node : goal.decreases-loop-node
decreases-loop-node l = last_number (nodes_doc l.self)
