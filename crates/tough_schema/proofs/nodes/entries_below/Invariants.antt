use Rattle.std.proofs.Common.{◌≡◌, map, take}
use Rattle.tough_schema.specs.Numbered.{node_spans}
use Rattle.tough_schema.specs.Gather.{shown}
use Rattle.tough_schema.proofs.nodes.entries_below.Given as goal

abbrev pub invariant-loop-node : goal.invariant-loop-node
invariant-loop-node l = shown l.found.items ≡ map (λ s. s.0) (node_spans (take l.node-index l.node-items))
