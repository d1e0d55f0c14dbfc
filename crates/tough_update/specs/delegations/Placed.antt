-- The documents that have their place, seen as plain data.
use Rattle.tough_update.specs.declared.delegations.placed.Placed.{Placed}
use Rattle.tough_update.specs.delegations.Numbered.{Nodes}
use Rattle.tough_update.specs.delegations.Documents.{nodes_doc}

abbrev pub placed_doc : Placed → Nodes
placed_doc p = nodes_doc p.nodes
