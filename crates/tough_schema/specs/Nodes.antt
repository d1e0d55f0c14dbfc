-- What numbered nodes show: the document, and its delegated roles in preorder, each with the place at which its subtree ends.
use Rattle.std.specs.Prelude.{◌≡◌, List}
use Rattle.tough_schema.specs.declared.nodes.Nodes.{Nodes}
use Rattle.tough_schema.specs.Whole.{TreeDoc, tree_doc}
use Rattle.tough_schema.specs.Preorder.{preorder_below}
use Rattle.tough_schema.specs.Numbered.{Span, spans, node_spans}

abbrev pub nodes_doc : Nodes → TreeDoc × List Span
nodes_doc n = (tree_doc n.top.now, node_spans n.entries.items)

-- the document with those of its roles
abbrev pub tree_of : Nodes → TreeDoc
tree_of n = (nodes_doc n).0

-- they are all of its roles: a word of private clauses
abbrev pub AreWhole : Nodes → Type 0
AreWhole n = (nodes_doc n).1 ≡ spans (preorder_below 0 (tree_of n))
