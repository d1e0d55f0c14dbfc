-- Documents by numbers, seen as plain data.
use Rattle.std.specs.Prelude.{List, [], ◌∷◌, map}
use Rattle.std.specs.BTreeMap.{get_by_text}
use Rattle.tough_schema.specs.Whole.{held_doc}
use Rattle.tough_update.specs.declared.delegations.firsts.Firsts.{Firsts}
use Rattle.tough_update.specs.declared.delegations.nodes.Node.{Node}
use Rattle.tough_update.specs.declared.delegations.nodes.Nodes.{Nodes}
use Rattle.tough_update.specs.delegations.Numbered as numbered
use Rattle.tough_update.specs.delegations.Numbered.{NodeDoc}
use Rattle.tough_update.specs.delegations.Firsts as plain

abbrev pub node_doc : Node → NodeDoc
node_doc n = record { parent = n.parent; at = n.at; document = held_doc n.document }

-- these, after those
abbrev pub all_also : numbered.Nodes → List NodeDoc → numbered.Nodes
all_also ns [] = ns
all_also ns (n ∷ rest) = all_also (numbered.also ns n) rest

abbrev pub nodes_doc : Nodes → numbered.Nodes
nodes_doc ns = all_also (numbered.targets (held_doc ns.top)) (map node_doc ns.others.items)

-- the place of the first role of each name
abbrev pub firsts_doc : Firsts → plain.Firsts
firsts_doc f q = get_by_text f.places q
