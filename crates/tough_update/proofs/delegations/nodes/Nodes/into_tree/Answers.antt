use Rattle.std.proofs.Common.{rules, ◌≡◌, suc, [], ap, sym, ◌∙◌, arith}
use Rattle.tough_roles.specs.Signature.{SignedDoc}
use Rattle.tough_schema.specs.Whole.{TreeDoc, HeldDoc, held_doc}
use Rattle.tough_update.specs.declared.delegations.nodes.Nodes.{Nodes}
use Rattle.tough_update.specs.delegations.Numbered.{also, last_number, tree_of}
use Rattle.tough_update.specs.delegations.Documents.{node_doc, nodes_doc}
use Rattle.tough_update.proofs.tree.Noding.{put-number, tree-step}
use Rattle.tough_update.proofs.tree.NodeSteps.{nodes-more, tree-top}
use Rattle.tough_update.proofs.delegations.nodes.Nodes.into_tree.Goals as goal

pub loop-node-smaller : goal.loop-node-smaller
loop-node-smaller c =
    let node = c.in-Some.node in
    let rest : Nodes = record { top = c.loop-node.self.top; others = c.pop.new.self } in
    let popped : nodes_doc c.loop-node.self ≡ also (nodes_doc rest) (node_doc node) = nodes-more c.loop-node.self.top c.pop.new.self.items c.loop-node.self.others.items node c.in-Some.ensures.items in
    let before : last_number (nodes_doc c.loop-node.self) ≡ suc (last_number (nodes_doc rest)) = ap last_number popped in
    let after : last_number (nodes_doc c.put.new.self) ≡ last_number (nodes_doc rest) = ap last_number c.put.ensures ∙ put-number node.parent node.at (held_doc node.document) (nodes_doc rest) in
    omega arith

pub loop-node-preserved : goal.loop-node-preserved
loop-node-preserved c =
    let node = c.in-Some.node in
    let rest : Nodes = record { top = c.loop-node.self.top; others = c.pop.new.self } in
    let popped : nodes_doc c.loop-node.self ≡ also (nodes_doc rest) (node_doc node) = nodes-more c.loop-node.self.top c.pop.new.self.items c.loop-node.self.others.items node c.in-Some.ensures.items in
    ap tree_of c.put.ensures ∙ tree-step (nodes_doc rest) (node_doc node) ∙ ap tree_of (sym popped) ∙ c.loop-node.invariant

pub returns : goal.returns
returns c =
    let ended : c.loop-node.self.others.items ≡ [] = search rules in
    c.unnamed.ensures
    ∙ ap (λ (h : HeldDoc). let x : SignedDoc TreeDoc = record { role = h.below; signatures = h.signatures } in x) (tree-top c.loop-node.self ended ∙ c.loop-node.invariant)
