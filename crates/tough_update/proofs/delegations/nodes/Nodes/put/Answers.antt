use Rattle.tough_schema.specs.Whole.{held_doc}
use Rattle.tough_update.proofs.tree.NodeSteps.{put-top, put-other, put-none}
use Rattle.tough_update.proofs.delegations.nodes.Nodes.put.Goals as goal

pub returns-then-number-eq0 : goal.returns-then-number-eq0
returns-then-number-eq0 c = put-top c.args.self.now c.args.number c.args.place (held_doc c.args.document) c.set_document.new.document c.if-number-eq0.true c.set_document.ensures

pub returns-in-Some : goal.returns-in-Some
returns-in-Some c =
    put-other c.args.self.now c.args.number c.args.place (held_doc c.args.document) c.in-Some.node.now c.set_document-in-Some.new.document c.if-number-eq0.false c.in-Some.ensures.item.3.0 c.in-Some.ensures.item.1
    c.set_document-in-Some.ensures

pub returns-in_default : goal.returns-in_default
returns-in_default c = put-none c.args.self.now c.args.number c.args.place (held_doc c.args.document) c.if-number-eq0.false c.in_default.ensures.item.3
