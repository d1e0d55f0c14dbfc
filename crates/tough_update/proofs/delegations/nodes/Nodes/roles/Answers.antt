use Rattle.tough_update.proofs.tree.NodeSteps.{roles-top, roles-other, roles-none}
use Rattle.tough_update.proofs.delegations.nodes.Nodes.roles.Goals as goal

pub returns-then-number-eq0 : goal.returns-then-number-eq0
returns-then-number-eq0 c = roles-top c.args.self.now c.args.number c.roles_of.result.now c.if-number-eq0.true c.roles_of.ensures

pub returns-in-Some : goal.returns-in-Some
returns-in-Some c =
    roles-other c.args.self.now c.args.number c.deref.result.now c.in-Some.node.now c.roles_of-in-Some.result.now c.if-number-eq0.false c.deref.ensures.value c.in-Some.ensures.lookup.3.0 c.in-Some.ensures.lookup.1
    c.roles_of-in-Some.ensures

pub returns-in-None : goal.returns-in-None
returns-in-None c = roles-none c.args.self.now c.args.number c.deref.result.now c.if-number-eq0.false c.deref.ensures.value c.in-None.ensures.lookup.3
