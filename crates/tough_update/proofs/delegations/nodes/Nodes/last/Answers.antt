use Rattle.tough_update.proofs.tree.NodeSteps.{last-there}
use Rattle.tough_update.proofs.delegations.nodes.Nodes.last.Goals as goal

pub returns-in-Some : goal.returns-in-Some
returns-in-Some c = last-there c.args.self.now c.deref.result.now c.in-Some.node.now c.deref.ensures.value c.in-Some.ensures.item.3.0 c.in-Some.ensures.item.1
