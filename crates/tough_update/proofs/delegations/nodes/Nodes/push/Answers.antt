use Rattle.tough_update.proofs.tree.NodeSteps.{nodes-more}
use Rattle.tough_update.proofs.delegations.nodes.Nodes.push.Goals as goal

pub returns-clause-placed : goal.returns-clause-placed
returns-clause-placed c = nodes-more c.args.self.now.top c.args.self.now.others.items c.push.new.self.items c.args.node c.in_ok-push.ensures.items
