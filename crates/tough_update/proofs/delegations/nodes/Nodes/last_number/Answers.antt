use Rattle.std.proofs.Common.{◌∙◌}
use Rattle.tough_update.proofs.tree.NodeSteps.{number-is}
use Rattle.tough_update.proofs.delegations.nodes.Nodes.last_number.Goals as goal

pub returns : goal.returns
returns c = c.len.ensures ∙ number-is c.args.self.now
