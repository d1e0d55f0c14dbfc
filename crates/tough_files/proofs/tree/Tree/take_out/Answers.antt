use Rattle.std.proofs.Common.{None}
use Rattle.tough_files.specs.Tree.{node_of}
use Rattle.tough_files.proofs.Views.{viewed}
use Rattle.tough_files.proofs.tree.Tree.take_out.Goals as goal

pub returns : goal.returns
returns c = viewed node_of c.args.path.now c.args.self.now.nodes c.remove.new.self None c.remove.ensures.updates
