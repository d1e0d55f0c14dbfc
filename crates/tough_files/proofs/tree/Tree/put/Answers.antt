use Rattle.std.proofs.Common.{Some, string_bytes}
use Rattle.tough_files.specs.Tree.{node_of}
use Rattle.tough_files.proofs.Views.{viewed}
use Rattle.tough_files.proofs.tree.Tree.put.Goals as goal

pub returns-in-Ok-clause-ok : goal.returns-in-Ok-clause-ok
returns-in-Ok-clause-ok c = viewed node_of (string_bytes c.args.path) c.args.self.now.nodes c.insert.new.self (Some c.args.node) c.in-Ok.ensures.updates
