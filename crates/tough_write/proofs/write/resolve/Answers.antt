use Rattle.std.proofs.Common.{string_bytes}
use Rattle.tough_write.proofs.Filled.{resolved}
use Rattle.tough_write.proofs.write.resolve.Goals as goal

pub returns-in-Ok-clause-contents : goal.returns-in-Ok-clause-contents
returns-in-Ok-clause-contents g c = λ tells.
    resolved (g.F.Files.contents c.args.files.now) c.args.path.now (string_bytes c.in-Ok.path) (g.F.Files.contents c.canonical.new.self) (c.in-Ok.ensures.gives tells)
