use Rattle.std.proofs.Common.{rules}
use Rattle.tough_schema.specs.FileDigest.{there}
use Rattle.tough_edit.proofs.files.build_target.Goals as goal

pub returns-in_err-name-clause-refused : goal.returns-in_err-name-clause-refused
returns-in_err-name-clause-refused g c =
    λ t. let h = c.in_err-name.ensures.refused (there c.args.path.now (g.F.Files.contents c.args.files.now)) in search rules

pub returns-in-Err-clause-refused : goal.returns-in-Err-clause-refused
returns-in-Err-clause-refused g c =
    λ t. c.untargeted.ensures (there c.args.path.now (g.F.Files.contents c.args.files.now)) c.in_ok-name.name c.in_ok-name.ensures.name (c.in-Err.ensures.target t)
