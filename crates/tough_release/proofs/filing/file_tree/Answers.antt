use Rattle.std.proofs.Common.{inl, refl}
use Rattle.tough_release.proofs.filing.file_tree.Goals as goal

pub returns-in-Err-clause-refused : goal.returns-in-Err-clause-refused
returns-in-Err-clause-refused c = inl (c.args.targets, refl, c.in-Err.ensures.refused)
