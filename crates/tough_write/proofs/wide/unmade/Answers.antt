use Rattle.std.proofs.Common.{ap, inr}
use Rattle.tough_error.specs.declared.error.Error.TheVariants as wide
use Rattle.tough_write.proofs.wide.unmade.Goals as goal

pub returns-in-Ok : goal.returns-in-Ok
returns-in-Ok c = inr (c.in-Ok.file, c.in-Ok.ensures.cases, ap (λ e. wide.TargetFromPath c.args.path e) c.at.ensures)
