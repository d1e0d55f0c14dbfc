use Rattle.std.proofs.Common.{rules, inr, refl}
use Rattle.tough_write.proofs.Telling.{unmeasured_told}
use Rattle.tough_write.proofs.put.unmeasured.Goals as goal

pub returns-in-Ok : goal.returns-in-Ok
returns-in-Ok c = unmeasured_told c.args.path.now c.args.source _ (search rules) (inr (c.in-Ok.path, search rules, refl))
