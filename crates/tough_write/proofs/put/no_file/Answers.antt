use Rattle.std.proofs.Common.{rules, inr, refl}
use Rattle.tough_write.proofs.put.no_file.Goals as goal

pub returns-in-Ok : goal.returns-in-Ok
returns-in-Ok c = inr (c.in-Ok.path, search rules, refl)
