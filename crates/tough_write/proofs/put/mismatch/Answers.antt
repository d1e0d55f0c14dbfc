use Rattle.std.proofs.Common.{rules, inr, refl}
use Rattle.tough_write.proofs.put.mismatch.Goals as goal

pub returns-in-Ok-encode-2 : goal.returns-in-Ok-encode-2
returns-in-Ok-encode-2 c = inr (c.in-Ok.context, c.in-Ok-encode.calculated, c.in-Ok-encode-2.expected, search rules, search rules, search rules, refl)
