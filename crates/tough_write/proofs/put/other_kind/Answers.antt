use Rattle.std.proofs.Common.{rules, inr, refl}
use Rattle.tough_write.proofs.put.other_kind.Goals as goal

pub returns-in-Ok-from_str-2 : goal.returns-in-Ok-from_str-2
returns-in-Ok-from_str-2 c = inr (c.in-Ok.expected, c.in-Ok-from_str.found, c.in-Ok-from_str-2.path, search rules, search rules, search rules, refl)
