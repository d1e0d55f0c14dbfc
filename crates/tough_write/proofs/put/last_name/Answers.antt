use Rattle.std.proofs.Common.{rules, inl, inr, refl}
use Rattle.tough_write.proofs.put.last_name.Goals as goal

pub returns-in_default : goal.returns-in_default
returns-in_default c = inr (inl (search rules, inr (c.in_ok-from_str.field-0, search rules, refl)))
