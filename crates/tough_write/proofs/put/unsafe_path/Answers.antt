use Rattle.std.proofs.Common.{rules, inr}
use Rattle.tough_write.proofs.put.unsafe_path.Goals as goal

pub returns-in-Ok-from_str-2 : goal.returns-in-Ok-from_str-2
returns-in-Ok-from_str-2 c = inr (c.in-Ok-from_str.outdir, c.in-Ok-from_str-2.filepath, search rules, search rules, search rules)
