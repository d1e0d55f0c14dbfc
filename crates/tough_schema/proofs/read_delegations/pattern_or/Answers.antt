use Rattle.std.proofs.Common.{◌≡◌, string_bytes, sym, ◌∙◌}
use Rattle.tough_names.specs.declared.pattern.reading.PatternError.TheVariants.{Glob, Memory}
use Rattle.tough_schema.proofs.PathLemmas.{refuses_pattern}
use Rattle.tough_schema.proofs.read_delegations.pattern_or.Goals as goal

pub returns-in-Err-Glob : goal.returns-in-Err-Glob
returns-in-Err-Glob c = refuses_pattern c.no_pattern.result (string_bytes c.args.text) c.no_pattern.ensures (c.in-Err-Glob.ensures.refuses (λ m. let clash : Glob ≡ Memory = sym c.in-Err-Glob.field-0-is ∙ m in cc)).1
