use Rattle.std.proofs.Common.{rules, inr}
use Rattle.tough_write.specs.Errors.{of_step}
use Rattle.tough_write.proofs.Telling.{refusal_told}
use Rattle.tough_write.proofs.error.refusal.Goals as goal

pub returns-in-Ok : goal.returns-in-Ok
returns-in-Ok c = refusal_told (of_step c.args.step) c.args.path.now c.args.source _ (search rules) (inr (c.in-Ok.path, search rules, search rules))
