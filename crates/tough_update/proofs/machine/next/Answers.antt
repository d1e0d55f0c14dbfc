use Rattle.tough_trust.specs.Failure.{failure_of}
use Rattle.tough_update.specs.Machine.{stage_after}
use Rattle.tough_update.specs.View.{stage_doc, answer_doc, setting_doc}
use Rattle.tough_update.proofs.Settling.{went, failed}
use Rattle.tough_update.proofs.machine.next.Goals as goal

pub returns-in-Ok : goal.returns-in-Ok
returns-in-Ok g c = went (stage_after (g.V.Verify.verifies c.args.verifier.now) (setting_doc c.args.setting.now) (stage_doc c.args.stage) (answer_doc c.args.answer)) (stage_doc c.in-Ok.stage) c.in-Ok.ensures

pub returns-in-Err : goal.returns-in-Err
returns-in-Err g c = failed (stage_after (g.V.Verify.verifies c.args.verifier.now) (setting_doc c.args.setting.now) (stage_doc c.args.stage) (answer_doc c.args.answer)) (failure_of c.in-Err.error) c.in-Err.ensures
