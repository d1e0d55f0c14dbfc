use Rattle.tough_publish.proofs.Verdicts.{takable, untakable}
use Rattle.tough_publish.proofs.verify.check_new_role.Goals as goal

pub returns-in-Ok-clause-takable : goal.returns-in-Ok-clause-takable
returns-in-Ok-clause-takable g c = takable (g.V.Verify.verifies c.args.verifier.now) c.args.targets.now c.in-Some.delegations c.args.name.now c.args.document.now c.in-Some.is c.in-Ok.ensures.vouched

pub returns-in-Err-clause-refused : goal.returns-in-Err-clause-refused
returns-in-Err-clause-refused g c = untakable (g.V.Verify.verifies c.args.verifier.now) c.args.targets.now c.in-Some.delegations c.args.name.now c.args.document.now c.in-Err.error c.in-Some.is c.in-Err.ensures.refused
