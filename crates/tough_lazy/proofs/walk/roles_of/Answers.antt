use Rattle.tough_lazy.proofs.Courses.{delegations-held}
use Rattle.tough_lazy.proofs.walk.roles_of.Goals as goal

pub returns-in-Some-clause-delegations : goal.returns-in-Some-clause-delegations
returns-in-Some-clause-delegations c = delegations-held c.args.document.now c.in-Some.delegations c.in-Some.is
