use Rattle.tough_schema.proofs.Copied.{delegations-other}
use Rattle.tough_schema.proofs.copy.copy_delegations_over.Goals as goal

pub returns : goal.returns
returns c = delegations-other c.args.delegations.now (record { keys = c.in_ok-keys.keys; roles = c.args.below }) c.in_ok-keys.ensures
