use Rattle.tough_lazy.proofs.Settling.{settled-found, settled-missing}
use Rattle.tough_lazy.proofs.laws.settled_finds.Goals as goal

pub returns-clause-found : goal.returns-clause-found
returns-clause-found c = settled-found

pub returns-clause-missing : goal.returns-clause-missing
returns-clause-missing c = settled-missing
