use Rattle.tough_lazy.proofs.Extended.{listed-stays, unlisted-stays}
use Rattle.tough_lazy.proofs.laws.settled_stays.Goals as goal

pub returns-clause-found : goal.returns-clause-found
returns-clause-found c = listed-stays

pub returns-clause-missing : goal.returns-clause-missing
returns-clause-missing c = unlisted-stays
