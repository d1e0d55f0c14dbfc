use Rattle.tough_lazy.proofs.Needed.{needed-open, needed-bare}
use Rattle.tough_lazy.proofs.laws.needs_a_role.Goals as goal

pub returns-clause-way : goal.returns-clause-way
returns-clause-way c = needed-open

pub returns-clause-bare : goal.returns-clause-bare
returns-clause-bare c = needed-bare
