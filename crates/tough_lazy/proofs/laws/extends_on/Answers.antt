use Rattle.tough_lazy.proofs.Extended.{same-below, further}
use Rattle.tough_lazy.proofs.laws.extends_on.Goals as goal

pub returns-clause-itself : goal.returns-clause-itself
returns-clause-itself c = same-below

pub returns-clause-further : goal.returns-clause-further
returns-clause-further c = further
