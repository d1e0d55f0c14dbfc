use Rattle.std.proofs.Common.{refl}
use Rattle.tough_lazy.proofs.Beginning.{page-stays}
use Rattle.tough_lazy.proofs.growing.known_stays.Goals as goal

pub returns-clause-known : goal.returns-clause-known
returns-clause-known c = λ l a. refl

pub returns-clause-top : goal.returns-clause-top
returns-clause-top c = page-stays
