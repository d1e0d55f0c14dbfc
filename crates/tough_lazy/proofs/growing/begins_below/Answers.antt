use Rattle.tough_lazy.proofs.Beginning.{bare-extends, seen-begins, loadable-begins}
use Rattle.tough_lazy.proofs.growing.begins_below.Goals as goal

pub returns-clause-below : goal.returns-clause-below
returns-clause-below c = λ w keeps. bare-extends w.role keeps

pub returns-clause-seen : goal.returns-clause-seen
returns-clause-seen c = seen-begins

pub returns-clause-loadable : goal.returns-clause-loadable
returns-clause-loadable c = loadable-begins
