use Rattle.std.specs.Prelude.{IsTrue}
use Rattle.tough_lazy.proofs.Standing.{below-stays}
use Rattle.tough_lazy.proofs.laws.below_stays.Goals as goal

pub returns : goal.returns
returns c = λ fits name t n h is under page bare. below-stays (λ g role page. IsTrue (fits g role page)) name t n h is under page bare
