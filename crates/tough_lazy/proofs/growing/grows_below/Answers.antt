use Rattle.tough_lazy.proofs.Serving.{grows-below}
use Rattle.tough_lazy.proofs.growing.grows_below.Goals as goal

pub returns : goal.returns
returns c = λ verifies files s name w l a load known more needs is file. grows-below verifies files s name w l a load known is file more needs
