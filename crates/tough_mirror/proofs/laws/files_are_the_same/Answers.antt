use Rattle.std.proofs.Common.{refl}
use Rattle.tough_mirror.proofs.laws.files_are_the_same.Goals as goal

pub returns : goal.returns
returns c = λ r. refl
