use Rattle.std.proofs.Common.{refl}
use Rattle.tough_ed25519.specs.Field.{plus, minus, times, power, inverse}
use Rattle.tough_ed25519.specs.Coding.{encode, decode, root}
use Rattle.tough_ed25519.specs.Curve.{add, double, multiple}
use Rattle.tough_ed25519.proofs.curve.laws.constants.Goals as goal

pub returns : goal.returns
unfolding plus minus times power inverse encode decode root add double multiple
returns c = record { d = refl; root = refl; base = refl; order = refl }
