use Rattle.std.proofs.Common.{refl}
use Rattle.tough_ed25519.specs.Field.{plus, minus, times, power, inverse}
use Rattle.tough_ed25519.specs.Check.{checks}
use Rattle.tough_ed25519.specs.Coding.{encode, decode, root}
use Rattle.tough_ed25519.specs.Curve.{add, double, multiple}
use Rattle.tough_ed25519.proofs.curve.laws.first_vector.Goals as goal

pub returns : goal.returns
unfolding plus minus times power inverse checks encode decode root add double multiple
returns c = refl
