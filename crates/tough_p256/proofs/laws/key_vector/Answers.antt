use Rattle.std.proofs.Common.{refl}
use Rattle.tough_modular.specs.Octets.{octets_number, number_octets}
use Rattle.tough_p256.specs.Field.{plus, minus, times, square, power, inverse}
use Rattle.tough_p256.specs.Curve.{add, double, multiple}
use Rattle.tough_p256.specs.Signing.{public_key}
use Rattle.tough_p256.proofs.laws.key_vector.Goals as goal

pub returns : goal.returns
unfolding octets_number number_octets plus minus times square power inverse add double multiple public_key
returns c = refl
