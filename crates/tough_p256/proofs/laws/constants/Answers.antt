use Rattle.std.proofs.Common.{refl}
use Rattle.tough_p256.specs.Field.{plus, minus, times}
use Rattle.tough_p256.specs.Curve.{is_on_curve, add, double, multiple}
use Rattle.tough_p256.proofs.laws.constants.Goals as goal

pub returns : goal.returns
unfolding plus minus times is_on_curve add double multiple
returns c = record { curve = refl; order = refl }
