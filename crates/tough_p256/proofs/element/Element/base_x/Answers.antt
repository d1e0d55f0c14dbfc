use Rattle.std.proofs.Common.{refl, arith}
use Rattle.tough_p256.proofs.Constants.{base_x_form}
use Rattle.tough_p256.proofs.element.Element.base_x.Goals as goal

pub invariant_of-result : goal.invariant_of-result
invariant_of-result c = rw base_x_form (omega arith)

pub returns : goal.returns
returns c = rw base_x_form refl
