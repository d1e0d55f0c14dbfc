use Rattle.std.proofs.Common.{refl, arith}
use Rattle.tough_p256.proofs.Constants.{order_form}
use Rattle.tough_p256.proofs.element.Element.order.Goals as goal

pub invariant_of-result : goal.invariant_of-result
invariant_of-result c = rw order_form (omega arith)

pub returns : goal.returns
returns c = rw order_form refl
