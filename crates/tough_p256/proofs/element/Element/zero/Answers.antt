use Rattle.std.proofs.Common.{refl, arith}
use Rattle.tough_p256.proofs.Constants.{zero_form}
use Rattle.tough_p256.proofs.element.Element.zero.Goals as goal

pub invariant_of-result : goal.invariant_of-result
invariant_of-result c = rw zero_form (omega arith)

pub returns : goal.returns
returns c = rw zero_form refl
