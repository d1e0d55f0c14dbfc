use Rattle.std.proofs.Common.{refl, arith}
use Rattle.tough_p256.proofs.Constants.{b_form}
use Rattle.tough_p256.proofs.element.Element.curve_b.Goals as goal

pub invariant_of-result : goal.invariant_of-result
invariant_of-result c = rw b_form (omega arith)

pub returns : goal.returns
returns c = rw b_form refl
