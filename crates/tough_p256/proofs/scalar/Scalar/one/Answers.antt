use Rattle.std.proofs.Common.{refl, arith}
use Rattle.tough_p256.proofs.Orders.{one_form}
use Rattle.tough_p256.proofs.scalar.Scalar.one.Goals as goal

pub invariant_of-result : goal.invariant_of-result
invariant_of-result c = rw one_form (omega arith)

pub returns : goal.returns
returns c = rw one_form refl
