use Rattle.std.proofs.Common.{◌≡◌, ◌*◌, ◌%◌, subst, sym, ℕ}
use Rattle.tough_modular.specs.Number.{number, weight}
use Rattle.tough_p256.specs.Order.{order_unit}
use Rattle.tough_p256.proofs.Orders.{order_words, order_modulus, unit_of}
use Rattle.tough_p256.proofs.scalar.times_words.Goals as goal

pub times_of-requires-clause-modulus : goal.times_of-requires-clause-modulus
times_of-requires-clause-modulus c = order_modulus

pub times_of-requires-clause-left : goal.times_of-requires-clause-left
times_of-requires-clause-left c = rw order_words c.requires.left

pub returns-clause-product : goal.returns-clause-product
returns-clause-product c =
    let u : (weight 4 * order_unit) % number _ ≡ 1 = subst (λ (m : ℕ). (weight 4 * order_unit) % m ≡ 1) (sym order_words) unit_of in
    rw order_words at (c.times_of.ensures.product order_unit u)

pub returns-clause-below : goal.returns-clause-below
returns-clause-below c = rw order_words at c.times_of.ensures.below
