use Rattle.std.proofs.Common.{◌≡◌, ◌*◌, ◌%◌, subst, sym, ℕ}
use Rattle.tough_modular.specs.Number.{number, weight}
use Rattle.tough_p256.specs.Field.{unit}
use Rattle.tough_p256.proofs.Products.{prime_words, prime_modulus, prime_unit}
use Rattle.tough_p256.proofs.element.times_words.Goals as goal

pub times_of-requires-clause-modulus : goal.times_of-requires-clause-modulus
times_of-requires-clause-modulus c = prime_modulus

pub times_of-requires-clause-left : goal.times_of-requires-clause-left
times_of-requires-clause-left c = rw prime_words c.requires.left

pub returns-clause-product : goal.returns-clause-product
returns-clause-product c =
    let u : (weight 4 * unit) % number _ ≡ 1 = subst (λ (m : ℕ). (weight 4 * unit) % m ≡ 1) (sym prime_words) prime_unit in
    rw prime_words at (c.times_of.ensures.product unit u)

pub returns-clause-below : goal.returns-clause-below
returns-clause-below c = rw prime_words at c.times_of.ensures.below
