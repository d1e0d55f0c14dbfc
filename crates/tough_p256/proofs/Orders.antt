-- The same for numbers modulo the order, and powers of them by the bits of the exponent, the highest first.
use Rattle.std.proofs.Common.{◌≡◌, ℕ, ◌+◌, ◌-◌, ◌*◌, ◌/◌, ◌%◌, ◌^◌, ◌<◌, [], ◌∷◌, nat_eq, refl, arith, add-one}
use Rattle.std.proofs.lemmas.Nat.{shr-shr}
use Rattle.tough_modular.specs.Number.{number, weight, IsModulus}
use Rattle.tough_p256.specs.Order.{order, order_unit, sum, product, product_if, power}
use Rattle.tough_p256.proofs.Products.{product_of}

pub product_in : (z l r : ℕ) → z ≡ (l * r * order_unit) % order → (z * order_unit) % order ≡ product ((l * order_unit) % order) ((r * order_unit) % order)
unfolding product
product_in z l r e = product_of z l r order_unit order e

pub sum_in : (z l r : ℕ) → z ≡ (l + r) % order → (z * order_unit) % order ≡ sum ((l * order_unit) % order) ((r * order_unit) % order)
unfolding sum
sum_in z l r e = omega arith

pub order_words : number (0xf3b9cac2fc632551 ∷ 0xbce6faada7179e84 ∷ 0xffffffffffffffff ∷ 0xffffffff00000000 ∷ []) ≡ order
unfolding number
order_words = refl

pub less_two_words : number (0xf3b9cac2fc63254f ∷ 0xbce6faada7179e84 ∷ 0xffffffffffffffff ∷ 0xffffffff00000000 ∷ []) ≡ order - 2
unfolding number
less_two_words = refl

pub enter_words : number (0x83244c95be79eea2 ∷ 0x4699799c49bd6fa6 ∷ 0x2845b2392b6bec59 ∷ 0x66e12d94f3d95620 ∷ []) ≡ 0x66e12d94f3d956202845b2392b6bec594699799c49bd6fa683244c95be79eea2
unfolding number
enter_words = refl

pub one_form : number (0xc46353d039cdaaf ∷ 0x4319055258e8617b ∷ 0x0 ∷ 0xffffffff ∷ []) ≡ 0xffffffff00000000000000004319055258e8617b0c46353d039cdaaf
unfolding number
one_form = refl

pub unit_of : (weight 4 * order_unit) % order ≡ 1
unfolding weight
unit_of = refl

pub order_modulus : IsModulus (0xf3b9cac2fc632551 ∷ 0xbce6faada7179e84 ∷ 0xffffffffffffffff ∷ 0xffffffff00000000 ∷ []) 0xccd1c8aaee00bc4f
unfolding number
order_modulus = record { some = omega arith; odd = refl; inverse = refl }

pub entered : (z w : ℕ) → z ≡ (0x66e12d94f3d956202845b2392b6bec594699799c49bd6fa683244c95be79eea2 * w * order_unit) % order → (z * order_unit) % order ≡ w % order
entered z w e = omega arith

pub left_form : (z l : ℕ) → z ≡ (l * 1 * order_unit) % order → z ≡ (l * order_unit) % order
left_form z l e = omega arith

pub power_none : (n x : ℕ) → 1 ≡ power 0 n x
unfolding power
power_none n x = refl

power_suc : (k n x : ℕ) → power (k + 1) n x ≡ product_if (nat_eq (n % 2) 1) x (product (power k (n / 2) x) (power k (n / 2) x))
unfolding power
power_suc k n x = rw add-one refl

-- one bit more of 256
pub power_more : (k n x : ℕ) → k < 256 → product_if (nat_eq (n / 2 ^ (255 - k) % 2) 1) x (product (power k (n / 2 ^ (256 - k)) x) (power k (n / 2 ^ (256 - k)) x)) ≡ power (k + 1) (n / 2 ^ (256 - (k + 1))) x
power_more k n x h =
    let e : 255 - k ≡ 256 - (k + 1) = omega arith in
    let f : 256 - (k + 1) + 1 ≡ 256 - k = omega arith in
    rw (power_suc k (n / 2 ^ (256 - (k + 1))) x, shr-shr n (256 - (k + 1)) 1, f, e) refl
