-- Products divided by a weight, and what they are to the numbers that the words stand for.
use Rattle.std.proofs.Common.{◌≡◌, ℕ, zero, suc, ◌+◌, ◌-◌, ◌*◌, ◌%◌, ◌<◌, ◌≤◌, [], ◌∷◌, refl, arith}
use Rattle.std.proofs.Math.Nat.{mod-eq_of_lt}
use Rattle.std.proofs.lemmas.Nat.{mul-mod, mul-mod_first, mul-mod_second}
use Rattle.tough_modular.specs.Number.{number, weight, IsModulus}
use Rattle.tough_p256.specs.Field.{prime, unit, plus, minus, times}

pub divided : (z l w u m : ℕ) → z < m → (z * w) % m ≡ l % m → (w * u) % m ≡ 1 → z ≡ (l * u) % m
divided z l w u m below e inv =
    let a : (z * ((w * u) % m)) % m ≡ (z * (w * u)) % m = mul-mod_second z (w * u) m in
    let b : z * (w * u) ≡ z * w * u = omega arith in
    let c : ((z * w) % m * u) % m ≡ (z * w * u) % m = mul-mod_first (z * w) u m in
    let d : (l % m * u) % m ≡ (l * u) % m = mul-mod_first l u m in
    let g : z * 1 ≡ z = omega arith in
    let f : (z * ((w * u) % m)) % m ≡ z = rw (inv, g) (mod-eq_of_lt below) in
    cc

pub product_of : (z l r u m : ℕ) → z ≡ (l * r * u) % m → (z * u) % m ≡ ((l * u) % m * ((r * u) % m)) % m
product_of z l r u m e =
    let a : ((l * r * u) % m * u) % m ≡ (l * r * u * u) % m = mul-mod_first (l * r * u) u m in
    let b : l * r * u * u ≡ l * u * (r * u) = omega arith in
    let d : (l * u * (r * u)) % m ≡ ((l * u) % m * ((r * u) % m)) % m = mul-mod (l * u) (r * u) m in
    cc

pub times_in : (z l r : ℕ) → z ≡ (l * r * unit) % prime → (z * unit) % prime ≡ times ((l * unit) % prime) ((r * unit) % prime)
unfolding times
times_in z l r e = product_of z l r unit prime e

pub plus_in : (z l r : ℕ) → z ≡ (l + r) % prime → (z * unit) % prime ≡ plus ((l * unit) % prime) ((r * unit) % prime)
unfolding plus
plus_in z l r e = omega arith

pub minus_in : (z l r : ℕ) → r < prime → z ≡ (l + (prime - r)) % prime → (z * unit) % prime ≡ minus ((l * unit) % prime) ((r * unit) % prime)
unfolding minus
minus_in z l r h e = omega arith

pub prime_words : number (0xffff_ffff_ffff_ffff ∷ 0xffff_ffff ∷ 0 ∷ 0xffff_ffff_0000_0001 ∷ []) ≡ prime
unfolding number
prime_words = refl

pub enter_words : number (3 ∷ 0xffff_fffb_ffff_ffff ∷ 0xffff_ffff_ffff_fffe ∷ 0x0000_0004_ffff_fffd ∷ []) ≡ 0x4fffffffdfffffffffffffffefffffffbffffffff0000000000000003
unfolding number
enter_words = refl

pub one_words : number (1 ∷ 0 ∷ 0 ∷ 0 ∷ []) ≡ 1
unfolding number
one_words = refl

pub prime_unit : (weight 4 * unit) % prime ≡ 1
unfolding weight
prime_unit = refl

pub prime_modulus : IsModulus (0xffff_ffff_ffff_ffff ∷ 0xffff_ffff ∷ 0 ∷ 0xffff_ffff_0000_0001 ∷ []) 1
unfolding number
prime_modulus = record { some = omega arith; odd = refl; inverse = refl }

pub entered : (z w : ℕ) → z ≡ (0x4fffffffdfffffffffffffffefffffffbffffffff0000000000000003 * w * unit) % prime → (z * unit) % prime ≡ w % prime
entered z w e = omega arith

pub left_form : (z l : ℕ) → z ≡ (l * 1 * unit) % prime → z ≡ (l * unit) % prime
left_form z l e = omega arith

pub none_borrowed : (w t r m b : ℕ) → t + r ≡ m + w * b → t < w → r ≤ m → t + r ≡ m
none_borrowed w t r m zero e f h = omega arith
none_borrowed w t r m (suc b) e f h = absurd (let g : w * suc b ≡ w + w * b = omega arith in omega arith)

pub complement_below : (a b c d l m r h w : ℕ) → a + w * h ≡ d + 1 * l → d + r ≡ m → l < m → r < m → a + w * h < 2 * m
complement_below a b c d l m r h w e f g k = omega arith

pub complement_sum : (x l m r d : ℕ) → x ≡ (d + 1 * l) % m → d + r ≡ m → x ≡ (l + (m - r)) % m
complement_sum x l m r d e f = let g : d + 1 * l ≡ l + (m - r) = omega arith in rw (e, g) refl
