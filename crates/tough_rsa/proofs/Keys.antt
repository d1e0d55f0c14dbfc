-- What is known of a key's modulus, and of what fits.
use Rattle.std.proofs.Common.{◌≡◌, ◌≢◌, ℕ, zero, suc, ◌+◌, ◌-◌, ◌*◌, ◌/◌, ◌%◌, ◌^◌, ◌<◌, ◌≤◌, Bool, true, false, ◌&&◌, nat_eq, nat_lt, nat_le, List, [], ◌∷◌, length, get_or, refl, sym, ap, ◌∙◌, arith, ⊎_elim, Fits, w8, pow-suc}
use Rattle.std.proofs.Math.Nat.{pow-le-pow_right, lt-mul-div-succ, mul-le-mul_right, div-eq_of_lt}
use Rattle.std.proofs.lemmas.Bool.{cases_lt, lt-ltb}
use Rattle.std.proofs.lemmas.Nat.{pow-add, pow_pos, div_below, leading_top}
use Rattle.std.proofs.lemmas.Bool.Decides.{nat_tests}
use Rattle.std.specs.Int.Count.{count_leading_zeros}
use Rattle.tough_modular.specs.Number.{weight}
use Rattle.tough_modular.specs.Octets.{octets_number, number_octets}
use Rattle.tough_rsa.specs.Pss.{emsa_pss_verify}
use Rattle.tough_rsa.specs.Rsa.{bits_of, bytes_for, is_modulus, is_exponent, is_encoding, is_root, rsavp1}
use Rattle.tough_modular.proofs.OctetNumbers.{weight_bytes, octets_number_none, octets_number_first}

pow_bytes : (k : ℕ) → 256 ^ k ≡ 2 ^ (8 * k)
pow_bytes zero = refl
pow_bytes (suc k) =
    let e : 8 * suc k ≡ 8 + 8 * k = omega arith in
    rw (e, pow-add 2 8 (8 * k), pow-suc, pow_bytes k) (omega arith)

-- a number of few bits whose next byte is zero has no more bytes
pub fits_in : (m k bits : ℕ) → bits ≤ 8 * k → m < 2 ^ (bits + 1) → m / 256 ^ k % 256 ≡ 0 → m < 256 ^ k
fits_in m k bits l h e =
    let p : 2 ^ (bits + 1) ≤ 2 ^ (8 + 8 * k) = pow-le-pow_right {n = 2} (omega arith) {i = bits + 1} {j = 8 + 8 * k} (omega arith) in
    let q : 2 ^ (8 + 8 * k) ≡ 256 * 256 ^ k = pow-add 2 8 (8 * k) ∙ ap (λ (n : ℕ). 256 * n) (sym (pow_bytes k)) in
    let r : 0 < 256 ^ k = rw pow_bytes (pow_pos (8 * k)) in
    let d : m / 256 ^ k < 256 = div_below m (256 ^ k) 256 r (omega arith) in
    let z : m / 256 ^ k ≡ 0 = omega arith in
    let s : m < 256 ^ k * (m / 256 ^ k + 1) = lt-mul-div-succ m {b = 256 ^ k} r in
    let t : m < 256 ^ k * (0 + 1) = rw z at s in
    omega arith

-- and else it has more
pub too_large : (m k : ℕ) → m / 256 ^ k % 256 ≢ 0 → 256 ^ k ≤ m
too_large m k n = ⊎_elim (λ l. absurd (n (none m k l))) (λ l. l) (cases_lt m (256 ^ k))
  where
    none : (m k : ℕ) → m < 256 ^ k → m / 256 ^ k % 256 ≡ 0
    none m k l = rw (div-eq_of_lt l) refl

pub encoding_is : (message em : List ℕ) (m bits : ℕ) (r : Bool) → r ≡ emsa_pss_verify message em bits → em ≡ number_octets m (bytes_for bits) → m < 2 ^ (bits + 1) → m / 256 ^ bytes_for bits % 256 ≡ 0 → r ≡ is_encoding message m bits
unfolding is_encoding
encoding_is message em m bits r e f h z =
    let l : m < 256 ^ bytes_for bits = fits_in m (bytes_for bits) bits (omega arith) h z in
    rw (lt-ltb m (256 ^ bytes_for bits) l, ← f) e

pub no_encoding : (message : List ℕ) (m bits : ℕ) → m / 256 ^ bytes_for bits % 256 ≢ 0 → false ≡ is_encoding message m bits
unfolding is_encoding
no_encoding message m bits n =
    let l : 256 ^ bytes_for bits ≤ m = too_large m (bytes_for bits) n in
    let t : nat_lt m (256 ^ bytes_for bits) ≡ false = grind (arith, nat_tests) in
    rw t refl

-- the highest word is not zero, and neither is the rest
even_power : (k : ℕ) → 0 < k → 256 ^ k % 2 ≡ 0
even_power zero h = absurd (omega arith)
even_power (suc k) h = rw pow-suc (omega arith)

pub top_below : (k n w v : ℕ) → w ≡ (k + 7) / 8 → v ≡ w → 256 ≤ k → n % 2 ≡ 1 → 256 ^ (k - 1) ≤ n → weight (v - 1) < n
top_below k n w v e f l odd h =
    let a : 256 ^ (8 * (v - 1)) ≤ 256 ^ (k - 1) = pow-le-pow_right {n = 256} (omega arith) {i = 8 * (v - 1)} {j = k - 1} (omega arith) in
    let b : 256 ^ (k - 1) % 2 ≡ 0 = even_power (k - 1) (omega arith) in
    rw (weight_bytes (v - 1)) (omega arith)

octets_number_below : (bs : List ℕ) → ((i : ℕ) → Fits w8 (get_or bs i 0)) → octets_number bs < 256 ^ length bs
octets_number_below [] f = rw octets_number_none (omega arith)
octets_number_below (b ∷ bs) f =
    let h : b < 2 ^ 8 = (f 0).fits in
    let r : octets_number bs < 256 ^ length bs = octets_number_below bs (λ i. f (suc i)) in
    let m : b * 256 ^ length bs ≤ 255 * 256 ^ length bs = mul-le-mul_right (256 ^ length bs) (omega arith) in
    rw (octets_number_first b bs, pow-suc) (omega arith)

pub octets_number_least : (bs : List ℕ) → 0 < length bs → 0 < get_or bs 0 0 → 256 ^ (length bs - 1) ≤ octets_number bs
octets_number_least [] h l = absurd (omega arith)
octets_number_least (b ∷ bs) h l =
    let e : suc (length bs) - 1 ≡ length bs = omega arith in
    let m : 1 * 256 ^ length bs ≤ b * 256 ^ length bs = mul-le-mul_right (256 ^ length bs) l in
    rw (e, octets_number_first b bs) (omega arith)

-- a number is below 2 to its bits
pub octets_number_most : (bs : List ℕ) → ((i : ℕ) → Fits w8 (get_or bs i 0)) → 0 < length bs → 0 < get_or bs 0 0 → octets_number bs < 2 ^ bits_of bs
octets_number_most [] f h l = absurd (omega arith)
octets_number_most (b ∷ bs) f h l =
    let t = leading_top 8 b l (f 0).fits in
    let r : octets_number bs < 256 ^ length bs = octets_number_below bs (λ i. f (suc i)) in
    let e : 8 * suc (length bs) - count_leading_zeros 8 b ≡ suc t.0 + 8 * length bs = omega (arith, t.1) in
    let d : b + 1 ≤ 2 ^ suc t.0 = omega (arith, t.3) in
    let m : (b + 1) * 256 ^ length bs ≤ 2 ^ suc t.0 * 256 ^ length bs = mul-le-mul_right (256 ^ length bs) d in
    rw (e, pow-add 2 (suc t.0) (8 * length bs), ← pow_bytes (length bs), octets_number_first b bs) (omega arith)

-- the last byte says whether a number is odd
pub odd_last : (bs : List ℕ) → 0 < length bs → octets_number bs % 2 ≡ get_or bs (length bs - 1) 0 % 2
odd_last [] h = absurd (omega arith)
odd_last (b ∷ []) h = rw (octets_number_first b [], octets_number_none) (omega arith)
odd_last (b ∷ c ∷ bs) h =
    let e : suc (suc (length bs)) - 1 ≡ suc (length bs) = omega arith in
    let f : suc (length bs) - 1 ≡ length bs = omega arith in
    let p : 256 ^ suc (length bs) % 2 ≡ 0 = even_power (suc (length bs)) (omega arith) in
    let q : (b * 256 ^ suc (length bs) + octets_number (c ∷ bs)) % 2 ≡ octets_number (c ∷ bs) % 2 = even_times b (256 ^ suc (length bs)) (octets_number (c ∷ bs)) p in
    let i : octets_number (c ∷ bs) % 2 ≡ get_or (c ∷ bs) (length bs) 0 % 2 = rw f at (odd_last (c ∷ bs) (omega arith)) in
    rw (e, octets_number_first b (c ∷ bs)) (q ∙ i)
  where
    even_times : (b p x : ℕ) → p % 2 ≡ 0 → (b * p + x) % 2 ≡ x % 2
    even_times b p x e =
        let f : p ≡ 2 * (p / 2) = omega arith in
        let g : b * p ≡ 2 * (b * (p / 2)) = ap (λ (n : ℕ). b * n) f ∙ omega arith in
        omega arith

pub record ModulusFacts (n : List ℕ) : Type 0 where
  pub least : 256 ≤ length n
  pub most : length n ≤ 1024
  pub first : 0 < get_or n 0 0
  pub bits : 2048 ≤ bits_of n
  pub odd : get_or n (length n - 1) 0 % 2 ≡ 1

pub modulus_facts : (n : List ℕ) → is_modulus n ≡ true → ModulusFacts n
unfolding is_modulus
modulus_facts n e =
    let f = facts (length n) (get_or n 0 0) (bits_of n) (get_or n (length n - 1) 0 % 2) e in
    record { least = f.0; most = f.1; first = f.2; bits = f.3; odd = f.4 }
  where
    facts : (l f b o : ℕ) → (nat_le 256 l && nat_le l 1024 && nat_lt 0 f && nat_le 2048 b && nat_eq o 1) ≡ true → (256 ≤ l) × (l ≤ 1024) × (0 < f) × (2048 ≤ b) × (o ≡ 1)
    facts l f b o e = (grind (arith, nat_tests), grind (arith, nat_tests), grind (arith, nat_tests), grind (arith, nat_tests), grind (arith, nat_tests))

pub exponent_some : (e : ℕ) → is_exponent e ≡ true → 0 < e
unfolding is_exponent
exponent_some e h = some (nat_eq (e % 2) 1) e (nat_lt e (2 ^ 33)) h
  where
    some : (a : Bool) (e : ℕ) (b : Bool) → (a && nat_le 65537 e && b) ≡ true → 0 < e
    some a e b h = grind (arith, nat_tests)

pub not_root : (n : List ℕ) (e : ℕ) (message signature : List ℕ) (t : Bool) → t ≡ nat_lt (octets_number signature) (octets_number n) → t ≡ false → false ≡ is_root n e message signature
unfolding is_root
not_root n e message signature t f g = let h : nat_lt (octets_number signature) (octets_number n) ≡ false = sym f ∙ g in rw h refl

pub root_is : (n : List ℕ) (e : ℕ) (message signature : List ℕ) (t r : Bool) (m b : ℕ) → t ≡ nat_lt (octets_number signature) (octets_number n) → t ≡ true → m ≡ rsavp1 n e signature → b ≡ bits_of n → r ≡ is_encoding message m (b - 1) → r ≡ is_root n e message signature
unfolding is_root
root_is n e message signature t r m b f g h i j = let k : nat_lt (octets_number signature) (octets_number n) ≡ true = sym f ∙ g in rw (k, ← h, ← i) j

pub all_bits : (n : List ℕ) (b m : ℕ) → ModulusFacts n → ((i : ℕ) → Fits w8 (get_or n i 0)) → b ≡ bits_of n → m < octets_number n → m < 2 ^ (b - 1 + 1)
all_bits n b m f fits e h =
    let d : b - 1 + 1 ≡ bits_of n = omega (arith, f.bits) in
    let l : octets_number n < 2 ^ bits_of n = octets_number_most n fits (omega (arith, f.least)) f.first in
    rw d (omega arith)
