-- A number modulo the order by its bytes, and by the bits of each, the highest first.
use Rattle.std.proofs.Common.{◌≡◌, ℕ, suc, ◌+◌, ◌-◌, ◌*◌, ◌/◌, ◌%◌, ◌^◌, ◌<◌, List, length, get_or, drop, refl, sym, ap, subst, arith, add-one, drop-cons, pow-suc}
use Rattle.std.proofs.Math.Seq.{drop-length}
use Rattle.std.proofs.lemmas.Nat.{shr-shr}
use Rattle.tough_ed25519.specs.Bytes.{bytes_number}
use Rattle.tough_ed25519.specs.Order.{order}

number_at : (bs : List ℕ) (i : ℕ) → i < length bs → bytes_number (drop i bs) ≡ get_or bs i 0 + 256 * bytes_number (drop (suc i) bs)
unfolding bytes_number
number_at bs i h = rw (drop-cons bs i 0) refl

-- one byte more from the end
pub number_more : (bs : List ℕ) (k : ℕ) → k < length bs → bytes_number (drop (length bs - (k + 1)) bs) ≡ 256 * bytes_number (drop (length bs - k) bs) + get_or bs (length bs - 1 - k) 0
number_more bs k h =
    let e : suc (length bs - (k + 1)) ≡ length bs - k = omega arith in
    let f : length bs - (k + 1) ≡ length bs - 1 - k = omega arith in
    let n = number_at bs (length bs - (k + 1)) (omega arith) in
    let m : bytes_number (drop (length bs - (k + 1)) bs) ≡ get_or bs (length bs - 1 - k) 0 + 256 * bytes_number (drop (length bs - k) bs) = subst (λ (j : ℕ). bytes_number (drop (length bs - (k + 1)) bs) ≡ get_or bs j 0 + 256 * bytes_number (drop (length bs - k) bs)) f (subst (λ (j : ℕ). bytes_number (drop (length bs - (k + 1)) bs) ≡ get_or bs (length bs - (k + 1)) 0 + 256 * bytes_number (drop j bs)) e n) in
    omega (arith, m)

pub number_none : (bs : List ℕ) → 0 ≡ bytes_number (drop (length bs - 0) bs)
unfolding bytes_number
number_none bs = let e : length bs ≡ length bs - 0 = omega arith in subst (λ (k : ℕ). 0 ≡ bytes_number (drop k bs)) e (ap bytes_number (sym (drop-length bs)))

pub reduced_more : (x n b m : ℕ) → x ≡ n % order → m ≡ 256 * n + b → (256 * x + b) % order ≡ m % order
reduced_more x n b m e f = omega arith

twice_reduced : (x b : ℕ) → (2 * (x % order) + b) % order ≡ (2 * x + b) % order
twice_reduced x b = omega arith

bit_more : (b w : ℕ) → 2 * (w + b / 2) + b % 2 ≡ 2 * w + b
bit_more b w = omega arith

-- one bit more of a byte
pub byte_more : (k w b x : ℕ) → k < 8 → x ≡ (2 ^ k * w + b / 2 ^ (8 - k)) % order → (2 * x + b / 2 ^ (7 - k) % 2) % order ≡ (2 ^ (k + 1) * w + b / 2 ^ (8 - (k + 1))) % order
byte_more k w b x h e =
    let f : 8 - k ≡ 7 - k + 1 = omega arith in
    let g : 8 - (k + 1) ≡ 7 - k = omega arith in
    let d : b / 2 ^ (7 - k + 1) ≡ b / 2 ^ (7 - k) / 2 = sym (shr-shr b (7 - k) 1) in
    let s : 2 * (2 ^ k * w) ≡ 2 ^ (k + 1) * w = rw (add-one, pow-suc) (omega arith) in
    rw (e, f, d, g, twice_reduced (2 ^ k * w + b / 2 ^ (7 - k) / 2) (b / 2 ^ (7 - k) % 2), bit_more (b / 2 ^ (7 - k)) (2 ^ k * w), s) refl
