-- Forms: numbers times 2^64 for each word, modulo an odd number.
use Rattle.std.proofs.Common.{◌≡◌, cond, eqb, ℕ, zero, suc, ◌+◌, ◌-◌, ◌*◌, ◌/◌, ◌%◌, ◌^◌, ◌<◌, ◌≤◌, List, ◌∷◌, length, get_or, set, replicate, refl, sym, ap, ◌∙◌, subst, arith, ⊎_elim, add-one, pow-suc}
use Rattle.std.proofs.Math.Nat.{mod-eq_of_lt, mod-mod, add-mul-mod_self_left, div-add-mod, mul_assoc, mul_comm, pow-zero, div-eq_of_lt-le}
use Rattle.std.proofs.lemmas.Nat.{mul-mod, mul-mod_first, pow-add, shr-shr, leading_top}
use Rattle.std.proofs.lemmas.List.{set_split, take-replicate, drop-replicate, length-replicate}
use Rattle.std.specs.Int.Count.{count_leading_zeros}
use Rattle.std.proofs.lemmas.Bool.{cases_lt}
use Rattle.tough_modular.specs.Number.{number, weight}
use Rattle.tough_modular.proofs.Numbers.{weight_none, weight_more, number-append}
use Rattle.tough_modular.proofs.Products.{number-replicate, number_low}

-- what is halved on both sides, where the left quotient is not less
halved : (a b h p q : ℕ) → 2 * a + (2 * h + 1) * q ≡ 2 * b + (2 * h + 1) * p → q ≤ p → a ≡ b + (2 * h + 1) * ((p - q) / 2)
halved a b h p q e l =
    let d : ℕ = (p - q) / 2 in
    let e' : 2 * a + (2 * (h * q) + q) ≡ 2 * b + (2 * (h * p) + p) = omega arith in
    let f : p ≡ q + 2 * d = parity a b (h * q) (h * p) p q e' l in
    let g : h * p ≡ h * q + 2 * (h * d) = omega (arith, ap (λ (n : ℕ). h * n) f) in
    omega arith
  where
    parity : (a b x y p q : ℕ) → 2 * a + (2 * x + q) ≡ 2 * b + (2 * y + p) → q ≤ p → p ≡ q + 2 * ((p - q) / 2)
    parity a b x y p q e l = omega arith

same_rest : (a b k m : ℕ) → a ≡ b + m * k → a % m ≡ b % m
same_rest a b k m e = rw e (add-mul-mod_self_left b m k)

cancel_by : (a b m h p q : ℕ) → m ≡ 2 * h + 1 → 2 * a + m * q ≡ 2 * b + m * p → a % m ≡ b % m
cancel_by a b m h p q f g =
    let g' : 2 * a + (2 * h + 1) * q ≡ 2 * b + (2 * h + 1) * p = rw f at g in
    ⊎_elim
    (let k : p < q → a % m ≡ b % m = λ l. sym (same_rest b a ((q - p) / 2) m (subst (λ (n : ℕ). b ≡ a + n * ((q - p) / 2)) (sym f) (halved b a h q p (sym g') (omega arith)))) in k)
    (let k : q ≤ p → a % m ≡ b % m = λ l. same_rest a b ((p - q) / 2) m (subst (λ (n : ℕ). a ≡ b + n * ((p - q) / 2)) (sym f) (halved a b h p q g' l)) in k)
    (cases_lt p q)

cancel_two : (a b m : ℕ) → m % 2 ≡ 1 → (2 * a) % m ≡ (2 * b) % m → a % m ≡ b % m
cancel_two a b m odd e =
    let x : m * ((2 * a) / m) + (2 * a) % m ≡ 2 * a = div-add-mod (2 * a) m in
    let y : m * ((2 * b) / m) + (2 * b) % m ≡ 2 * b = div-add-mod (2 * b) m in
    cancel_by a b m (m / 2) ((2 * a) / m) ((2 * b) / m) (omega arith) (omega arith)

cancel_power : (k a b m : ℕ) → m % 2 ≡ 1 → (2 ^ k * a) % m ≡ (2 ^ k * b) % m → a % m ≡ b % m
cancel_power zero a b m odd e =
    let f : 2 ^ 0 * a ≡ a = omega arith in
    let g : 2 ^ 0 * b ≡ b = omega arith in
    rw (f, g) at e
cancel_power (suc k) a b m odd e =
    let f : 2 ^ suc k * a ≡ 2 * (2 ^ k * a) = rw pow-suc (omega arith) in
    let g : 2 ^ suc k * b ≡ 2 * (2 ^ k * b) = rw pow-suc (omega arith) in
    cancel_power k a b m odd (cancel_two (2 ^ k * a) (2 ^ k * b) m odd (rw (f, g) at e))

pub cancel : (z t n m : ℕ) → m % 2 ≡ 1 → z < m → (z * weight n) % m ≡ (t * weight n) % m → z ≡ t % m
unfolding weight
cancel z t n m odd below e =
    sym (mod-eq_of_lt below) ∙ cancel_power (64 * n) z t m odd (rw (mul_comm (2 ^ (64 * n)) z, mul_comm (2 ^ (64 * n)) t) e)

-- the form of a product
pub form_product : (z a b u v n m : ℕ) → m % 2 ≡ 1 → z < m → (z * weight n) % m ≡ (a * b) % m → a ≡ (u * weight n) % m → b ≡ (v * weight n) % m → z ≡ (u * v * weight n) % m
form_product z a b u v n m odd below e f g =
    let w : ℕ = weight n in
    let p : (a * b) % m ≡ (u * w * (v * w)) % m = rw (f, g) (sym (mul-mod (u * w) (v * w) m)) in
    let q : u * w * (v * w) ≡ u * v * w * w = omega arith in
    cancel z (u * v * w) n m odd below (e ∙ (p ∙ ap (λ (x : ℕ). x % m) q))

-- the form of a number, by the form of the weight
pub form_entered : (z a x n m : ℕ) → m % 2 ≡ 1 → z < m → (z * weight n) % m ≡ (a * x) % m → a ≡ (weight n * weight n) % m → z ≡ (x * weight n) % m
form_entered z a x n m odd below e f =
    let w : ℕ = weight n in
    let p : (a * x) % m ≡ (w * w * x) % m = rw f (mul-mod_first (w * w) x m) in
    let q : w * w * x ≡ x * w * w = omega arith in
    cancel z (x * w) n m odd below (e ∙ (p ∙ ap (λ (y : ℕ). y % m) q))

-- the number of a form
pub form_left : (z a x v n m : ℕ) → m % 2 ≡ 1 → z < m → (z * weight n) % m ≡ (a * x) % m → x ≡ weight 0 → a ≡ (v * weight n) % m → z ≡ v % m
form_left z a x v n m odd below e f g =
    let p : (a * x) % m ≡ (v * weight n) % m = rw (f, weight_none, one a, g) (mod-mod (v * weight n) m) in
    cancel z v n m odd below (e ∙ p)
  where
    one : (a : ℕ) → a * 1 ≡ a
    one a = omega arith

-- twice the weight of the highest word, so often
pub doubled : (z a n i j m : ℕ) → 0 < n → i ≡ n → j ≡ n → a ≡ weight (i - 1) → z ≡ (2 ^ (j + 64) * a) % m → z ≡ (2 ^ (n * 2 ^ 0) * weight n) % m
doubled z a n i j m h l r e f =
    let k : n - 1 + 1 ≡ n = omega arith in
    let w : weight n ≡ 2 ^ 64 * weight (n - 1) = rw k at (weight_more (n - 1)) in
    let o : n * 2 ^ 0 ≡ n = omega arith in
    rw (f, e, l, r, o, w, pow-add 2 n 64) (ap (λ (x : ℕ). x % m) (mul_assoc (2 ^ n) (2 ^ 64) (weight (n - 1))))

-- a square doubles the exponent
pub squared_more : (n k : ℕ) → 2 ^ (n * 2 ^ k) * 2 ^ (n * 2 ^ k) ≡ 2 ^ (n * 2 ^ (k + 1))
squared_more n k =
    let e : n * 2 ^ (k + 1) ≡ n * 2 ^ k + n * 2 ^ k = rw (add-one, pow-suc) (omega arith) in
    rw e (sym (pow-add 2 (n * 2 ^ k) (n * 2 ^ k)))

pub squared_all : (n k : ℕ) → k ≡ 6 → 2 ^ (n * 2 ^ k) ≡ weight n
unfolding weight
squared_all n k e = rw e (ap (λ (i : ℕ). 2 ^ i) (mul_comm n 64))

-- one bit more of the exponent
power_bit : (x q r : ℕ) → r < 2 → x ^ q * x ^ q * cond (eqb r 1) x 1 ≡ x ^ (2 * q + r)
power_bit x q zero h = let e : 2 * q + 0 ≡ q + q = omega arith in rw (e, pow-add x q q) (omega arith)
power_bit x q (suc zero) h = let e : 2 * q + 1 ≡ suc (q + q) = omega arith in rw (e, pow-suc, pow-add x q q) refl
power_bit x q (suc (suc r)) h = absurd (omega arith)

pub power_more : (x e i j k : ℕ) → i ≡ j + 1 → k ≡ j → x ^ (e / 2 ^ i) * x ^ (e / 2 ^ i) * cond (eqb (e / 2 ^ j % 2) 1) x 1 ≡ x ^ (e / 2 ^ k)
power_more x e i j k h l =
    let d : e / 2 ^ i ≡ e / 2 ^ j / 2 = rw h (sym (shr-shr e j 1)) in
    let s : 2 * (e / 2 ^ j / 2) + e / 2 ^ j % 2 ≡ e / 2 ^ j = omega arith in
    rw (l, d) (power_bit x (e / 2 ^ j / 2) (e / 2 ^ j % 2) (omega arith) ∙ ap (λ (k : ℕ). x ^ k) s)

pub power_one : (x e i : ℕ) → e / 2 ^ i ≡ 1 → x ^ (e / 2 ^ (i - 0)) ≡ x
power_one x e i h = let z : i - 0 ≡ i = omega arith in rw (z, h) (one x)
  where
    one : (x : ℕ) → x ^ 1 ≡ x
    one x = pow-suc x 0 ∙ rw pow-zero (omega arith)

pub power_all : (x e i : ℕ) → i ≡ 0 → x ^ (e / 2 ^ i) ≡ x ^ e
power_all x e i h = rw h (ap (λ (k : ℕ). x ^ k) (whole e))
  where
    whole : (e : ℕ) → e / 2 ^ 0 ≡ e
    whole e = omega arith

pub highest : (e : ℕ) → 0 < e → e < 2 ^ 64 → e / 2 ^ (63 - count_leading_zeros 64 e) ≡ 1
highest e h l =
    let t = leading_top 64 e h l in
    let j : 63 - count_leading_zeros 64 e ≡ t.0 = omega (arith, t.1) in
    let u : e < 2 * 2 ^ t.0 = let d : 2 ^ suc t.0 ≡ 2 * 2 ^ t.0 = rw pow-suc (omega arith) in rw d at t.3 in
    let m : 1 * 2 ^ t.0 ≤ e = omega (arith, t.2) in
    rw j (div-eq_of_lt-le {k = 1} (2 ^ t.0) m u)

one_and_none : (k : ℕ) → number (1 ∷ replicate k 0) ≡ 1
unfolding number
one_and_none k = rw (number-replicate k) refl

one_in : (n i z : ℕ) → z ≡ 0 → i < n → number (set (replicate n z) i 1) ≡ weight i
one_in n i z e h =
    let l : i < length (replicate n z) = rw (length-replicate n z) h in
    let a : number (replicate i z) ≡ 0 = rw e (number-replicate i) in
    let b : number (1 ∷ replicate (n - suc i) z) ≡ 1 = rw e (one_and_none (n - suc i)) in
    rw (set_split (replicate n z) i 1 l, take-replicate i n z (omega arith), drop-replicate (suc i) n z, number-append (replicate i z) (1 ∷ replicate (n - suc i) z), a, length-replicate i z, b) (omega arith)

pub one_at : (xs : List ℕ) (n i : ℕ) → xs ≡ replicate n 0 → i < n → number (set xs i 1) ≡ weight i
one_at xs n i e h = rw e (one_in n i 0 refl h)

pub low_odd : (xs : List ℕ) → 0 < length xs → number xs % 2 ≡ 1 → get_or xs 0 0 % 2 ≡ 1
low_odd xs h e = let l = number_low xs h in omega arith
