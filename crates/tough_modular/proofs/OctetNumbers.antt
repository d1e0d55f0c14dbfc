-- Numbers by their bytes, the lowest at the end, and by words of eight.
use Rattle.std.proofs.Common.{◌≡◌, false, ⊎_elim, add-zero, nat_lt, ℕ, zero, suc, ◌+◌, ◌-◌, ◌*◌, ◌/◌, ◌%◌, ◌^◌, ◌<◌, ◌≤◌, List, [], ◌∷◌, length, get_or, take, drop, set, refl, sym, ap, ◌∙◌, arith, Fits, w64, add-one, drop-cons}
use Rattle.std.specs.Int.{to_le_bytes}
use Rattle.std.proofs.Math.Nat.{add-mul-div_left, div-div-eq-div-mul, div-eq_of_lt, pow-le-pow_right}
use Rattle.std.proofs.lemmas.Nat.{pow-add}
use Rattle.std.proofs.lemmas.List.{drop_all, length-drop, take-append-drop, length-take-le}
use Rattle.std.proofs.lemmas.Bool.{lt-ltb, cases_lt}
use Rattle.std.proofs.lemmas.Bool.Decides.{nat_tests}
use Rattle.std.proofs.lemmas.List.{ext_get_or, get_or-drop}
use Rattle.tough_modular.specs.Number.{number, weight}
use Rattle.tough_modular.proofs.Numbers.{number_none, number_written, number_all, number-append, number_below, all_below, weight_none, weight_more}
use Rattle.tough_modular.proofs.Products.{number_low}
use Rattle.tough_modular.specs.Octets.{octets_number, number_octets}
use Rattle.tough_modular.specs.Places.{low_byte}

pub weight_bytes : (i : ℕ) → weight i ≡ 256 ^ (8 * i)
weight_bytes zero = weight_none
weight_bytes (suc i) =
    let e : 8 * suc i ≡ 8 + 8 * i = omega arith in
    rw (e, pow-add 256 8 (8 * i), ← add-one i, weight_more i, weight_bytes i) refl

pub octets_number_none : octets_number [] ≡ 0
unfolding octets_number
octets_number_none = refl

pub octets_number_first : (b : ℕ) (bs : List ℕ) → octets_number (b ∷ bs) ≡ b * 256 ^ length bs + octets_number bs
unfolding octets_number
octets_number_first b bs = refl

low_byte-is : (bs : List ℕ) (p : ℕ) → p < length bs → low_byte bs p ≡ get_or bs (length bs - 1 - p) 0
unfolding low_byte
low_byte-is bs p h = rw (lt-ltb p (length bs) h) refl

low_byte-past : (bs : List ℕ) (p : ℕ) → length bs ≤ p → low_byte bs p ≡ 0
unfolding low_byte
low_byte-past bs p h = let e : nat_lt p (length bs) ≡ false = grind (arith, nat_tests) in rw e refl

-- the lowest bytes, one more
low_more : (bs : List ℕ) (p q : ℕ) → q ≡ p + 1 → octets_number (drop (length bs - q) bs) ≡ octets_number (drop (length bs - p) bs) + 256 ^ p * low_byte bs p
low_more bs p q e = ⊎_elim (within bs p q e) (past bs p q e) (cases_lt p (length bs))
  where
    within : (bs : List ℕ) (p q : ℕ) → q ≡ p + 1 → p < length bs → octets_number (drop (length bs - q) bs) ≡ octets_number (drop (length bs - p) bs) + 256 ^ p * low_byte bs p
    within bs p q e h =
        let i : ℕ = length bs - 1 - p in
        let j : length bs - q ≡ i = omega arith in
        let k : length bs - p ≡ suc i = omega arith in
        let l : length (drop (suc i) bs) ≡ p = omega (arith, length-drop (suc i) bs) in
        let m : i < length bs = omega arith in
        rw (j, k, drop-cons bs i 0, octets_number_first (get_or bs i 0) (drop (suc i) bs), l, low_byte-is bs p h) (omega arith)

    past : (bs : List ℕ) (p q : ℕ) → q ≡ p + 1 → length bs ≤ p → octets_number (drop (length bs - q) bs) ≡ octets_number (drop (length bs - p) bs) + 256 ^ p * low_byte bs p
    past bs p q e h =
        let j : length bs - q ≡ 0 = omega arith in
        let k : length bs - p ≡ 0 = omega arith in
        rw (j, k, low_byte-past bs p h) (omega arith)

eight_words : (P l0 l1 l2 l3 l4 l5 l6 l7 l8 b0 b1 b2 b3 b4 b5 b6 b7 : ℕ)
    → l1 ≡ l0 + P * b0 → l2 ≡ l1 + P * 256 * b1 → l3 ≡ l2 + P * 256 ^ 2 * b2 → l4 ≡ l3 + P * 256 ^ 3 * b3
    → l5 ≡ l4 + P * 256 ^ 4 * b4 → l6 ≡ l5 + P * 256 ^ 5 * b5 → l7 ≡ l6 + P * 256 ^ 6 * b6 → l8 ≡ l7 + P * 256 ^ 7 * b7
    → l8 ≡ l0 + P * (b0 + 256 * (b1 + 256 * (b2 + 256 * (b3 + 256 * (b4 + 256 * (b5 + 256 * (b6 + 256 * b7)))))))
eight_words P l0 l1 l2 l3 l4 l5 l6 l7 l8 b0 b1 b2 b3 b4 b5 b6 b7 e1 e2 e3 e4 e5 e6 e7 e8 = omega arith

-- the lowest bytes, a word of them more
pub word_more : (bs : List ℕ) (p w q : ℕ) → q ≡ p + 8
    → w ≡ low_byte bs p + 256 * (low_byte bs (p + 1) + 256 * (low_byte bs (p + 2) + 256 * (low_byte bs (p + 3) + 256 * (low_byte bs (p + 4) + 256 * (low_byte bs (p + 5) + 256 * (low_byte bs (p + 6) + 256 * low_byte bs (p + 7)))))))
    → octets_number (drop (length bs - q) bs) ≡ octets_number (drop (length bs - p) bs) + 256 ^ p * w
word_more bs p w q e f =
    let g1 : 256 ^ (p + 1) ≡ 256 ^ p * 256 = pow-add 256 p 1 in
    let g2 : 256 ^ (p + 2) ≡ 256 ^ p * 256 ^ 2 = pow-add 256 p 2 in
    let g3 : 256 ^ (p + 3) ≡ 256 ^ p * 256 ^ 3 = pow-add 256 p 3 in
    let g4 : 256 ^ (p + 4) ≡ 256 ^ p * 256 ^ 4 = pow-add 256 p 4 in
    let g5 : 256 ^ (p + 5) ≡ 256 ^ p * 256 ^ 5 = pow-add 256 p 5 in
    let g6 : 256 ^ (p + 6) ≡ 256 ^ p * 256 ^ 6 = pow-add 256 p 6 in
    let g7 : 256 ^ (p + 7) ≡ 256 ^ p * 256 ^ 7 = pow-add 256 p 7 in
    rw (f, e)
    (eight_words (256 ^ p) _ _ _ _ _ _ _ _ _ _ _ _ _ _ _ _ _ (low_more bs p (p + 1) refl) (rw g1 at (low_more bs (p + 1) (p + 2) (omega arith))) (rw g2 at (low_more bs (p + 2) (p + 3) (omega arith)))
    (rw g3 at (low_more bs (p + 3) (p + 4) (omega arith))) (rw g4 at (low_more bs (p + 4) (p + 5) (omega arith))) (rw g5 at (low_more bs (p + 5) (p + 6) (omega arith)))
    (rw g6 at (low_more bs (p + 6) (p + 7) (omega arith))) (rw g7 at (low_more bs (p + 7) (p + 8) (omega arith))))

pub set_none : (bs : List ℕ) → number [] ≡ octets_number (drop (length bs - 0) bs)
set_none bs = rw (drop_all (length bs - 0) bs (omega arith), octets_number_none) number_none

pub set_more : (ws bs : List ℕ) (i w : ℕ) → i < length ws → number (take i ws) ≡ octets_number (drop (length bs - 8 * i) bs)
    → w ≡ low_byte bs (8 * i) + 256 * (low_byte bs (8 * i + 1) + 256 * (low_byte bs (8 * i + 2) + 256 * (low_byte bs (8 * i + 3) + 256 * (low_byte bs (8 * i + 4) + 256 * (low_byte bs (8 * i + 5) + 256 * (low_byte bs (8 * i + 6) + 256 * low_byte bs (8 * i + 7)))))))
    → number (take (i + 1) (set ws i w)) ≡ octets_number (drop (length bs - 8 * (i + 1)) bs)
set_more ws bs i w h e f = number_written ws i w h ∙ (rw (e, weight_bytes i) (sym (word_more bs (8 * i) w (8 * (i + 1)) (omega arith) f)))

pub set_all : (ws bs : List ℕ) (i : ℕ) → length ws ≤ i → length bs ≤ 8 * length ws → number (take i ws) ≡ octets_number (drop (length bs - 8 * i) bs) → number ws ≡ octets_number bs
set_all ws bs i h k e =
    let z : length bs - 8 * i ≡ 0 = omega arith in
    sym (number_all ws i h) ∙ (rw z at e)

-- a byte of the lowest word
byte_in : (w n r : ℕ) → r < 8 → get_or (to_le_bytes w64 w) r 0 ≡ (w + 2 ^ 64 * n) / 256 ^ r % 256
byte_in w n zero h = omega arith
byte_in w n (suc zero) h = omega arith
byte_in w n (suc (suc zero)) h = omega arith
byte_in w n (suc (suc (suc zero))) h = omega arith
byte_in w n (suc (suc (suc (suc zero)))) h = omega arith
byte_in w n (suc (suc (suc (suc (suc zero))))) h = omega arith
byte_in w n (suc (suc (suc (suc (suc (suc zero)))))) h = omega arith
byte_in w n (suc (suc (suc (suc (suc (suc (suc zero))))))) h = omega arith
byte_in w n (suc (suc (suc (suc (suc (suc (suc (suc r)))))))) h = absurd (omega arith)

number_drop : (xs : List ℕ) (i : ℕ) → ((k : ℕ) → Fits w64 (get_or xs k 0)) → i ≤ length xs → number xs / weight i ≡ number (drop i xs)
number_drop xs i f h =
    let l : number (take i xs) < weight i = number_below xs f i h in
    let n : length (take i xs) ≡ i = length-take-le i xs h in
    let e : number xs ≡ number (take i xs) + weight i * number (drop i xs) = rw (take-append-drop i xs, n) at (number-append (take i xs) (drop i xs)) in
    let p : 0 < weight i = omega arith in
    rw (e, add-mul-div_left (number (take i xs)) (number (drop i xs)) p, div-eq_of_lt l) (omega arith)

pub byte_at : (xs : List ℕ) (p : ℕ) → ((k : ℕ) → Fits w64 (get_or xs k 0)) → p / 8 < length xs → get_or (to_le_bytes w64 (get_or xs (p / 8) 0)) (p % 8) 0 ≡ number xs / 256 ^ p % 256
byte_at xs p f h =
    let i : ℕ = p / 8 in
    let r : ℕ = p % 8 in
    let e : p ≡ 8 * i + r = omega arith in
    let d : 256 ^ p ≡ weight i * 256 ^ r = ap (λ (k : ℕ). 256 ^ k) e ∙ (pow-add 256 (8 * i) r ∙ ap (λ (k : ℕ). k * 256 ^ r) (sym (weight_bytes i))) in
    let n : number (drop i xs) ≡ get_or xs i 0 + 2 ^ 64 * number (drop 1 (drop i xs)) = low i xs h in
    let q : number xs / 256 ^ p ≡ (get_or xs i 0 + 2 ^ 64 * number (drop 1 (drop i xs))) / 256 ^ r =
    ap (λ (k : ℕ). number xs / k) d ∙ (sym (div-div-eq-div-mul (number xs) (weight i) (256 ^ r)) ∙ ap (λ (k : ℕ). k / 256 ^ r) (number_drop xs i f (omega arith) ∙ n)) in
    byte_in (get_or xs i 0) (number (drop 1 (drop i xs))) r (omega arith) ∙ ap (λ (k : ℕ). k % 256) (sym q)
  where
    low : (i : ℕ) (xs : List ℕ) → i < length xs → number (drop i xs) ≡ get_or xs i 0 + 2 ^ 64 * number (drop 1 (drop i xs))
    low i xs h =
        let l : 0 < length (drop i xs) = omega (arith, length-drop i xs) in
        let g : get_or (drop i xs) 0 0 ≡ get_or xs i 0 = get_or-drop i xs 0 0 ∙ ap (λ (k : ℕ). get_or xs k 0) (add-zero i) in
        rw g at (number_low (drop i xs) l)

pub byte_past : (xs : List ℕ) (p : ℕ) → ((k : ℕ) → Fits w64 (get_or xs k 0)) → length xs ≤ p / 8 → 0 ≡ number xs / 256 ^ p % 256
byte_past xs p f h =
    let l : number xs < 256 ^ (8 * length xs) = rw (weight_bytes (length xs)) at (all_below xs f) in
    let m : 256 ^ (8 * length xs) ≤ 256 ^ p = pow-le-pow_right {n = 256} (omega arith) {i = 8 * length xs} {j = p} (omega arith) in
    let s : number xs < 256 ^ p = omega arith in
    rw (div-eq_of_lt s) refl

get_number_octets : (n len k : ℕ) → k < len → get_or (number_octets n len) k 0 ≡ n / 256 ^ (len - 1 - k) % 256
unfolding number_octets
get_number_octets n zero k h = absurd (omega arith)
get_number_octets n (suc len) zero h = let e : suc len - 1 - 0 ≡ len = omega arith in rw e refl
get_number_octets n (suc len) (suc k) h = let e : suc len - 1 - suc k ≡ len - 1 - k = omega arith in rw e (get_number_octets n len k (omega arith))

pub length-number_octets : (n len : ℕ) → length (number_octets n len) ≡ len
unfolding number_octets
length-number_octets n zero = refl
length-number_octets n (suc len) = ap suc (length-number_octets n len)

pub bytes_all : (bs : List ℕ) (n i len : ℕ) → length bs ≡ len → len ≤ i → ((k : ℕ) → k < i → get_or bs k 0 ≡ n / 256 ^ (len - 1 - k) % 256) → bs ≡ number_octets n len
bytes_all bs n i len e h f =
    ext_get_or 0 bs (number_octets n len) (e ∙ sym (length-number_octets n len)) (λ k l. f k (omega arith) ∙ sym (get_number_octets n len k (omega arith)))
