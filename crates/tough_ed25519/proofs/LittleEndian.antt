-- A number of 32 bytes, in four words of 8.
use Rattle.std.proofs.Common.{◌≡◌, ℕ, zero, suc, ◌+◌, ◌*◌, ◌/◌, ◌%◌, ◌^◌, ◌<◌, ◌≤◌, List, [], ◌∷◌, ◌++◌, length, take, drop, refl, ap, ◌∙◌, subst, arith, length-drop, length-take, take-append-drop, drop-drop, pow-suc}
use Rattle.std.proofs.Math.Seq.{drop-length}
use Rattle.std.specs.Prelude.{slice_index}
use Rattle.std.specs.Int.{bytes_low_first}
use Rattle.byteorder.specs.Endian.{little_from, little_number}
use Rattle.tough_ed25519.specs.Bytes.{bytes_number, number_bytes}

bytes_number-append : (xs ys : List ℕ) → bytes_number (xs ++ ys) ≡ bytes_number xs + 256 ^ length xs * bytes_number ys
unfolding bytes_number
bytes_number-append [] ys = omega arith
bytes_number-append (x ∷ xs) ys = rw (bytes_number-append xs ys, pow-suc) (omega arith)

later : (x : ℕ) (xs : List ℕ) (i n : ℕ) → little_from (suc i) n (x ∷ xs) ≡ little_from i n xs
later x xs i zero = refl
later x xs i (suc n) = ap (λ (m : ℕ). slice_index xs i + 256 * m) (later x xs (suc i) n)

little_number-all : (xs : List ℕ) → little_number (length xs) xs ≡ bytes_number xs
unfolding bytes_number
little_number-all [] = refl
little_number-all (x ∷ xs) = ap (λ (m : ℕ). x + 256 * m) (later x xs 0 (length xs) ∙ little_number-all xs)

-- eight bytes at a place
word : (k : ℕ) (bs : List ℕ) → k + 8 ≤ length bs → little_number 8 (take 8 (drop k bs)) ≡ bytes_number (take 8 (drop k bs))
word k bs h =
    let n : length (take 8 (drop k bs)) ≡ 8 = omega (arith, length-take 8 (drop k bs), length-drop k bs) in
    subst (λ (n : ℕ). little_number n (take 8 (drop k bs)) ≡ bytes_number (take 8 (drop k bs))) n (little_number-all (take 8 (drop k bs)))

-- the word at a place, and what stands behind it
split : (k : ℕ) (bs : List ℕ) → k + 8 ≤ length bs → bytes_number (drop k bs) ≡ little_number 8 (take 8 (drop k bs)) + 2 ^ 64 * bytes_number (drop (k + 8) bs)
split k bs h =
    let n : length (take 8 (drop k bs)) ≡ 8 = omega (arith, length-take 8 (drop k bs), length-drop k bs) in
    let e = bytes_number-append (take 8 (drop k bs)) (drop 8 (drop k bs)) in
    rw (word k bs h, ← drop-drop 8 k bs) (rw (take-append-drop 8 (drop k bs), n) at e)

none_left : (k : ℕ) (bs : List ℕ) → length bs ≡ k → bytes_number (drop k bs) ≡ 0
unfolding bytes_number
none_left k bs h = subst (λ (k : ℕ). bytes_number (drop k bs) ≡ 0) h (ap bytes_number (drop-length bs))

joined : (a b c d k l m n z : ℕ) → k ≡ a + 2 ^ 64 * l → l ≡ b + 2 ^ 64 * m → m ≡ c + 2 ^ 64 * n → n ≡ d + 2 ^ 64 * z → z ≡ 0
    → a + 2 ^ 64 * (b + 2 ^ 64 * (c + 2 ^ 64 * d)) ≡ k
joined a b c d k l m n z p q r s t = omega arith

pub in_words : (bs : List ℕ) → length bs ≡ 32
    → little_number 8 (take 8 bs) + 2 ^ 64 * (little_number 8 (take 8 (drop 8 bs)) + 2 ^ 64 * (little_number 8 (take 8 (drop 16 bs)) + 2 ^ 64 * little_number 8 (take 8 (drop 24 bs)))) ≡ bytes_number bs
in_words bs h =
    joined _ _ _ _ _ _ _ _ _ (split 0 bs (omega arith)) (split 8 bs (omega arith)) (split 16 bs (omega arith)) (split 24 bs (omega arith)) (none_left 32 bs h)

-- the eight bytes of a word, which is the lowest of a number
pub word_bytes : (k a n : ℕ) → a < 2 ^ 64 → number_bytes (suc (suc (suc (suc (suc (suc (suc (suc k)))))))) (a + 2 ^ 64 * n) ≡ bytes_low_first 0 8 a ++ number_bytes k n
unfolding number_bytes
word_bytes k a n h =
    let e0 : (a + 2 ^ 64 * n) % 256 ≡ a % 256 = omega arith in
    let e1 : (a + 2 ^ 64 * n) / 256 % 256 ≡ a / 256 ^ 1 % 256 = omega arith in
    let e2 : (a + 2 ^ 64 * n) / 256 / 256 % 256 ≡ a / 256 ^ 2 % 256 = omega arith in
    let e3 : (a + 2 ^ 64 * n) / 256 / 256 / 256 % 256 ≡ a / 256 ^ 3 % 256 = omega arith in
    let e4 : (a + 2 ^ 64 * n) / 256 / 256 / 256 / 256 % 256 ≡ a / 256 ^ 4 % 256 = omega arith in
    let e5 : (a + 2 ^ 64 * n) / 256 / 256 / 256 / 256 / 256 % 256 ≡ a / 256 ^ 5 % 256 = omega arith in
    let e6 : (a + 2 ^ 64 * n) / 256 / 256 / 256 / 256 / 256 / 256 % 256 ≡ a / 256 ^ 6 % 256 = omega arith in
    let e7 : (a + 2 ^ 64 * n) / 256 / 256 / 256 / 256 / 256 / 256 / 256 % 256 ≡ a / 256 ^ 7 % 256 = omega arith in
    let e8 : (a + 2 ^ 64 * n) / 256 / 256 / 256 / 256 / 256 / 256 / 256 / 256 ≡ n = omega arith in
    cc (e0, e1, e2, e3, e4, e5, e6, e7, e8)

last_bytes : (a : ℕ) → a < 2 ^ 64 → number_bytes 8 a ≡ bytes_low_first 0 8 a
unfolding number_bytes
last_bytes a h =
    let e : a + 2 ^ 64 * 0 ≡ a = omega arith in
    subst (λ (n : ℕ). number_bytes 8 n ≡ bytes_low_first 0 8 a) e (word_bytes 0 a 0 h)

pub all_bytes : (a b c d : ℕ) → a < 2 ^ 64 → b < 2 ^ 64 → c < 2 ^ 64 → d < 2 ^ 64
    → number_bytes 32 (a + 2 ^ 64 * (b + 2 ^ 64 * (c + 2 ^ 64 * d))) ≡ bytes_low_first 0 8 a ++ (bytes_low_first 0 8 b ++ (bytes_low_first 0 8 c ++ bytes_low_first 0 8 d))
all_bytes a b c d p q r s =
    word_bytes 24 a (b + 2 ^ 64 * (c + 2 ^ 64 * d)) p ∙ ap (λ (bs : List ℕ). bytes_low_first 0 8 a ++ bs)
    (word_bytes 16 b (c + 2 ^ 64 * d) q ∙ ap (λ (bs : List ℕ). bytes_low_first 0 8 b ++ bs)
    (word_bytes 8 c d r ∙ ap (λ (bs : List ℕ). bytes_low_first 0 8 c ++ bs) (last_bytes d s)))
