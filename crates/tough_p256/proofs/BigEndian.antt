-- A number of 32 bytes, in four words of 8.
use Rattle.std.proofs.Common.{◌≡◌, ℕ, zero, suc, ◌+◌, ◌*◌, ◌^◌, ◌≤◌, List, [], ◌∷◌, ◌++◌, length, take, drop, refl, ap, ◌∙◌, subst, arith, length-append, length-drop, length-take, take-append-drop, drop-drop}
use Rattle.std.proofs.Math.Seq.{drop-length}
use Rattle.std.proofs.lemmas.Nat.{pow-add}
use Rattle.std.specs.Prelude.{slice_index}
use Rattle.byteorder.specs.Endian.{big_from, big_number}
use Rattle.tough_modular.specs.Number.{number}
use Rattle.tough_modular.specs.Octets.{octets_number}

octets_number-append : (xs ys : List ℕ) → octets_number (xs ++ ys) ≡ octets_number xs * 256 ^ length ys + octets_number ys
unfolding octets_number
octets_number-append [] ys = omega arith
octets_number-append (x ∷ xs) ys = rw (octets_number-append xs ys, length-append xs ys, pow-add 256 (length xs) (length ys)) (omega arith)

later : (x : ℕ) (xs : List ℕ) (i n : ℕ) → big_from (suc i) n (x ∷ xs) ≡ big_from i n xs
later x xs i zero = refl
later x xs i (suc n) = ap (λ (m : ℕ). slice_index xs i * 256 ^ n + m) (later x xs (suc i) n)

big_number-all : (xs : List ℕ) → big_number (length xs) xs ≡ octets_number xs
unfolding octets_number
big_number-all [] = refl
big_number-all (x ∷ xs) = ap (λ (m : ℕ). x * 256 ^ length xs + m) (later x xs 0 (length xs) ∙ big_number-all xs)

-- eight bytes at a place
word : (k : ℕ) (bs : List ℕ) → k + 8 ≤ length bs → big_number 8 (take 8 (drop k bs)) ≡ octets_number (take 8 (drop k bs))
word k bs h =
    let n : length (take 8 (drop k bs)) ≡ 8 = omega (arith, length-take 8 (drop k bs), length-drop k bs) in
    subst (λ (n : ℕ). big_number n (take 8 (drop k bs)) ≡ octets_number (take 8 (drop k bs))) n (big_number-all (take 8 (drop k bs)))

-- the word at a place, and what stands behind it
split : (k n : ℕ) (bs : List ℕ) → k + 8 + n ≡ length bs → octets_number (drop k bs) ≡ big_number 8 (take 8 (drop k bs)) * 256 ^ n + octets_number (drop (k + 8) bs)
split k n bs h =
    let m : length (drop (k + 8) bs) ≡ n = omega (arith, length-drop (k + 8) bs) in
    let e = octets_number-append (take 8 (drop k bs)) (drop 8 (drop k bs)) in
    rw (word k bs (omega arith), ← m, ← drop-drop 8 k bs) (rw (take-append-drop 8 (drop k bs)) at e)

none_left : (k : ℕ) (bs : List ℕ) → length bs ≡ k → octets_number (drop k bs) ≡ 0
unfolding octets_number
none_left k bs h = subst (λ (k : ℕ). octets_number (drop k bs) ≡ 0) h (ap octets_number (drop-length bs))

joined : (a b c d k l m n z : ℕ) → k ≡ a * 256 ^ 24 + l → l ≡ b * 256 ^ 16 + m → m ≡ c * 256 ^ 8 + n → n ≡ d * 256 ^ 0 + z → z ≡ 0
    → d + 2 ^ 64 * (c + 2 ^ 64 * (b + 2 ^ 64 * (a + 2 ^ 64 * 0))) ≡ k
joined a b c d k l m n z p q r s t = omega arith

words : (a b c d : ℕ) → number (d ∷ c ∷ b ∷ a ∷ []) ≡ d + 2 ^ 64 * (c + 2 ^ 64 * (b + 2 ^ 64 * (a + 2 ^ 64 * 0)))
unfolding number
words a b c d = refl

pub in_words : (bs : List ℕ) → length bs ≡ 32
    → number (big_number 8 (take 8 (drop 24 bs)) ∷ big_number 8 (take 8 (drop 16 bs)) ∷ big_number 8 (take 8 (drop 8 bs)) ∷ big_number 8 (take 8 bs) ∷ []) ≡ octets_number bs
in_words bs h =
    words _ _ _ _ ∙ joined _ _ _ _ _ _ _ _ _ (split 0 24 bs (omega arith)) (split 8 16 bs (omega arith)) (split 16 8 bs (omega arith)) (split 24 0 bs (omega arith)) (none_left 32 bs h)
