-- Masks by their bytes.
use Rattle.std.proofs.Common.{◌≡◌, ⊎_elim, ℕ, zero, suc, ◌+◌, ◌-◌, ◌*◌, ◌/◌, ◌%◌, ◌^◌, ◌<◌, ◌≤◌, List, [], ◌∷◌, ◌++◌, length, get_or, set, bit_and, bit_xor, refl, sym, ap, ◌∙◌, arith, length-append}
use Rattle.std.proofs.lemmas.Nat.{and_mask}
use Rattle.std.proofs.lemmas.Bool.{cases_lt}
use Rattle.std.proofs.lemmas.List.{ext_get_or, get_or_append_left, get_or-append_right, get_or-take, length-take-le}
use Rattle.sha2.proofs.Facts256.{length-sha256}
use Rattle.tough_modular.specs.Octets.{number_octets}
use Rattle.tough_rsa.specs.Pss.{xor_all, mask_block, mask_blocks, mgf1, clear_bits}

pub counter_bytes : (c : ℕ) → c < 256 → number_octets c 4 ≡ 0 ∷ 0 ∷ 0 ∷ c ∷ []
unfolding number_octets
counter_bytes c h =
    let e3 : c / 256 ^ 3 % 256 ≡ 0 = omega arith in
    let e2 : c / 256 ^ 2 % 256 ≡ 0 = omega arith in
    let e1 : c / 256 ^ 1 % 256 ≡ 0 = omega arith in
    let e0 : c / 256 ^ 0 % 256 ≡ c = omega arith in
    cc (e0, e1, e2, e3)

abbrev pub mask_at : List ℕ → ℕ → ℕ
mask_at seed k = get_or (mask_block seed (k / 32)) (k % 32) 0

length-blocks : (seed : List ℕ) (c n : ℕ) → length (mask_blocks seed c n) ≡ 32 * n
unfolding mask_blocks
length-blocks seed c zero = refl
length-blocks seed c (suc n) = length-append (mask_block seed c) (mask_blocks seed (suc c) n) ∙ omega (arith, length-sha256 (seed ++ number_octets c 4), length-blocks seed (suc c) n)

get_blocks : (seed : List ℕ) (c n k : ℕ) → k < 32 * n → get_or (mask_blocks seed c n) k 0 ≡ get_or (mask_block seed (c + k / 32)) (k % 32) 0
unfolding mask_blocks
get_blocks seed c zero k h = absurd (omega arith)
get_blocks seed c (suc n) k h = ⊎_elim (here seed c n k) (later seed c n k h (λ j l. get_blocks seed (suc c) n j l)) (cases_lt k 32)
  where
    here : (seed : List ℕ) (c n k : ℕ) → k < 32 → get_or (mask_block seed c ++ mask_blocks seed (suc c) n) k 0 ≡ get_or (mask_block seed (c + k / 32)) (k % 32) 0
    here seed c n k l =
        let s : length (mask_block seed c) ≡ 32 = length-sha256 (seed ++ number_octets c 4) in
        let d : c + k / 32 ≡ c = omega arith in
        let r : k % 32 ≡ k = omega arith in
        rw (d, r) (get_or_append_left (mask_block seed c) (mask_blocks seed (suc c) n) 0 k (omega arith))

    later : (seed : List ℕ) (c n k : ℕ) → k < 32 * suc n → ((j : ℕ) → j < 32 * n → get_or (mask_blocks seed (suc c) n) j 0 ≡ get_or (mask_block seed (suc c + j / 32)) (j % 32) 0) → 32 ≤ k
        → get_or (mask_block seed c ++ mask_blocks seed (suc c) n) k 0 ≡ get_or (mask_block seed (c + k / 32)) (k % 32) 0
    later seed c n k h f l =
        let s : length (mask_block seed c) ≡ 32 = length-sha256 (seed ++ number_octets c 4) in
        let d : suc c + (k - 32) / 32 ≡ c + k / 32 = omega arith in
        let r : (k - 32) % 32 ≡ k % 32 = omega arith in
        get_or-append_right (mask_block seed c) (mask_blocks seed (suc c) n) 32 k 0 s l ∙ (rw (d, r) at (f (k - 32) (omega arith)))

length-mgf1 : (seed : List ℕ) (n : ℕ) → length (mgf1 seed n) ≡ n
unfolding mgf1
length-mgf1 seed n = length-take-le n (mask_blocks seed 0 ((n + 31) / 32)) (omega (arith, length-blocks seed 0 ((n + 31) / 32)))

get_mgf1 : (seed : List ℕ) (n k : ℕ) → k < n → get_or (mgf1 seed n) k 0 ≡ mask_at seed k
unfolding mgf1
get_mgf1 seed n k h =
    let z : 0 + k / 32 ≡ k / 32 = omega arith in
    get_or-take n (mask_blocks seed 0 ((n + 31) / 32)) k 0 h ∙ (rw z at (get_blocks seed 0 ((n + 31) / 32) k (omega arith)))

length-xor : (xs ys : List ℕ) → length xs ≡ length ys → length (xor_all xs ys) ≡ length xs
unfolding xor_all
length-xor [] ys h = refl
length-xor (x ∷ xs) [] h = absurd (omega arith)
length-xor (x ∷ xs) (y ∷ ys) h = ap suc (length-xor xs ys (omega arith))

get_xor : (xs ys : List ℕ) (k : ℕ) → length xs ≡ length ys → k < length xs → get_or (xor_all xs ys) k 0 ≡ bit_xor (get_or xs k 0) (get_or ys k 0)
unfolding xor_all
get_xor [] ys k h l = absurd (omega arith)
get_xor (x ∷ xs) [] k h l = absurd (omega arith)
get_xor (x ∷ xs) (y ∷ ys) zero h l = refl
get_xor (x ∷ xs) (y ∷ ys) (suc k) h l = get_xor xs ys k (omega arith) (omega arith)

pub unmasked_all : (xs old seed : List ℕ) (i : ℕ) → length xs ≡ length old → length old ≤ i → ((k : ℕ) → k < i → k < length old → get_or xs k 0 ≡ bit_xor (get_or old k 0) (mask_at seed k)) → xs ≡ xor_all old (mgf1 seed (length old))
unmasked_all xs old seed i e h f =
    let m : length old ≡ length (mgf1 seed (length old)) = sym (length-mgf1 seed (length old)) in
    ext_get_or 0 xs (xor_all old (mgf1 seed (length old))) (e ∙ sym (length-xor old (mgf1 seed (length old)) m))
    (λ k l. f k (omega arith) (omega arith) ∙ sym (get_xor old (mgf1 seed (length old)) k m (omega arith) ∙ ap (λ (b : ℕ). bit_xor (get_or old k 0) b) (get_mgf1 seed (length old) k (omega arith))))

pub most_of : (free : ℕ) → free < 8 → 255 / 2 ^ free + 1 ≡ 2 ^ (8 - free)
most_of zero h = refl
most_of (suc zero) h = refl
most_of (suc (suc zero)) h = refl
most_of (suc (suc (suc zero))) h = refl
most_of (suc (suc (suc (suc zero)))) h = refl
most_of (suc (suc (suc (suc (suc zero))))) h = refl
most_of (suc (suc (suc (suc (suc (suc zero)))))) h = refl
most_of (suc (suc (suc (suc (suc (suc (suc zero))))))) h = refl
most_of (suc (suc (suc (suc (suc (suc (suc (suc k)))))))) h = absurd (omega arith)

pub cleared : (bs : List ℕ) (free m : ℕ) → 0 < length bs → m + 1 ≡ 2 ^ (8 - free) → set bs 0 (bit_and (get_or bs 0 0) m) ≡ clear_bits free bs
unfolding clear_bits
cleared [] free m h e = absurd (omega arith)
cleared (b ∷ bs) free m h e =
    let f : m ≡ 2 ^ (8 - free) - 1 = omega arith in
    ap (λ (x : ℕ). x ∷ bs) (ap (λ (x : ℕ). bit_and b x) f ∙ and_mask b (8 - free))
