-- A number by its words, the lowest first.
use Rattle.std.proofs.Common.{◌≡◌, ℕ, zero, suc, ◌+◌, ◌*◌, ◌^◌, ◌<◌, ◌≤◌, List, [], ◌∷◌, ◌++◌, length, get_or, take, drop, set, refl, sym, ap, ◌∙◌, arith, add-one, drop-drop, add-zero, Fits, w64}
use Rattle.std.proofs.lemmas.List.{take_more, take_more_set, length-take-le, take_all, drop-set-lt, get_or-drop}
use Rattle.std.proofs.lemmas.Nat.{pow-add}
use Rattle.std.proofs.Math.Nat.{mul-le-mul_left}
use Rattle.tough_modular.specs.Number.{number, weight}

pub weight_none : weight 0 ≡ 1
unfolding weight
weight_none = refl

pub weight_more : (i : ℕ) → weight (i + 1) ≡ 2 ^ 64 * weight i
unfolding weight
weight_more i =
    let e : 64 * (i + 1) ≡ 64 + 64 * i = omega arith in
    rw (e, pow-add 2 64 (64 * i)) refl

pub number_none : number [] ≡ 0
unfolding number
number_none = refl

pub number-append : (xs ys : List ℕ) → number (xs ++ ys) ≡ number xs + weight (length xs) * number ys
unfolding number
number-append [] ys = rw weight_none (omega arith)
number-append (x ∷ xs) ys =
    let e : weight (suc (length xs)) ≡ 2 ^ 64 * weight (length xs) = rw (← add-one (length xs)) (weight_more (length xs)) in
    rw (number-append xs ys, e) (omega arith)

number_one : (y : ℕ) → number (y ∷ []) ≡ y
unfolding number
number_one y = omega arith

pub number_push : (xs : List ℕ) (i y : ℕ) → i ≤ length xs → number (take i xs ++ y ∷ []) ≡ number (take i xs) + weight i * y
number_push xs i y h =
    let n : length (take i xs) ≡ i = length-take-le i xs h in
    rw (number-append (take i xs) (y ∷ []), n, number_one y) refl

-- one word more
pub number_more : (xs : List ℕ) (i : ℕ) → i < length xs → number (take (i + 1) xs) ≡ number (take i xs) + weight i * get_or xs i 0
number_more xs i h = rw (take_more xs i 0 h) (number_push xs i (get_or xs i 0) (omega arith))

-- one word more, which was just written
pub number_written : (xs : List ℕ) (i y : ℕ) → i < length xs → number (take (i + 1) (set xs i y)) ≡ number (take i xs) + weight i * y
number_written xs i y h = rw (take_more_set xs i y h) (number_push xs i y (omega arith))

pub number_all : (xs : List ℕ) (i : ℕ) → length xs ≤ i → number (take i xs) ≡ number xs
number_all xs i h = ap number (take_all i xs h)

-- what stands behind a place, after a write there
pub rest_more : (xs ys : List ℕ) (i y : ℕ) → drop i xs ≡ drop i ys → drop (i + 1) (set xs i y) ≡ drop (i + 1) ys
rest_more xs ys i y e =
    drop-set-lt (i + 1) xs i y (omega arith) ∙ (sym (drop-drop 1 i xs) ∙ (ap (λ (zs : List ℕ). drop 1 zs) e ∙ drop-drop 1 i ys))

pub at_rest : (xs ys : List ℕ) (i : ℕ) → drop i xs ≡ drop i ys → get_or xs i 0 ≡ get_or ys i 0
at_rest xs ys i e =
    let p : get_or (drop i xs) 0 0 ≡ get_or xs i 0 = get_or-drop i xs 0 0 ∙ ap (λ (k : ℕ). get_or xs k 0) (add-zero i) in
    let q : get_or (drop i ys) 0 0 ≡ get_or ys i 0 = get_or-drop i ys 0 0 ∙ ap (λ (k : ℕ). get_or ys k 0) (add-zero i) in
    sym p ∙ (ap (λ (zs : List ℕ). get_or zs 0 0) e ∙ q)

word_more : (p n w : ℕ) → n < p → w < 2 ^ 64 → n + p * w < 2 ^ 64 * p
word_more p n w h k = omega (arith, mul-le-mul_left {m = w + 1} {n = 2 ^ 64} p (omega arith))

pub number_below : (xs : List ℕ) → ((k : ℕ) → Fits w64 (get_or xs k 0)) → (i : ℕ) → i ≤ length xs → number (take i xs) < weight i
number_below xs f zero h = rw (number_none, weight_none) (omega arith)
number_below xs f (suc i) h =
    let l : number (take i xs) < weight i = number_below xs f i (omega arith) in
    rw (← add-one i, number_more xs i (omega arith), weight_more i) (word_more (weight i) _ _ l (f i).fits)

pub all_below : (xs : List ℕ) → ((k : ℕ) → Fits w64 (get_or xs k 0)) → number xs < weight (length xs)
all_below xs f = rw (← number_all xs (length xs) (omega arith)) (number_below xs f (length xs) (omega arith))

pub drop_next : (xs ys : List ℕ) (i : ℕ) → drop i xs ≡ drop i ys → drop (i + 1) xs ≡ drop (i + 1) ys
drop_next xs ys i e = sym (drop-drop 1 i xs) ∙ (ap (λ (zs : List ℕ). drop 1 zs) e ∙ drop-drop 1 i ys)
