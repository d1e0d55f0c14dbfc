-- A text escaped piece by piece.
use Rattle.std.proofs.Common.{◌≡◌, ◌<◌, ◌≤◌, ◌+◌, ◌-◌, ℕ, Bool, false, true, cond, ◌||◌, ◌==◌, List, [], ◌∷◌, ◌++◌, flat_map, length, take, drop, get_or, refl, sym, ap, ap₂, ◌∙◌, append_assoc, arith, eq-eqb}
use Rattle.std.proofs.lemmas.Bool.{ne_eqb}
use Rattle.std.proofs.lemmas.List.{take_more, flat_map_more, get_or-drop, length-drop}
use Rattle.std.specs.List.{slice_range}
use Rattle.tough_cjson.specs.Canon.{escaped, escaped_byte}

range_more : (bs : List ℕ) (start i : ℕ) → start ≤ i → i < length bs → slice_range bs start (i + 1) ≡ slice_range bs start i ++ get_or bs i 0 ∷ []
range_more bs start i low high =
    let rest : i - start < length (drop start bs) = rw length-drop (omega arith) in
    let same : (i + 1) - start ≡ (i - start) + 1 = omega arith in
    let place : start + (i - start) ≡ i = omega arith in
    ap (λ n. take n (drop start bs)) same ∙ take_more (drop start bs) (i - start) 0 rest
    ∙ ap (λ b. take (i - start) (drop start bs) ++ b ∷ []) (get_or-drop start bs (i - start) 0 ∙ ap (λ k. get_or bs k 0) place)

escaped_more : (old bs : List ℕ) (i : ℕ) → i < length bs → old ++ escaped (take (i + 1) bs) ≡ (old ++ escaped (take i bs)) ++ escaped_byte (get_or bs i 0)
unfolding escaped
escaped_more old bs i high = ap (λ l. old ++ flat_map escaped_byte l) (take_more bs i 0 high) ∙ sym (flat_map_more escaped_byte old (take i bs) (get_or bs i 0))

-- one more byte, which stands for itself
pub plain_more : (old new bs : List ℕ) (start i : ℕ) → start ≤ i → i < length bs → escaped_byte (get_or bs i 0) ≡ get_or bs i 0 ∷ []
    → new ++ slice_range bs start i ≡ old ++ escaped (take i bs) → new ++ slice_range bs start (i + 1) ≡ old ++ escaped (take (i + 1) bs)
plain_more old new bs start i low high plain h =
    ap (λ l. new ++ l) (range_more bs start i low high) ∙ sym (append_assoc new (slice_range bs start i) (get_or bs i 0 ∷ []))
    ∙ ap₂ (λ l m. l ++ m) h (sym plain) ∙ sym (escaped_more old bs i high)

-- one more byte, which has a backslash before it
pub backslash_more : (old new bs : List ℕ) (start i : ℕ) → start ≤ i → i < length bs → escaped_byte (get_or bs i 0) ≡ 92 ∷ get_or bs i 0 ∷ []
    → new ++ slice_range bs start i ≡ old ++ escaped (take i bs) → ((new ++ slice_range bs start i) ++ 92 ∷ []) ++ slice_range bs i (i + 1) ≡ old ++ escaped (take (i + 1) bs)
backslash_more old new bs start i low high special h =
    let b = get_or bs i 0 in
    let none : slice_range bs i i ≡ [] = let zero : i - i ≡ 0 = omega arith in ap (λ n. take n (drop i bs)) zero in
    let one : slice_range bs i (i + 1) ≡ b ∷ [] = range_more bs i i (omega arith) high ∙ ap (λ l. l ++ b ∷ []) none in
    ap₂ (λ l m. (l ++ 92 ∷ []) ++ m) h one ∙ append_assoc (old ++ escaped (take i bs)) (92 ∷ []) (b ∷ [])
    ∙ ap (λ l. (old ++ escaped (take i bs)) ++ l) (sym special) ∙ sym (escaped_more old bs i high)

special-byte : (b : ℕ) (x y : Bool) → (b == 34) ≡ x → (b == 92) ≡ y → (x || y) ≡ true → escaped_byte b ≡ 92 ∷ b ∷ []
special-byte b x y e f h = ap (λ z. cond z (92 ∷ b ∷ []) (b ∷ [])) (ap₂ (λ p q. p || q) e f ∙ h)

pub quote-byte : (b : ℕ) → b ≡ 34 → escaped_byte b ≡ 92 ∷ b ∷ []
quote-byte b h = special-byte b true (b == 92) (eq-eqb b 34 h) refl refl

pub slash-byte : (b : ℕ) → (b ≡ 34 → ⊥) → b ≡ 92 → escaped_byte b ≡ 92 ∷ b ∷ []
slash-byte b h k = special-byte b false true (ne_eqb b 34 h) (eq-eqb b 92 k) refl

pub plain-byte : (b : ℕ) → (b ≡ 34 → ⊥) → (b ≡ 92 → ⊥) → escaped_byte b ≡ b ∷ []
plain-byte b h k = ap (λ z. cond z (92 ∷ b ∷ []) (b ∷ [])) (ap₂ (λ p q. p || q) (ne_eqb b 34 h) (ne_eqb b 92 k))
