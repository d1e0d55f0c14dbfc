-- Parts of texts at ASCII characters.
use Rattle.std.proofs.Common.{◌≡◌, ◌<◌, ◌≤◌, ◌+◌, ◌++◌, ℕ, suc, true, false, List, [], ◌∷◌, Option, Some, None, MatchOption, Bor, take, drop, length, get_or, option_map, arith, refl, sym, ap, ◌∙◌, ⊎_elim, subst, eqb}
use Rattle.std.proofs.lemmas.Bool.{cases_Bool, eqb-true, eq-eqb, lt-ltb, le-ltb}
use Rattle.std.proofs.lemmas.Str.{encode_ascii}
use Rattle.std.proofs.lemmas.Str.Pattern.{NoCharPasses-char, split_once_first, IsSplitOnceResult, starts_text}
use Rattle.std.specs.List.{position_or_len}
use Rattle.std.specs.Str.{IsCharBoundary}
use Rattle.std.specs.Str.Pattern.{RFindsChar, FindsTextPrefix}
use Rattle.std.proofs.lemmas.List.{take-append-drop}
use Rattle.tough_net.specs.Shown.{ahead, split, past}

-- ---- the last c

ahead-none : (c : ℕ) (bs : List ℕ) → ((k : ℕ) → k < length bs → get_or bs k 0 ≡ c → ⊥) → ahead c bs ≡ None
unfolding ahead
ahead-none c [] lacks = refl
ahead-none c (b ∷ bs) lacks =
    let apart : eqb b c ≡ false = ⊎_elim (λ yes. absurd (lacks 0 (omega arith) (eqb-true b c yes))) (λ f. f) (cases_Bool (eqb b c)) in
    rw (ahead-none c bs (λ k low at. lacks (suc k) (omega (arith, low)) at), apart) refl

ahead-some : (c : ℕ) (front rest : List ℕ) → ((k : ℕ) → k < length rest → get_or rest k 0 ≡ c → ⊥) → ahead c (front ++ c ∷ rest) ≡ Some front
unfolding ahead
ahead-some c [] rest lacks = rw (ahead-none c rest lacks, eq-eqb c c refl) refl
ahead-some c (b ∷ front) rest lacks = rw (ahead-some c front rest lacks) refl

-- takes the clause of `rsplit_once` at an ASCII character
pub ahead-char : (c : ℕ) (text : List ℕ) (r : Option (Bor (List ℕ) × Bor (List ℕ)))
    → MatchOption r (RFindsChar c text None) (λ x. (i : ℕ) × (j : ℕ) × RFindsChar c text (Some (i, j)) × (x.0.now ≡ take i text) × (x.1.now ≡ drop j text) × (i ≤ j) × (length x.0.now ≡ i) × (length x.1.now + j ≡ length text))
    → c < 128 → option_map (λ x. x.0.now) r ≡ ahead c text
ahead-char c text None h low = sym (ahead-none c text (λ k below at. NoCharPasses-char c text k h low below at))
ahead-char c text (Some x) h low =
    let i = h.0 in
    let j = h.1 in
    let rest : drop i text ≡ c ∷ drop j text = h.2.1.split ∙ ap (λ l. l ++ drop j text) (encode_ascii c low) in
    let whole : text ≡ take i text ++ c ∷ drop j text = sym (take-append-drop i text) ∙ ap (λ l. take i text ++ l) rest in
    ap Some (h.3) ∙ sym (ap (ahead c) whole ∙ ahead-some c (take i text) (drop j text) (λ k below at. NoCharPasses-char c (drop j text) k h.2.0 low below at))

-- ---- a beginning

-- takes the clause of `strip_prefix` at a text
pub past-text : (n s : List ℕ) (r : Option (Bor (List ℕ))) → MatchOption r (FindsTextPrefix n s None) (λ x. (k : ℕ) × FindsTextPrefix n s (Some k) × (x.now ≡ drop k s) × (length x.now + k ≡ length s))
    → option_map (λ x. x.now) r ≡ past n s
past-text n s None h = rw (← starts_text false n s h) refl
past-text n s (Some x) h =
    let at : IsCharBoundary s h.0 = subst (IsCharBoundary s) (sym h.1.0) h.1.2 in
    rw (← starts_text true n s (h.0, h.1, at), ← h.1.0) (ap Some h.2)

-- ---- the first c

-- takes the clause of `split_once` at an ASCII character
pub split-char : (c : ℕ) (text : List ℕ) (r : Option (Bor (List ℕ) × Bor (List ℕ))) → IsSplitOnceResult c text r → c < 128
    → option_map (λ x. (x.0.now, x.1.now)) r ≡ split c text
split-char c text None h low =
    let none = split_once_first c text None h low in
    rw (le-ltb (position_or_len (λ b. eqb b c) text) (length text) (omega (arith, none))) refl
split-char c text (Some x) h low =
    let some = split_once_first c text (Some x) h low in
    rw (lt-ltb (position_or_len (λ b. eqb b c) text) (length text) some.0) (λ t. Some (some.1 t, some.2 t))
