-- A name that a pattern fits begins as the pattern does.
use Rattle.std.proofs.Common.{◌≡◌, ℕ, Bool, true, false, ◌||◌, ◌==◌, List, [], ◌∷◌, ◌++◌, map, flat_map, codes, chars, IsUtf8, encode_utf8, encode_utf8_all, refl, sym, ap, ap₂, ◌∙◌, arith, eq-eqb}
use Rattle.std.proofs.lemmas.Str.{encodes-chars}
use Rattle.std.proofs.lemmas.Bool.Decides.{nat_tests}
use Rattle.tough_names.specs.Glob.{Fits, accepts}
use Rattle.tough_names.specs.Items.{just}
use Rattle.tough_names.specs.Spelling.{Form, star, question, class, escaped, plain, bang_text, dash_text, member_text, form_part, pattern_text, AreForms, is_star, Matches}
use Rattle.tough_names.specs.Begins.{is_special, begin_alike}
use Rattle.tough_names.proofs.Greedy.{FirstOf, first_of_one}

or-true : (b : Bool) → (b || true) ≡ true
or-true true = refl
or-true false = refl

eqb-same : (x : ℕ) → (x == x) ≡ true
eqb-same x = eq-eqb x x refl

-- after the same bytes
same-front : (xs p n : List ℕ) → begin_alike p n ≡ true → begin_alike (xs ++ p) (xs ++ n) ≡ true
same-front [] p n h = h
same-front (x ∷ xs) p n h = rw (eqb-same x, same-front xs p n h) (or-true (is_special x))

special-front : (b : ℕ) (p n : List ℕ) → is_special b ≡ true → begin_alike (b ∷ p) n ≡ true
special-front b p [] h = refl
special-front b p (c ∷ n) h = rw h refl

special-char : (b : ℕ) (cs n : List ℕ) → encode_utf8 b ≡ b ∷ [] → is_special b ≡ true → begin_alike (encode_utf8_all (b ∷ cs)) n ≡ true
special-char b cs n e h = rw e (special-front b (encode_utf8_all cs) n h)

just-same : (c d : ℕ) → accepts false (just c ∷ []) d ≡ true → d ≡ c
just-same c d h = grind (arith, nat_tests)

pub alike-if-fits : (after : Bool) (forms : List Form) (text : List ℕ) → AreForms after forms → Fits (map form_part forms) text → begin_alike (encode_utf8_all (pattern_text forms)) (encode_utf8_all text) ≡ true
unfolding FirstOf lib.Utf8.encode
alike-if-fits after [] text are f = refl
alike-if-fits after (star ∷ fs) text are f = special-char 42 (pattern_text fs) (encode_utf8_all text) refl refl
alike-if-fits after (question ∷ fs) text are f = special-char 63 (pattern_text fs) (encode_utf8_all text) refl refl
alike-if-fits after (class k ∷ fs) text are f = special-char 91 ((bang_text k.negated ++ (dash_text k.leads ++ (flat_map member_text k.members ++ (dash_text k.trails ++ codes "]")))) ++ pattern_text fs) (encode_utf8_all text) refl refl
alike-if-fits after (escaped c ∷ fs) text are f = special-char 92 (c ∷ pattern_text fs) (encode_utf8_all text) refl refl
alike-if-fits after (plain c ∷ fs) text are f =
    let found = first_of_one false (just c ∷ []) (map form_part fs) text f in
    let same : found.0 ≡ c = just-same c found.0 found.3 in
    let whole : text ≡ c ∷ found.1 = found.2 ∙ ap (λ d. d ∷ found.1) same in
    rw whole (same-front (encode_utf8 c) (encode_utf8_all (pattern_text fs)) (encode_utf8_all found.1) (alike-if-fits (is_star (plain c)) fs found.1 are.2 found.4))

-- a name that begins otherwise isn't matched
pub unlike-is-unmatched : (pattern name : List ℕ) → IsUtf8 pattern → IsUtf8 name → begin_alike pattern name ≡ false → Matches (chars pattern) (chars name) → ⊥
unlike-is-unmatched pattern name p n h (forms, are, whole, f) =
    let alike = alike-if-fits false forms (chars name) are f in
    let left : encode_utf8_all (pattern_text forms) ≡ pattern = ap encode_utf8_all (sym whole) ∙ encodes-chars pattern p in
    let both : begin_alike pattern name ≡ true = ap₂ begin_alike (sym left) (sym (encodes-chars name n)) ∙ alike in
    cc
