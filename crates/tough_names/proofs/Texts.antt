-- The characters of a text, taken from the front.
use Rattle.std.proofs.Common.{◌≡◌, ℕ, List, [], ◌∷◌, ◌++◌, length, chars, encode_utf8, encode_utf8_all, IsUtf8, arith, ap, sym, ◌∙◌, length-append, ◌+◌, ◌≤◌, true, Bool, false, refl, subst, append-nil}
use Rattle.std.proofs.lemmas.Str.{chars_past_char, chars-nil, length-encode, len_utf8_bounds, encodes-chars}
use Rattle.std.specs.Char.{len_utf8}
use Rattle.tough_names.specs.declared.pattern.item.Span.{Span}
use Rattle.tough_names.specs.declared.pattern.item.Item.{Item}
use Rattle.tough_names.specs.Glob.{Part, run, one, Fits, accepts}
use Rattle.tough_names.specs.Items.{parts_of}
use Rattle.tough_names.specs.Steps.{IsTail}

pub tail_from_char : (text tail : List ℕ) (c : ℕ) → IsUtf8 text → IsUtf8 tail → text ≡ encode_utf8 c ++ tail → IsTail text tail c
tail_from_char text tail c valid after e =
    let n : length text ≡ length (encode_utf8 c) + length tail = ap length e ∙ length-append (encode_utf8 c) tail in
    let m : length (encode_utf8 c) ≡ len_utf8 c = length-encode c in
    let b : (1 ≤ len_utf8 c) × (len_utf8 c ≤ 4) = len_utf8_bounds c in
    record { chars = chars_past_char text tail c valid e; shorter = omega arith; valid = after }

pub no_chars : (text : List ℕ) → length text ≡ 0 → chars text ≡ []
no_chars [] e = chars-nil
no_chars (b ∷ bs) e = absurd (omega (arith, e))

pub no_bytes : (text : List ℕ) → IsUtf8 text → chars text ≡ [] → length text ≡ 0
no_bytes text valid e = ap length (sym (encodes-chars text valid) ∙ ap encode_utf8_all e)

pub no_parts : (items : List Item) → length items ≡ 0 → parts_of items ≡ []
no_parts [] e = refl
no_parts (x ∷ xs) e = absurd (omega (arith, e))

pub fits_nothing : (items : List Item) (text : List ℕ) → length items ≡ 0 → length text ≡ 0 → Fits (parts_of items) (chars text)
fits_nothing [] text none e = no_chars text e
fits_nothing (x ∷ xs) text none e = absurd (omega (arith, none))

-- a last run takes all
pub run_fits : (items : List Item) (text : List ℕ) (after : List Item) → parts_of items ≡ run ∷ parts_of after → length after ≡ 0 → Fits (parts_of items) (chars text)
run_fits items text after e none =
    let whole : parts_of items ≡ run ∷ [] = e ∙ ap (λ ps. run ∷ ps) (no_parts after none) in
    let P : List Part → Type 0 = λ ps. Fits ps (chars text) in
    subst P (sym whole) (chars text, [], sym (append-nil (chars text)), tt, refl)

pub nothing_fits : (items : List Item) (text : List ℕ) → IsUtf8 text → length items ≡ 0 → (length text ≡ 0 → ⊥) → Fits (parts_of items) (chars text) → ⊥
nothing_fits [] text valid none some f = some (no_bytes text valid f)
nothing_fits (x ∷ xs) text valid none some f = absurd (omega (arith, none))
