-- Where plain characters stand in a text.
use Rattle.std.proofs.Common.{◌≡◌, ◌≢◌, ◌⊎◌, inl, inr, ℕ, ◌+◌, ◌-◌, ◌<◌, ◌≤◌, Bool, true, false, ◌&&◌, ◌||◌, nat_le, List, [], ◌∷◌, ◌++◌, length, take, drop, chars, encode_utf8, encode_utf8_all, IsUtf8, String, string_bytes, refl, sym, ap, subst, ◌∙◌, append_assoc, append-nil, arith, length-append, length-take, length-drop}
use Rattle.std.proofs.lemmas.Bool.{le-leb}
use Rattle.std.proofs.lemmas.Bool.Decides.{nat_tests}
use Rattle.std.proofs.lemmas.List.{take-append-drop}
use Rattle.std.specs.declared.alloc.Global.{Global}
use Rattle.std.proofs.Math.Seq.{drop-append_seam}
use Rattle.std.proofs.lemmas.Str.{chars-append, encodes-append, encodes-chars, length-encode, len_utf8_bounds, IsUtf8-drop, IsUtf8-string_bytes, IsUtf8-take}
use Rattle.std.specs.Str.{IsCharBoundary}
use Rattle.tough_names.specs.declared.pattern.item.Span.{Span}
use Rattle.tough_names.specs.Glob.{Part, one, Fits, accepts}
use Rattle.tough_names.specs.declared.pattern.item.CharSet.{CharSet}
use Rattle.tough_names.specs.declared.pattern.item.Item.{Item}
use Rattle.tough_names.specs.declared.pattern.item.Item.TheVariants.{One, Text}
use Rattle.tough_names.specs.Items.{is_negated, just, literals, parts_of, set_part, spans_of}
use Rattle.tough_names.specs.Steps.{Advances, CoverEach, IsEnd, IsSought, IsTail}
use Rattle.tough_names.proofs.Greedy.{first_of_one, FirstOf}

-- ---- plain characters are covered by themselves, and by nothing else

alike : (b : Bool) → b ≡ true → (b && b) || false ≡ true
alike true h = refl
alike false h = absurd (cc (h))

own : (c : ℕ) → accepts false (just c ∷ []) c ≡ true
own c = alike (nat_le c c) (le-leb c c (omega arith))

both : (a b : Bool) → (a && b) || false ≡ true → (a ≡ true) × (b ≡ true)
both true true h = (refl, refl)
both true false h = absurd (cc (h))
both false b h = absurd (cc (h))

leb-le : (a b : ℕ) → nat_le a b ≡ true → a ≤ b
leb-le a b h = grind (arith, nat_tests, h)

only : (c d : ℕ) → accepts false (just c ∷ []) d ≡ true → d ≡ c
only c d h = let k = both (nat_le c d) (nat_le d c) h in omega (arith, leb-le c d k.0, leb-le d c k.1)

pub literals-cover : (cs : List ℕ) → CoverEach (literals cs) cs
literals-cover [] = tt
literals-cover (c ∷ cs) = (false, just c ∷ [], refl, own c, literals-cover cs)

pub fits-literals : (cs : List ℕ) (parts : List Part) (text : List ℕ) → Fits (literals cs ++ parts) text → (rest : List ℕ) × (text ≡ cs ++ rest) × Fits parts rest
unfolding FirstOf
fits-literals [] parts text f = (text, refl, f)
fits-literals (c ∷ cs) parts text f =
    let first : FirstOf false (just c ∷ []) (literals cs ++ parts) text = first_of_one false (just c ∷ []) (literals cs ++ parts) text f in
    let more = fits-literals cs parts first.1 first.4 in
    (more.0, first.2 ∙ ap (λ d. d ∷ first.1) (only c first.0 first.3) ∙ ap (λ t. c ∷ t) more.1, more.2)

pub fits-only : (cs : List ℕ) (text : List ℕ) → Fits (literals cs) text → text ≡ cs
fits-only cs text f =
    let P : List Part → Type 0 = λ ps. Fits ps text in
    let found = fits-literals cs [] text (subst P (sym (append-nil (literals cs))) f) in
    found.1 ∙ ap (λ t. cs ++ t) found.2 ∙ append-nil cs

-- ---- places in a text

-- one of two beginnings of a list begins the other
begins-either : (xs zs ys ws : List ℕ) → xs ++ ys ≡ zs ++ ws → ((more : List ℕ) × (ys ≡ more ++ ws)) ⊎ ((y : ℕ) × (more : List ℕ) × (xs ≡ zs ++ y ∷ more))
begins-either [] zs ys ws e = inl (zs, e)
begins-either (x ∷ xs) [] ys ws e = inr (x, xs, refl)
begins-either (x ∷ xs) (z ∷ zs) ys ws e =
    let heads : x ≡ z = cc in
    let tails : xs ++ ys ≡ zs ++ ws = cc in
    elim (begins-either xs zs ys ws tails) [
      | inl h ↦ inl h
      | inr h ↦ inr (h.0, h.1, ap (λ q. q ∷ xs) heads ∙ ap (λ t. z ∷ t) h.2)
    ]

shorter : (before : List ℕ) (y : ℕ) (more : List ℕ) → length (encode_utf8_all before) < length (encode_utf8_all (before ++ y ∷ more))
shorter before y more =
    omega (arith, ap length (encodes-append before (y ∷ more)), length-append (encode_utf8_all before) (encode_utf8 y ++ encode_utf8_all more), length-append (encode_utf8 y) (encode_utf8_all more), length-encode y, (len_utf8_bounds y).0)

module _ (plain text : List ℕ) (words : IsUtf8 plain) (valid : IsUtf8 text) where
  -- an end of the text that begins with the plain characters: where its bytes stand
  bytes-at : (tail : List ℕ) (end : IsEnd tail (chars text)) (rest : List ℕ) → tail ≡ chars plain ++ rest → drop (length (encode_utf8_all end.before)) text ≡ plain ++ encode_utf8_all rest
  bytes-at tail end rest is =
      let bytes : text ≡ encode_utf8_all end.before ++ encode_utf8_all tail = sym (encodes-chars text valid) ∙ ap encode_utf8_all end.whole ∙ encodes-append end.before tail in
      ap (drop (length (encode_utf8_all end.before))) bytes ∙ drop-append_seam (encode_utf8_all end.before) (encode_utf8_all tail)
      ∙ ap encode_utf8_all is ∙ encodes-append (chars plain) rest ∙ ap (λ bs. bs ++ encode_utf8_all rest) (encodes-chars plain words)

  cut : (at : ℕ) → IsCharBoundary text at → chars text ≡ chars (take at text) ++ chars (drop at text)
  cut at b = ap chars (sym (take-append-drop at text)) ∙ chars-append (take at text) (drop at text) (IsUtf8-take text at valid b)

  -- no end of the text that begins with the plain characters is longer than the first place where they stand
  first : (at : ℕ) → IsCharBoundary text at → at ≤ length text → ((i : ℕ) → i < at → (rest : List ℕ) → drop i text ≢ plain ++ rest)
      → (parts : List Part) (tail : List ℕ) → IsEnd tail (chars text) → Fits (literals (chars plain) ++ parts) tail → IsEnd tail (chars (drop at text))
  first at b within lacks parts tail end f =
      let found = fits-literals (chars plain) parts tail f in
      let halves : chars (take at text) ++ chars (drop at text) ≡ end.before ++ tail = sym (cut at b) ∙ end.whole in
      elim (begins-either (chars (take at text)) end.before (chars (drop at text)) tail halves) [
        | inl h ↦ record { before = h.0; whole = h.1 }
        | inr h ↦
            let bytes : take at text ≡ encode_utf8_all (end.before ++ h.0 ∷ h.1) = sym (encodes-chars (take at text) (IsUtf8-take text at valid b)) ∙ ap encode_utf8_all h.2 in
            let early : length (encode_utf8_all end.before) < at = omega (arith, shorter end.before h.0 h.1, ap length bytes, length-take at text, within) in
            absurd (lacks (length (encode_utf8_all end.before)) early (encode_utf8_all found.0) (bytes-at tail end found.0 found.1))
      ]

  pub sought-first : (at : ℕ) (from : List ℕ) → from ≡ drop at text → IsCharBoundary text at → at ≤ length text → ((i : ℕ) → i < at → (rest : List ℕ) → drop i text ≢ plain ++ rest)
      → (parts : List Part) → IsSought (literals (chars plain) ++ parts) text from
  sought-first at from is b within lacks parts =
      let P : List ℕ → Type 0 = λ t. IsSought (literals (chars plain) ++ parts) text t in
      subst P (sym is) (record {
        end = record { before = chars (take at text); whole = cut at b };
        all = first at b within lacks parts;
        within = omega (arith, length-drop at text);
        valid = IsUtf8-drop text at valid b;
      })

  pub sought-none : ((i : ℕ) → i ≤ length text → (rest : List ℕ) → drop i text ≢ plain ++ rest) → (parts : List Part) (tail : List ℕ) → IsEnd tail (chars text) → Fits (literals (chars plain) ++ parts) tail → ⊥
  sought-none lacks parts tail end f =
      let found = fits-literals (chars plain) parts tail f in
      let bytes : text ≡ encode_utf8_all end.before ++ encode_utf8_all tail = sym (encodes-chars text valid) ∙ ap encode_utf8_all end.whole ∙ encodes-append end.before tail in
      lacks (length (encode_utf8_all end.before)) (omega (arith, ap length bytes, length-append (encode_utf8_all end.before) (encode_utf8_all tail))) (encode_utf8_all found.0) (bytes-at tail end found.0 found.1)

  -- the plain characters end the text
  pub sought-last : (from : List ℕ) → from ≡ drop (length text - length plain) text → IsCharBoundary text (length text - length plain) → text ≡ take (length text - length plain) text ++ plain → IsSought (literals (chars plain)) text from
  sought-last from is b ends =
      let at = length text - length plain in
      let front : length (take at text) ≡ at = omega (arith, length-take at text) in
      let same : drop at text ≡ plain = ap (drop at) ends ∙ ap (λ n. drop n (take at text ++ plain)) (sym front) ∙ drop-append_seam (take at text) plain in
      let P : List ℕ → Type 0 = λ t. IsSought (literals (chars plain)) text t in
      subst P (sym is) (record {
        end = record { before = chars (take at text); whole = cut at b };
        all = λ tail end f. record { before = []; whole = ap chars same ∙ sym (fits-only (chars plain) tail f) };
        within = omega (arith, length-drop at text);
        valid = IsUtf8-drop text at valid b;
      })

  pub sought-no_end : ((front : List ℕ) → text ≢ front ++ plain) → (tail : List ℕ) → IsEnd tail (chars text) → Fits (literals (chars plain)) tail → ⊥
  sought-no_end lacks tail end f =
      lacks (encode_utf8_all end.before) (sym (encodes-chars text valid) ∙ ap encode_utf8_all end.whole ∙ encodes-append end.before tail
      ∙ ap (λ cs. encode_utf8_all end.before ++ encode_utf8_all cs) (fits-only (chars plain) tail f) ∙ ap (λ bs. encode_utf8_all end.before ++ bs) (encodes-chars plain words))

-- ---- steps

-- plain characters at the front of the items and of the text
pub advanced-text : (items after : List Item) (plain : String Global) (text tail : List ℕ) → items ≡ Text plain ∷ after → text ≡ string_bytes plain ++ tail → IsUtf8 tail → Advances items text after tail
advanced-text items after plain text tail e f u = record {
  covering = literals (chars (string_bytes plain));
  covered = chars (string_bytes plain);
  parts = ap parts_of e;
  each = literals-cover (chars (string_bytes plain));
  chars = ap chars f ∙ chars-append (string_bytes plain) tail (IsUtf8-string_bytes plain);
  within = omega (arith, ap length f, length-append (string_bytes plain) tail);
  valid = u;
  fewer = omega (arith, ap length e);
}

-- other text at the front
pub stuck-text : (items after : List Item) (plain : String Global) (text : List ℕ) → items ≡ Text plain ∷ after → IsUtf8 text → ((rest : List ℕ) → text ≢ string_bytes plain ++ rest) → Fits (parts_of items) (chars text) → ⊥
stuck-text items after plain text e u lacks f =
    let P : List Part → Type 0 = λ ps. Fits ps (chars text) in
    let found = fits-literals (chars (string_bytes plain)) (parts_of after) (chars text) (subst P (ap parts_of e) f) in
    lacks (encode_utf8_all found.0) (sym (encodes-chars text u) ∙ ap encode_utf8_all found.1 ∙ encodes-append (chars (string_bytes plain)) found.0
    ∙ ap (λ bs. bs ++ encode_utf8_all found.0) (encodes-chars (string_bytes plain) (IsUtf8-string_bytes plain)))

-- one character at the front
pub advanced-one : (items after : List Item) (set : CharSet) (text tail : List ℕ) (c : ℕ) → items ≡ One set ∷ after → accepts (is_negated set) (spans_of set) c ≡ true → IsTail text tail c → Advances items text after tail
advanced-one items after set text tail c e taken t = record {
  covering = set_part set ∷ [];
  covered = c ∷ [];
  parts = ap parts_of e;
  each = (is_negated set, spans_of set, refl, taken, tt);
  chars = t.chars;
  within = omega (arith, t.shorter);
  valid = t.valid;
  fewer = omega (arith, ap length e);
}
