-- Compact JSON that is laid out byte by byte is the pretty text of its tokens.
use Rattle.std.proofs.Common.{◌≡◌, ℕ, zero, suc, ◌+◌, ◌-◌, ◌/◌, ◌%◌, ◌^◌, ◌<◌, ◌≤◌, min, nat_lt, ◌==◌, ◌&&◌, Bool, true, false, cond, List, [], ◌∷◌, ◌++◌, drop, get_or, length, pos, negsuc, decimal, refl, sym, ap, ap₂, ◌∙◌, subst, arith, append_assoc, append-nil, drop-cons, add-one, inl, inr, ◌⊎◌}
use Rattle.std.proofs.lemmas.Bool.{ne_eqb, or_from, or_parts, true≢false, ltb-true, ltb-false, lt-ltb, cases_eq}
use Rattle.std.proofs.lemmas.List.{drop_all}
use Rattle.std.proofs.lemmas.Nat.{mod_below}
use Rattle.std.specs.Char.{digit_char}
use Rattle.std.specs.Fmt.{digits, digits_onto, digit_glyph}
use Rattle.json.specs.Layout.{Last, nothing, bracket, name, value, is_value, line, gap, pretty, pretty_from}
use Rattle.json.specs.Print.{escape_letter, escape_byte, escape, quoted, print_from}
use Rattle.json.specs.Token.{Token, begin_object, end_object, begin_array, end_array, key, string, number, boolean, null, bad}
use Rattle.json.specs.Tree.{json_tokens, items_tokens, members_tokens}
use Rattle.serde_json.specs.Data as plain
use Rattle.serde_json.specs.Find.{is_float}
use Rattle.serde_json.specs.Written.{number_text, outline, items_outline, members_outline, has_float, items_have_float, members_have_float, compact_text}
use Rattle.serde_json.proofs.Texts.{print-outline}
use Rattle.tough_sign.specs.Laying.{is_opening, is_closing, after_byte, in_text, deeper, put_at, place_at, depth_at, lay}
use Rattle.tough_sign.specs.declared.layout.Place.{Place}
use Rattle.tough_sign.specs.declared.layout.Place.TheVariants as places

-- ---- a text, which is copied

digit-in_text : (k : ℕ) → in_text (digit_char k) ≡ places.Text
digit-in_text k = low (nat_lt k 10) refl
  where
    low : (b : Bool) → nat_lt k 10 ≡ b → in_text (cond b (48 + k) (87 + k)) ≡ places.Text
    low true e = let small : k < 10 = ltb-true k 10 e in rw (ne_eqb (48 + k) 34 (λ w. omega arith), ne_eqb (48 + k) 92 (λ w. omega arith)) refl
    low false e = let large : 10 ≤ k = ltb-false k 10 e in rw (ne_eqb (87 + k) 34 (λ w. omega arith), ne_eqb (87 + k) 92 (λ w. omega arith)) refl

lay-digit : (depth k : ℕ) (r : List ℕ) → lay places.Text depth (digit_char k ∷ r) ≡ digit_char k ∷ lay places.Text depth r
unfolding lay
lay-digit depth k r = ap (λ p. digit_char k ∷ lay p depth r) (digit-in_text k)

letter-other : (x : ℕ) → nat_lt 0 (escape_letter x) ≡ false → in_text x ≡ places.Text
letter-other x e = quote (cases_eq x 34)
  where
    slash : (x ≡ 34 → ⊥) → (x ≡ 92) ⊎ (x ≡ 92 → ⊥) → in_text x ≡ places.Text
    slash q (inl is) = absurd (true≢false (subst (λ y. nat_lt 0 (escape_letter y) ≡ false) is e))
    slash q (inr b) = rw (ne_eqb x 34 q, ne_eqb x 92 b) refl

    quote : (x ≡ 34) ⊎ (x ≡ 34 → ⊥) → in_text x ≡ places.Text
    quote (inl is) = absurd (true≢false (subst (λ y. nat_lt 0 (escape_letter y) ≡ false) is e))
    quote (inr q) = slash q (cases_eq x 92)

lay-byte : (depth x : ℕ) (r : List ℕ) → lay places.Text depth (escape_byte x ++ r) ≡ escape_byte x ++ lay places.Text depth r
unfolding escape_byte lay
lay-byte depth x r = by (nat_lt 0 (escape_letter x)) (nat_lt x 32) refl
  where
    a : List ℕ
    a = 92 ∷ escape_letter x ∷ []

    hex : List ℕ
    hex = 92 ∷ 117 ∷ 48 ∷ 48 ∷ digit_char (x / 16) ∷ digit_char (x % 16) ∷ []

    by : (e c : Bool) → nat_lt 0 (escape_letter x) ≡ e
        → lay places.Text depth (cond e (92 ∷ escape_letter x ∷ []) (cond c (92 ∷ 117 ∷ 48 ∷ 48 ∷ digit_char (x / 16) ∷ digit_char (x % 16) ∷ []) (x ∷ [])) ++ r)
        ≡ cond e (92 ∷ escape_letter x ∷ []) (cond c (92 ∷ 117 ∷ 48 ∷ 48 ∷ digit_char (x / 16) ∷ digit_char (x % 16) ∷ []) (x ∷ [])) ++ lay places.Text depth r
    by true c h = refl
    by false true h = ap (λ l. 92 ∷ 117 ∷ 48 ∷ 48 ∷ l) (lay-digit depth (x / 16) (digit_char (x % 16) ∷ r) ∙ ap (λ l. digit_char (x / 16) ∷ l) (lay-digit depth (x % 16) r))
    by false false h = ap (λ p. x ∷ lay p depth r) (letter-other x h)

lay-text : (depth : ℕ) (s r : List ℕ) → lay places.Text depth (escape s ++ 34 ∷ r) ≡ escape s ++ 34 ∷ lay places.Value depth r
unfolding lay
lay-text depth [] r = refl
lay-text depth (x ∷ s) r =
    ap (lay places.Text depth) (append_assoc (escape_byte x) (escape s) (34 ∷ r)) ∙ lay-byte depth x (escape s ++ 34 ∷ r)
    ∙ ap (λ l. escape_byte x ++ l) (lay-text depth s r) ∙ sym (append_assoc (escape_byte x) (escape s) (34 ∷ lay places.Value depth r))

-- ---- a number, whose bytes are no brackets, commas, colons and quotes

record IsPlain (b : ℕ) : Type 0 where
  comma : (b == 44) ≡ false
  colon : (b == 58) ≡ false
  opening : is_opening b ≡ false
  closing : is_closing b ≡ false
  quote : (b == 34) ≡ false

abbrev ArePlain : List ℕ → Type 0
ArePlain [] = Unit {0}
ArePlain (b ∷ bs) = IsPlain b × ArePlain bs

abbrev IsNeat : Token → Type 0
IsNeat begin_object = Unit {0}
IsNeat end_object = Unit {0}
IsNeat begin_array = Unit {0}
IsNeat end_array = Unit {0}
IsNeat (key s) = Unit {0}
IsNeat (string s) = Unit {0}
IsNeat (number []) = ⊥
IsNeat (number (b ∷ bs)) = IsPlain b × ArePlain bs
IsNeat (boolean b) = Unit {0}
IsNeat null = Unit {0}
IsNeat bad = ⊥

abbrev AreNeat : List Token → Type 0
AreNeat [] = Unit {0}
AreNeat (t ∷ ts) = IsNeat t × AreNeat ts

plain-place : (b : ℕ) → IsPlain b → after_byte b ≡ places.Value
plain-place b h = rw (h.comma, h.colon, h.opening, h.quote) refl

plain-depth : (depth b : ℕ) → IsPlain b → deeper depth b ≡ depth
plain-depth depth b h = rw (h.opening, h.closing) refl

lay-plain : (depth : ℕ) (bs r : List ℕ) → ArePlain bs → lay places.Value depth (bs ++ r) ≡ bs ++ lay places.Value depth r
unfolding lay
lay-plain depth [] r h = refl
lay-plain depth (b ∷ bs) r h =
    rw (h.0.comma, h.0.colon, h.0.closing, h.0.opening, h.0.quote) (ap (λ l. b ∷ l) (lay-plain depth bs r h.1))

-- ---- tokens

abbrev place_of : Last → Place
place_of nothing = places.Start
place_of bracket = places.Bracket
place_of name = places.Name
place_of value = places.Value

abbrev comma_at : Last → Bool → List ℕ
comma_at l b = cond (is_value l && b) (44 ∷ []) []

-- a byte that begins a token: a comma may stand before it
front : (l : Last) (depth b : ℕ) (xs : List ℕ) → (b == 44) ≡ false → (b == 58) ≡ false → is_closing b ≡ false
    → lay (place_of l) depth (comma_at l true ++ b ∷ xs) ≡ comma_at l true ++ (gap l true depth ++ b ∷ lay (after_byte b) (deeper depth b) xs)
unfolding lay
front nothing depth b xs comma colon closing = rw (comma, colon, closing) refl
front bracket depth b xs comma colon closing = rw (comma, colon, closing) (append_assoc (line depth) (b ∷ []) _)
front name depth b xs comma colon closing = rw (comma, colon, closing) refl
front value depth b xs comma colon closing = rw (comma, colon, closing) refl

regroup : (a g t r : List ℕ) → a ++ (g ++ (t ++ r)) ≡ (a ++ (g ++ t)) ++ r
regroup a g t r = simp append_assoc

-- a token whose text begins with that byte
begun : (l : Last) (depth b : ℕ) (xs text r out : List ℕ) → (b == 44) ≡ false → (b == 58) ≡ false → is_closing b ≡ false
    → text ++ r ≡ b ∷ xs → b ∷ lay (after_byte b) (deeper depth b) xs ≡ text ++ out
    → lay (place_of l) depth (comma_at l true ++ (text ++ r)) ≡ (comma_at l true ++ (gap l true depth ++ text)) ++ out
begun l depth b xs text r out comma colon closing is told =
    ap (λ s. lay (place_of l) depth (comma_at l true ++ s)) is ∙ front l depth b xs comma colon closing
    ∙ ap (λ s. comma_at l true ++ (gap l true depth ++ s)) told ∙ regroup (comma_at l true) (gap l true depth) text out

-- a bracket that closes
closed-object : (l : Last) (depth : ℕ) (r out : List ℕ) → lay places.Value (depth - 1) r ≡ out
    → lay (place_of l) depth (comma_at l false ++ (125 ∷ r)) ≡ (comma_at l false ++ (gap l false (depth - 1) ++ 125 ∷ [])) ++ out
unfolding lay
closed-object nothing depth r out e = ap (λ s. 125 ∷ s) e
closed-object bracket depth r out e = ap (λ s. 125 ∷ s) e
closed-object name depth r out e = ap (λ s. 32 ∷ 125 ∷ s) e
closed-object value depth r out e = ap (λ s. (line (depth - 1) ++ 125 ∷ []) ++ s) e

closed-array : (l : Last) (depth : ℕ) (r out : List ℕ) → lay places.Value (depth - 1) r ≡ out
    → lay (place_of l) depth (comma_at l false ++ (93 ∷ r)) ≡ (comma_at l false ++ (gap l false (depth - 1) ++ 93 ∷ [])) ++ out
unfolding lay
closed-array nothing depth r out e = ap (λ s. 93 ∷ s) e
closed-array bracket depth r out e = ap (λ s. 93 ∷ s) e
closed-array name depth r out e = ap (λ s. 32 ∷ 93 ∷ s) e
closed-array value depth r out e = ap (λ s. (line (depth - 1) ++ 93 ∷ []) ++ s) e

string-text : (s r : List ℕ) → quoted s ++ r ≡ 34 ∷ (escape s ++ 34 ∷ r)
string-text s r = ap (λ l. 34 ∷ l) (append_assoc (escape s) (34 ∷ []) r)

key-text : (s r : List ℕ) → (quoted s ++ 58 ∷ []) ++ r ≡ 34 ∷ (escape s ++ 34 ∷ 58 ∷ r)
key-text s r = append_assoc (quoted s) (58 ∷ []) r ∙ string-text s (58 ∷ r)

lay-colon : (depth : ℕ) (r : List ℕ) → lay places.Value depth (58 ∷ r) ≡ 58 ∷ lay places.Name depth r
unfolding lay
lay-colon depth r = refl

lay-print : (l : Last) (depth : ℕ) (ts : List Token) → AreNeat ts → lay (place_of l) depth (print_from (is_value l) ts) ≡ pretty_from (l, depth) ts
unfolding lay print_from pretty_from
lay-print nothing depth [] h = refl
lay-print bracket depth [] h = refl
lay-print name depth [] h = refl
lay-print value depth [] h = refl
lay-print l depth (begin_object ∷ ts) h =
    begun l depth 123 _ (123 ∷ []) _ _ refl refl refl refl (ap (λ s. 123 ∷ s) (lay-print bracket (min (depth + 1) (2 ^ 64 - 1)) ts h.1))
lay-print l depth (end_object ∷ ts) h = closed-object l depth _ _ (lay-print value (depth - 1) ts h.1)
lay-print l depth (begin_array ∷ ts) h =
    begun l depth 91 _ (91 ∷ []) _ _ refl refl refl refl (ap (λ s. 91 ∷ s) (lay-print bracket (min (depth + 1) (2 ^ 64 - 1)) ts h.1))
lay-print l depth (end_array ∷ ts) h = closed-array l depth _ _ (lay-print value (depth - 1) ts h.1)
lay-print l depth (key s ∷ ts) h =
    let r = print_from false ts in
    let out = pretty_from (name, depth) ts in
    begun l depth 34 (escape s ++ 34 ∷ 58 ∷ r) (quoted s ++ 58 ∷ []) r out refl refl refl (key-text s r)
    (ap (λ x. 34 ∷ x) (lay-text depth s (58 ∷ r) ∙ ap (λ x. escape s ++ 34 ∷ x) (lay-colon depth r ∙ ap (λ x. 58 ∷ x) (lay-print name depth ts h.1))) ∙ sym (key-text s out))
lay-print l depth (string s ∷ ts) h =
    let r = print_from true ts in
    let out = pretty_from (value, depth) ts in
    begun l depth 34 (escape s ++ 34 ∷ r) (quoted s) r out refl refl refl (string-text s r)
    (ap (λ x. 34 ∷ x) (lay-text depth s r ∙ ap (λ x. escape s ++ 34 ∷ x) (lay-print value depth ts h.1)) ∙ sym (string-text s out))
lay-print l depth (number [] ∷ ts) h = absurd h.0
lay-print l depth (number (b ∷ bs) ∷ ts) h =
    let r = print_from true ts in
    let out = pretty_from (value, depth) ts in
    begun l depth b (bs ++ r) (b ∷ bs) r out h.0.0.comma h.0.0.colon h.0.0.closing refl
    (rw (plain-place b h.0.0, plain-depth depth b h.0.0) (ap (λ x. b ∷ x) (lay-plain depth bs r h.0.1 ∙ ap (λ x. bs ++ x) (lay-print value depth ts h.1))))
lay-print l depth (boolean true ∷ ts) h =
    let out = pretty_from (value, depth) ts in
    begun l depth 116 _ (116 ∷ 114 ∷ 117 ∷ 101 ∷ []) _ out refl refl refl refl (ap (λ s. 116 ∷ 114 ∷ 117 ∷ 101 ∷ s) (lay-print value depth ts h.1))
lay-print l depth (boolean false ∷ ts) h =
    let out = pretty_from (value, depth) ts in
    begun l depth 102 _ (102 ∷ 97 ∷ 108 ∷ 115 ∷ 101 ∷ []) _ out refl refl refl refl (ap (λ s. 102 ∷ 97 ∷ 108 ∷ 115 ∷ 101 ∷ s) (lay-print value depth ts h.1))
lay-print l depth (null ∷ ts) h =
    let out = pretty_from (value, depth) ts in
    begun l depth 110 _ (110 ∷ 117 ∷ 108 ∷ 108 ∷ []) _ out refl refl refl refl (ap (λ s. 110 ∷ 117 ∷ 108 ∷ 108 ∷ s) (lay-print value depth ts h.1))
lay-print l depth (bad ∷ ts) h = absurd h.0

-- ---- the tokens of a value without floats

plain-digit : (d : ℕ) → d < 10 → IsPlain (digit_glyph false d)
plain-digit d h = rw (lt-ltb d 10 h) (record {
  comma = ne_eqb (48 + d) 44 (λ w. omega arith);
  colon = ne_eqb (48 + d) 58 (λ w. omega arith);
  opening = or_from _ _ (ne_eqb (48 + d) 123 (λ w. omega arith)) (ne_eqb (48 + d) 91 (λ w. omega arith));
  closing = or_from _ _ (ne_eqb (48 + d) 125 (λ w. omega arith)) (ne_eqb (48 + d) 93 (λ w. omega arith));
  quote = ne_eqb (48 + d) 34 (λ w. omega arith);
})

abbrev IsSomePlain : List ℕ → Type 0
IsSomePlain s = IsNeat (number s)

some-plain : (s : List ℕ) → IsSomePlain s → ArePlain s
some-plain [] h = absurd h
some-plain (b ∷ bs) h = h

either-plain : (b : Bool) (s t : List ℕ) → IsSomePlain s → IsSomePlain t → IsSomePlain (cond b s t)
either-plain true s t h k = h
either-plain false s t h k = k

plain-digits : (k n : ℕ) (acc : List ℕ) → IsSomePlain acc → IsSomePlain (digits_onto k 10 false n acc)
plain-digits zero n acc h = h
plain-digits (suc k) n acc h =
    let here : IsPlain (digit_glyph false (n % 10)) = plain-digit (n % 10) (mod_below n 10 (omega arith)) in
    either-plain (n / 10 == 0) _ _ (here, some-plain acc h) (plain-digits k (n / 10) (digit_glyph false (n % 10) ∷ acc) (here, some-plain acc h))

plain-decimal : (n : ℕ) → IsSomePlain (decimal n)
unfolding digits
plain-decimal n =
    let here : IsPlain (digit_glyph false (n % 10)) = plain-digit (n % 10) (mod_below n 10 (omega arith)) in
    either-plain (n / 10 == 0) _ _ (here, tt) (plain-digits 63 (n / 10) (digit_glyph false (n % 10) ∷ []) (here, tt))

minus : IsPlain 45
minus = record { comma = refl; colon = refl; opening = refl; closing = refl; quote = refl }

plain-number : (n : plain.Num) → is_float n ≡ false → IsSomePlain (number_text n)
plain-number (plain.unsigned n) h = plain-decimal n
plain-number (plain.negative (pos n)) h = plain-decimal n
plain-number (plain.negative (negsuc n)) h = (minus, some-plain (decimal (suc n)) (plain-decimal (suc n)))
plain-number (plain.float x) h = absurd (true≢false h)

neat-append : (ts us : List Token) → AreNeat ts → AreNeat us → AreNeat (ts ++ us)
neat-append [] us h k = k
neat-append (t ∷ ts) us h k = (h.0, neat-append ts us h.1 k)

mutual
  neat-outline : (d : plain.Data) → has_float d ≡ false → AreNeat (json_tokens (outline d))
  neat-outline plain.null h = (tt, tt)
  neat-outline (plain.boolean b) h = (tt, tt)
  neat-outline (plain.number n) h = (plain-number n h, tt)
  neat-outline (plain.string s) h = (tt, tt)
  neat-outline (plain.array ds) h = (tt, neat-items ds h)
  neat-outline (plain.object ms) h = (tt, neat-members ms h)

  neat-items : (ds : plain.Items) → items_have_float ds ≡ false → AreNeat (items_tokens (items_outline ds))
  neat-items plain.no_items h = (tt, tt)
  neat-items (plain.item d ds) h = let p = or_parts (has_float d) _ h in neat-append _ _ (neat-outline d p.0) (neat-items ds p.1)

  neat-members : (ms : plain.Members) → members_have_float ms ≡ false → AreNeat (members_tokens (members_outline ms))
  neat-members plain.no_members h = (tt, tt)
  neat-members (plain.member k d ms) h = let p = or_parts (has_float d) _ h in (tt, neat-append _ _ (neat-outline d p.0) (neat-members ms p.1))

-- the text laid out is the pretty one
pub lay-compact : (d : plain.Data) → has_float d ≡ false → lay places.Start 0 (compact_text d) ≡ pretty (json_tokens (outline d))
lay-compact d h = ap (lay places.Start 0) (sym (print-outline d)) ∙ lay-print nothing 0 (json_tokens (outline d)) (neat-outline d h)

-- ---- as the loop goes over the bytes

pub lay-begun : (p : Place) (depth : ℕ) (out text : List ℕ) → out ≡ [] → lay p depth text ≡ out ++ lay p depth (drop 0 text)
lay-begun p depth out text e = ap (λ o. o ++ lay p depth text) (sym e)

pub lay-more : (p q : Place) (depth deep : ℕ) (out new text whole : List ℕ) (i : ℕ) → i < length text → whole ≡ out ++ lay p depth (drop i text)
    → new ≡ out ++ put_at p depth (get_or text i 0) → q ≡ place_at p (get_or text i 0) → deep ≡ depth_at p depth (get_or text i 0)
    → whole ≡ new ++ lay q deep (drop (i + 1) text)
unfolding lay
lay-more p q depth deep out new text whole i h told put place below =
    let b = get_or text i 0 in
    let after = drop (i + 1) text in
    let here : drop i text ≡ b ∷ after = drop-cons text i 0 h ∙ ap (λ n. b ∷ drop n text) (sym (add-one i)) in
    told ∙ ap (λ x. out ++ lay p depth x) here ∙ sym (append_assoc out (put_at p depth b) (lay (place_at p b) (depth_at p depth b) after))
    ∙ ap (λ x. x ++ lay (place_at p b) (depth_at p depth b) after) (sym put) ∙ ap₂ (λ x y. new ++ lay x y after) (sym place) (sym below)

pub lay-ended : (p : Place) (depth : ℕ) (out text whole : List ℕ) (i : ℕ) → length text ≤ i → whole ≡ out ++ lay p depth (drop i text) → out ≡ whole
unfolding lay
lay-ended p depth out text whole i h told = sym (told ∙ ap (λ x. out ++ lay p depth x) (drop_all i text h) ∙ append-nil out)
