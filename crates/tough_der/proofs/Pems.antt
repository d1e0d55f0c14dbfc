-- Textual encodings: what is read is what was written.
use Rattle.std.proofs.Common.{◌≡◌, ℕ, zero, suc, ◌+◌, ◌*◌, ◌/◌, ◌%◌, ◌<◌, ◌≤◌, Bool, true, false, not, ◌&&◌, nat_lt, List, [], ◌∷◌, ◌++◌, length, take, drop, replicate, slice_index, Some, None, Result, Ok, Err, refl, sym, ap, ◌∙◌, subst, arith, length-append, append_assoc, take-append-drop}
use Rattle.std.specs.Prelude.{codes}
use Rattle.std.specs.List.{list_all, position, position_or_len}
use Rattle.std.proofs.lemmas.Bool.{lt-ltb, le-ltb, eqb-true}
use Rattle.std.proofs.lemmas.List.{length-replicate}
use Rattle.std.proofs.Math.Seq.{drop-append_seam, take-append_seam}
use Rattle.base64.specs.Engines.{standard}
use Rattle.base64.specs.GeneralPurpose.{encode_of, decode_of, IsBytes as AllBytes}
use Rattle.base64.specs.Rfc4648.{encode_symbols, padding_len}
use Rattle.base64.proofs.EngineFacts.{decode_of-encode_of, decode_of_strict}
use Rattle.base64.proofs.RoundTrip.{length-encode_symbols}
use Rattle.tough_der.specs.Reading.{after}
use Rattle.tough_der.specs.Pem.{is_space, is_dash, is_symbol, squeezed, begin_line, end_line, line, IsPem, after_line, between, at_most, bytes_or_none, symbols_of, pem_of, in_lines, pem_text}
use Rattle.tough_der.proofs.Options.{and_left, and_right, if_some, unless_some, and_then_some}
use Rattle.tough_der.proofs.Lengths.{IsBytes}
use Rattle.tough_der.proofs.Elements.{bytes_from, bytes_at, bytes_left, bytes_right, after_sound, after_complete}

-- ---- lines

line_sound : (kind label text rest : List ℕ) → after_line kind label text ≡ Some rest → text ≡ line kind label ++ rest
unfolding after_line
line_sound kind label text rest e =
    and_then_some _ (after kind text) _ e λ a x e1.
    and_then_some _ (after label a) _ e1 λ b y e2.
    let p = after_sound kind text a x in
    let q = after_sound label a b y in
    let r = after_sound (codes "-----") b rest e2 in
    p ∙ (ap (λ (z : List ℕ). kind ++ z) (q ∙ (ap (λ (z : List ℕ). label ++ z) r ∙ sym (append_assoc label (codes "-----") rest))) ∙ sym (append_assoc kind (label ++ codes "-----") rest))

line_complete : (kind label rest : List ℕ) → after_line kind label (line kind label ++ rest) ≡ Some rest
unfolding after_line
line_complete kind label rest =
    let p : line kind label ++ rest ≡ kind ++ (label ++ (codes "-----" ++ rest)) = append_assoc kind (label ++ codes "-----") rest ∙ ap (λ (z : List ℕ). kind ++ z) (append_assoc label (codes "-----") rest) in
    rw (p, after_complete kind (label ++ (codes "-----" ++ rest)), after_complete label (codes "-----" ++ rest)) (after_complete (codes "-----") rest)

-- ---- the first dash

dash_len : (xs ys : List ℕ) → list_all (λ b. not (is_dash b)) xs ≡ true → position_or_len is_dash (xs ++ (45 ∷ ys)) ≡ length xs
dash_len [] ys h = refl
dash_len (x ∷ xs) ys h =
    let a : not (is_dash x) ≡ true = and_left (not (is_dash x)) (list_all (λ b. not (is_dash b)) xs) h in
    let b = and_right (not (is_dash x)) (list_all (λ b. not (is_dash b)) xs) h in
    rw a (rw (dash_len xs ys b) (omega arith))

dash_at : (xs ys : List ℕ) → list_all (λ b. not (is_dash b)) xs ≡ true → position is_dash (xs ++ (45 ∷ ys)) ≡ Some (length xs)
dash_at xs ys h =
    let l = length-append xs (45 ∷ ys) in
    let n = dash_len xs ys h in
    rw (n, lt-ltb (length xs) (length (xs ++ (45 ∷ ys))) (omega arith)) refl

-- ---- between the lines

between_sound : (label text inner : List ℕ) → between label text ≡ Some inner
    → (rest : List ℕ) × ((text ≡ begin_line label ++ (inner ++ (end_line label ++ rest))) × (list_all is_space rest ≡ true))
unfolding between
between_sound label text inner e =
    and_then_some _ (after_line (codes "-----BEGIN ") label text) _ e λ body a e1.
    and_then_some _ (position is_dash body) _ e1 λ at b e2.
    and_then_some _ (after_line (codes "-----END ") label (drop at body)) _ e2 λ rest c e3.
    let f = if_some (list_all is_space rest) (Some (take at body)) inner e3 in
    let i : take at body ≡ inner = cc (f.1) in
    let p = line_sound (codes "-----BEGIN ") label text body a in
    let q = line_sound (codes "-----END ") label (drop at body) rest c in
    (rest, (p ∙ ap (λ (z : List ℕ). begin_line label ++ z) (sym (take-append-drop at body) ∙ (ap (λ (z : List ℕ). z ++ drop at body) i ∙ ap (λ (z : List ℕ). inner ++ z) q)), f.0))

between_complete : (label inner rest : List ℕ) → list_all (λ b. not (is_dash b)) inner ≡ true → list_all is_space rest ≡ true
    → between label (begin_line label ++ (inner ++ (end_line label ++ rest))) ≡ Some inner
unfolding between
between_complete label inner rest h s =
    let e : List ℕ = end_line label ++ rest in
    let p = line_complete (codes "-----BEGIN ") label (inner ++ e) in
    let q : position is_dash (inner ++ e) ≡ Some (length inner) = dash_at inner (drop 1 e) h in
    let d = drop-append_seam inner e in
    let t = take-append_seam inner e in
    let r = line_complete (codes "-----END ") label rest in
    rw (p, q, d, r, s, t) refl

-- ---- symbols are no spaces and no dashes

module _ (p : ℕ → Bool) where
  at_each : (t : List ℕ) (i : ℕ) → list_all p t ≡ true → p 0 ≡ true → p (slice_index t i) ≡ true
  at_each [] i h z = z
  at_each (b ∷ bs) zero h z = and_left (p b) (list_all p bs) h
  at_each (b ∷ bs) (suc i) h z = at_each bs i (and_right (p b) (list_all p bs) h) z

  symbols_pass : (t m : List ℕ) → ((i : ℕ) → p (slice_index t i) ≡ true) → list_all p (encode_symbols t m) ≡ true
  unfolding encode_symbols
  symbols_pass t [] h = refl
  symbols_pass t (a ∷ []) h = rw (h (a / 4), h (a % 4 * 16)) refl
  symbols_pass t (a ∷ b ∷ []) h = rw (h (a / 4), h (a % 4 * 16 + b / 16), h (b % 16 * 4)) refl
  symbols_pass t (a ∷ b ∷ c ∷ rest) h = rw (h (a / 4), h (a % 4 * 16 + b / 16), h (b % 16 * 4 + c / 64), h (c % 64)) (symbols_pass t rest h)

  padding_pass : (k : ℕ) (b : ℕ) → p b ≡ true → list_all p (replicate k b) ≡ true
  padding_pass zero b h = refl
  padding_pass (suc k) b h = rw h (padding_pass k b h)

  both_pass : (xs ys : List ℕ) → list_all p xs ≡ true → list_all p ys ≡ true → list_all p (xs ++ ys) ≡ true
  both_pass [] ys h k = k
  both_pass (x ∷ xs) ys h k = rw (and_left (p x) (list_all p xs) h) (both_pass xs ys (and_right (p x) (list_all p xs) h) k)

-- ---- the bytes of symbols

pub symbols_none : (inner : List ℕ) → 4096 < length (squeezed inner) → symbols_of inner ≡ None
unfolding symbols_of
symbols_none inner h = rw (lt-ltb 4096 (length (squeezed inner)) h) refl

pub symbols_is : (inner s : List ℕ) → s ≡ squeezed inner → length s ≤ 4096 → symbols_of inner ≡ bytes_or_none (decode_of standard s)
unfolding symbols_of
symbols_is inner s e h =
    let l : length (squeezed inner) ≤ 4096 = omega (arith, ap length e) in
    rw (le-ltb 4096 (length (squeezed inner)) l, ← e) refl

-- ---- what the encoding is made of

standard_clean : (i : ℕ) → (is_symbol (slice_index standard.encode_table i) && not (is_dash (slice_index standard.encode_table i))) ≡ true
standard_clean i = at_each (λ b. is_symbol b && not (is_dash b)) standard.encode_table i refl refl

encode_clean : (bytes : List ℕ) → list_all (λ b. is_symbol b && not (is_dash b)) (encode_of standard bytes) ≡ true
encode_clean bytes =
    both_pass (λ b. is_symbol b && not (is_dash b)) (encode_symbols standard.encode_table bytes) (replicate (padding_len (length bytes)) 61)
    (symbols_pass (λ b. is_symbol b && not (is_dash b)) standard.encode_table bytes standard_clean)
    (padding_pass (λ b. is_symbol b && not (is_dash b)) (padding_len (length bytes)) 61 refl)

space_is_plain : (t : Bool) (x : ℕ) → is_dash x ≡ t → is_space x ≡ true → not (is_dash x) ≡ true
space_is_plain false x e h = rw e refl
space_is_plain true x e h =
    let q : x ≡ 45 = eqb-true x 45 e in
    let w : is_space 45 ≡ true = subst (λ (y : ℕ). is_space y ≡ true) q h in
    absurd (cc (w))

dash_step : (t : Bool) (x : ℕ) (xs : List ℕ) → is_space x ≡ t
    → (list_all (λ b. is_symbol b && not (is_dash b)) (squeezed xs) ≡ true → list_all (λ b. not (is_dash b)) xs ≡ true)
    → list_all (λ b. is_symbol b && not (is_dash b)) (squeezed (x ∷ xs)) ≡ true → list_all (λ b. not (is_dash b)) (x ∷ xs) ≡ true
dash_step true x xs e ih h =
    let k : list_all (λ b. is_symbol b && not (is_dash b)) (squeezed xs) ≡ true = rw e at h in
    rw (space_is_plain (is_dash x) x refl e) (ih k)
dash_step false x xs e ih h =
    let k : (not (is_dash x) && list_all (λ b. is_symbol b && not (is_dash b)) (squeezed xs)) ≡ true = rw (e, e) at h in
    rw (and_left (not (is_dash x)) (list_all (λ b. is_symbol b && not (is_dash b)) (squeezed xs)) k) (ih (and_right (not (is_dash x)) (list_all (λ b. is_symbol b && not (is_dash b)) (squeezed xs)) k))

-- where no symbol is a dash, nothing is
no_dash : (xs : List ℕ) → list_all (λ b. is_symbol b && not (is_dash b)) (squeezed xs) ≡ true → list_all (λ b. not (is_dash b)) xs ≡ true
no_dash [] h = refl
no_dash (x ∷ xs) h = dash_step (is_space x) x xs refl (no_dash xs) h

encode_few : (bytes : List ℕ) → length bytes ≤ 3072 → length (encode_of standard bytes) ≤ 4096
encode_few bytes h =
    let a = length-append (encode_symbols standard.encode_table bytes) (replicate (padding_len (length bytes)) 61) in
    let b = length-encode_symbols standard.encode_table bytes in
    let c = length-replicate {A = ℕ} (padding_len (length bytes)) 61 in
    omega arith

-- ---- the whole

bytes_step : (t : Bool) (x : ℕ) (xs : List ℕ) → is_space x ≡ t → x < 256 → IsBytes (squeezed xs) → IsBytes (squeezed (x ∷ xs))
bytes_step true x xs e h k = rw e k
bytes_step false x xs e h k = rw e (h, k)

squeezed_bytes : (xs : List ℕ) → IsBytes xs → IsBytes (squeezed xs)
squeezed_bytes [] h = tt
squeezed_bytes (x ∷ xs) h = bytes_step (is_space x) x xs refl h.0 (squeezed_bytes xs h.1)

inner_bytes : (label inner rest text : List ℕ) → text ≡ begin_line label ++ (inner ++ (end_line label ++ rest)) → AllBytes text → IsBytes inner
inner_bytes label inner rest text e b =
    let h : IsBytes (begin_line label ++ (inner ++ (end_line label ++ rest))) = subst IsBytes e (bytes_from text b) in
    bytes_left inner (end_line label ++ rest) (bytes_right (begin_line label) (inner ++ (end_line label ++ rest)) h)

pub pem_complete : (label text bytes : List ℕ) → AllBytes bytes → length bytes ≤ 3072 → IsPem label text bytes → pem_of label text ≡ Some bytes
unfolding pem_of
pem_complete label text bytes b h p =
    let n = no_dash p.inner (subst (λ (s : List ℕ). list_all (λ b. is_symbol b && not (is_dash b)) s ≡ true) (sym p.symbols) (encode_clean bytes)) in
    let i : between label text ≡ Some p.inner = ap (between label) p.is ∙ between_complete label p.inner p.rest n p.spaces in
    let s = symbols_is p.inner (encode_of standard bytes) (sym p.symbols) (encode_few bytes h) in
    let d : decode_of standard (encode_of standard bytes) ≡ Ok bytes = decode_of-encode_of standard bytes refl b in
    rw (i, s, d) refl

pub pem_sound : (label text bytes : List ℕ) → AllBytes text → pem_of label text ≡ Some bytes → IsPem label text bytes
unfolding pem_of symbols_of
pem_sound label text bytes b e =
    and_then_some _ (between label text) _ e λ inner a e1.
    and_then_some _ (at_most 4096 (squeezed inner)) _ e1 λ symbols c e2.
    let w = between_sound label text inner a in
    let f = unless_some (nat_lt 4096 (length (squeezed inner))) (Some (squeezed inner)) symbols c in
    let q : squeezed inner ≡ symbols = cc (f.1) in
    let d = decoded (decode_of standard symbols) e2 in
    let h : IsBytes symbols = subst IsBytes q (squeezed_bytes inner (inner_bytes label inner w.0 text w.1.0 b)) in
    record { inner = inner; rest = w.0; is = w.1.0; spaces = w.1.1; symbols = q ∙ decode_of_strict standard symbols bytes (refl, refl) (bytes_at symbols h) d }
  where
    decoded : {E : Type 0} (r : Result (List ℕ) E) → bytes_or_none r ≡ Some bytes → r ≡ Ok bytes
    decoded (Ok x) e = let q : x ≡ bytes = cc (e) in ap (λ (z : List ℕ). Ok z) q
    decoded (Err x) e = absurd (cc)

-- ---- writing

lines_step : (room : ℕ) (cs : List ℕ) → list_all (λ b. is_symbol b && not (is_dash b)) cs ≡ true → squeezed (in_lines room cs) ≡ cs
lines_step room [] h = refl
lines_step zero (c ∷ cs) h =
    let a : (is_symbol c && not (is_dash c)) ≡ true = and_left (is_symbol c && not (is_dash c)) (list_all (λ b. is_symbol b && not (is_dash b)) cs) h in
    let b : is_symbol c ≡ true = and_left (is_symbol c) (not (is_dash c)) a in
    let d = and_right (is_symbol c && not (is_dash c)) (list_all (λ b. is_symbol b && not (is_dash b)) cs) h in
    rw b (ap (λ (z : List ℕ). c ∷ z) (lines_step 63 cs d))
lines_step (suc room) (c ∷ cs) h =
    let a : (is_symbol c && not (is_dash c)) ≡ true = and_left (is_symbol c && not (is_dash c)) (list_all (λ b. is_symbol b && not (is_dash b)) cs) h in
    let b : is_symbol c ≡ true = and_left (is_symbol c) (not (is_dash c)) a in
    let d = and_right (is_symbol c && not (is_dash c)) (list_all (λ b. is_symbol b && not (is_dash b)) cs) h in
    rw b (ap (λ (z : List ℕ). c ∷ z) (lines_step room cs d))

pub pem_written : (label bytes : List ℕ) → IsPem label (pem_text label bytes) bytes
unfolding pem_text
pem_written label bytes = record {
  inner = 10 ∷ in_lines 64 (encode_of standard bytes);
  rest = 10 ∷ [];
  is = refl;
  symbols = lines_step 64 (encode_of standard bytes) (encode_clean bytes);
  spaces = refl;
}
