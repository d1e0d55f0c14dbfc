-- Keys and signatures: what is read is what was encoded.
use Rattle.std.proofs.Common.{◌≡◌, ℕ, ◌+◌, ◌<◌, ◌≤◌, ◌^◌, List, [], ◌∷◌, ◌++◌, length, slice_index, Some, None, refl, sym, ap, ◌∙◌, subst, arith, length-append}
use Rattle.std.specs.Prelude.{Option, IfSome}
use Rattle.std.specs.Borrow.{Bor}
use Rattle.std.specs.Int.{w64, to_be_bytes, from_be_bytes}
use Rattle.std.proofs.lemmas.Nat.{be_bytes_8, from_be_bytes-to_be_bytes_8}
use Rattle.tough_der.specs.Der.{length_octets, der, der_sequence, der_oid, der_null, rsa_encryption, shorten, sig_value, rsa_public_key, spki_rsa}
use Rattle.tough_der.specs.Reading.{element, whole, after, magnitude, wide}
use Rattle.tough_der.specs.Keys.{key_view, signature_of, rsa_numbers, after_rsa, rsa_key_of}
use Rattle.tough_der.proofs.Options.{and_then_some}
use Rattle.tough_der.proofs.Lengths.{IsBytes, octets_few}
use Rattle.tough_der.proofs.Elements.{bytes_at, bytes_right, bytes_behind, bytes_whole, element_sound, element_complete, whole_sound, whole_complete, after_sound, after_complete}
use Rattle.tough_der.proofs.Integers.{shorter, bytes_shortened, magnitude_sound, magnitude_complete, wide_sound, wide_complete}

-- ---- two integers in a sequence

pub two_sound : (bs ns c r d : List ℕ) → IsBytes bs → whole 0x30 bs ≡ Some ns → element 2 ns ≡ Some (c, r) → whole 2 r ≡ Some d → (bs ≡ der 0x30 (der 2 c ++ der 2 d)) × IsBytes d
two_sound bs ns c r d h x y z =
    let a = whole_sound 0x30 bs ns h x in
    let hn = bytes_whole 0x30 ns bs a h in
    let b = element_sound 2 ns c r hn y in
    let hr = bytes_behind 2 c r ns b hn in
    let e = whole_sound 2 r d hr z in
    (a ∙ (ap (λ (w : List ℕ). der 0x30 w) b ∙ ap (λ (w : List ℕ). der 0x30 (der 2 c ++ w)) e), bytes_whole 2 d r e hr)

-- an element is not much longer than its contents
pub der_few : (tag : ℕ) (c : List ℕ) → length (der tag c) ≤ length c + 6
der_few tag c =
    let o = octets_few (length c) in
    let a = length-append (length_octets (length c)) c in
    omega arith

two_few : (c d : List ℕ) → length c + length d < 2 ^ 31 + 64 → length (der 2 c ++ der 2 d) < 2 ^ 32
two_few c d h =
    let a = der_few 2 c in
    let b = der_few 2 d in
    let l = length-append (der 2 c) (der 2 d) in
    omega arith

-- ---- signatures

pub signature_sound : (bs r s : List ℕ) → IsBytes bs → signature_of bs ≡ Some (r, s) → bs ≡ sig_value r s
unfolding signature_of sig_value
signature_sound bs r s h e =
    and_then_some _ (whole 0x30 bs) _ e λ ns a e1.
    and_then_some _ (element 2 ns) _ e1 λ first b e2.
    and_then_some _ (whole 2 first.1) _ e2 λ second c e3.
    and_then_some _ (wide 32 first.0) _ e3 λ x f e4.
    and_then_some _ (wide 32 second) _ e4 λ y g e5.
    let q : (x, y) ≡ (r, s) = cc (e5) in
    let x_is : x ≡ r = ap (λ (p : List ℕ × List ℕ). p.0) q in
    let y_is : y ≡ s = ap (λ (p : List ℕ × List ℕ). p.1) q in
    let t = two_sound bs ns first.0 first.1 second h a b c in
    let u = wide_sound 32 first.0 x f in
    let v = wide_sound 32 second y g in
    t.0 ∙ (ap (λ (w : List ℕ). der 0x30 (der 2 w ++ der 2 second)) (u.0 ∙ ap (λ (z : List ℕ). shorten (0 ∷ z)) x_is) ∙ ap (λ (w : List ℕ). der 0x30 (der 2 (shorten (0 ∷ r)) ++ der 2 w)) (v.0 ∙ ap (λ (z : List ℕ). shorten (0 ∷ z)) y_is))

signature_back : (a b r s : List ℕ) → length a ≤ 33 → length b ≤ 33 → wide 32 a ≡ Some r → wide 32 b ≡ Some s → signature_of (der 0x30 (der 2 a ++ der 2 b)) ≡ Some (r, s)
unfolding signature_of
signature_back a b r s h k e f =
    let l = two_few a b (omega arith) in
    let x = whole_complete 0x30 (der 2 a ++ der 2 b) l in
    let y = element_complete 2 a (der 2 b) (omega arith) in
    let z = whole_complete 2 b (omega arith) in
    rw (x, y, z, e, f) refl

pub signature_complete : (r s : List ℕ) → length r ≡ 32 → length s ≡ 32 → signature_of (sig_value r s) ≡ Some (r, s)
unfolding sig_value
signature_complete r s h k =
    signature_back (shorten (0 ∷ r)) (shorten (0 ∷ s)) r s (omega (arith, shorter (0 ∷ r))) (omega (arith, shorter (0 ∷ s))) (wide_complete 32 r h) (wide_complete 32 s k)

pub signature_some : (bs : List ℕ) (o : Option (List ℕ × List ℕ)) → IsBytes bs → o ≡ signature_of bs → IfSome o (λ p. bs ≡ sig_value p.0 p.1)
signature_some bs None h e = tt
signature_some bs (Some p) h e = signature_sound bs p.0 p.1 h (sym e)

-- ---- RSA

pub numbers_sound : (bs n : List ℕ) (e : ℕ) → IsBytes bs → rsa_numbers bs ≡ Some (n, e) → bs ≡ rsa_public_key n e
unfolding rsa_numbers
numbers_sound bs n e h q =
    and_then_some _ (whole 0x30 bs) _ q λ ns a e1.
    and_then_some _ (element 2 ns) _ e1 λ first b e2.
    and_then_some _ (whole 2 first.1) _ e2 λ second c e3.
    and_then_some _ (magnitude first.0) _ e3 λ x f e4.
    and_then_some _ (wide 8 second) _ e4 λ y g e5.
    let p : (x, from_be_bytes w64 y) ≡ (n, e) = cc (e5) in
    let x_is : x ≡ n = ap (λ (p : List ℕ × ℕ). p.0) p in
    let e_is : from_be_bytes w64 y ≡ e = ap (λ (p : List ℕ × ℕ). p.1) p in
    let t = two_sound bs ns first.0 first.1 second h a b c in
    let u : first.0 ≡ shorten (0 ∷ x) = magnitude_sound first.0 x f in
    let v = wide_sound 8 second y g in
    let hs : IsBytes (shorten (0 ∷ y)) = subst IsBytes v.0 t.1 in
    let y_is : to_be_bytes w64 e ≡ y = be_bytes_8 y e v.1 (bytes_at y (bytes_shortened y 0 hs).1) (sym e_is) in
    t.0 ∙ (ap (λ (w : List ℕ). der 0x30 (der 2 w ++ der 2 second)) (u ∙ ap (λ (z : List ℕ). shorten (0 ∷ z)) x_is) ∙ ap (λ (w : List ℕ). der 0x30 (der 2 (shorten (0 ∷ n)) ++ der 2 w)) (v.0 ∙ ap (λ (z : List ℕ). shorten (0 ∷ z)) (sym y_is)))

numbers_back : (a b m x : List ℕ) → length a + length b < 2 ^ 31 + 64 → magnitude a ≡ Some m → wide 8 b ≡ Some x → rsa_numbers (der 0x30 (der 2 a ++ der 2 b)) ≡ Some (m, from_be_bytes w64 x)
unfolding rsa_numbers
numbers_back a b m x h e f =
    let l = two_few a b h in
    let p = whole_complete 0x30 (der 2 a ++ der 2 b) l in
    let q = element_complete 2 a (der 2 b) (omega arith) in
    let r = whole_complete 2 b (omega arith) in
    rw (p, q, r, e, f) refl

pub numbers_complete : (n : List ℕ) (e : ℕ) → 0 < slice_index n 0 → length n < 2 ^ 31 → e < 2 ^ 64 → rsa_numbers (rsa_public_key n e) ≡ Some (n, e)
numbers_complete n e h k l =
    let x : List ℕ = to_be_bytes w64 e in
    let w : length x ≡ 8 = eight e in
    let a = shorter (0 ∷ n) in
    let b = shorter (0 ∷ x) in
    numbers_back (shorten (0 ∷ n)) (shorten (0 ∷ x)) n x (omega arith) (magnitude_complete n h) (wide_complete 8 x w)
    ∙ ap (λ (z : ℕ). Some (n, z)) (from_be_bytes-to_be_bytes_8 e l)
  where
    eight : (e : ℕ) → length (to_be_bytes w64 e) ≡ 8
    eight e = refl

pub rsa_sound : (bs n : List ℕ) (e : ℕ) → IsBytes bs → rsa_key_of bs ≡ Some (n, e) → bs ≡ spki_rsa n e
unfolding rsa_key_of after_rsa spki_rsa
rsa_sound bs n e h q =
    and_then_some _ (whole 0x30 bs) _ q λ parts a e1.
    and_then_some _ (after (der_sequence (der_oid rsa_encryption ++ der_null)) parts) _ e1 λ key b e2.
    and_then_some _ (whole 3 key) _ e2 λ bits c e3.
    and_then_some _ (after (0 ∷ []) bits) _ e3 λ numbers d e4.
    let pa = whole_sound 0x30 bs parts h a in
    let hp = bytes_whole 0x30 parts bs pa h in
    let pb = after_sound (der_sequence (der_oid rsa_encryption ++ der_null)) parts key b in
    let hk = bytes_right (der_sequence (der_oid rsa_encryption ++ der_null)) key (subst IsBytes pb hp) in
    let pc = whole_sound 3 key bits hk c in
    let hb = bytes_whole 3 bits key pc hk in
    let pd : bits ≡ 0 ∷ numbers = after_sound (0 ∷ []) bits numbers d in
    let hn = (subst IsBytes pd hb).1 in
    let pe = numbers_sound numbers n e hn e4 in
    pa ∙ ap (λ (w : List ℕ). der 0x30 w) (pb ∙ ap (λ (w : List ℕ). der_sequence (der_oid rsa_encryption ++ der_null) ++ w) (pc ∙ ap (λ (w : List ℕ). der 3 w) (pd ∙ ap (λ (w : List ℕ). 0 ∷ w) pe)))

rsa_back : (alg key : List ℕ) (r : List ℕ × ℕ) → length alg ≤ 64 → length key < 2 ^ 31 + 128 → der_sequence (der_oid rsa_encryption ++ der_null) ≡ alg → rsa_numbers key ≡ Some r → rsa_key_of (der 0x30 (alg ++ der 3 (0 ∷ key))) ≡ Some r
unfolding rsa_key_of after_rsa
rsa_back alg key r h k e f =
    let b = der_few 3 (0 ∷ key) in
    let l = length-append alg (der 3 (0 ∷ key)) in
    let p = whole_complete 0x30 (alg ++ der 3 (0 ∷ key)) (omega arith) in
    let q = after_complete alg (der 3 (0 ∷ key)) in
    let s = whole_complete 3 (0 ∷ key) (omega arith) in
    let t = after_complete (0 ∷ []) key in
    rw (p, e, q, s, t, f) refl

algorithm_few : length (der_sequence (der_oid rsa_encryption ++ der_null)) ≤ 64
unfolding length_octets
algorithm_few = omega arith

pub rsa_complete : (n : List ℕ) (e : ℕ) → 0 < slice_index n 0 → length n < 2 ^ 31 → e < 2 ^ 64 → rsa_key_of (spki_rsa n e) ≡ Some (n, e)
unfolding spki_rsa
rsa_complete n e h k l =
    let x : List ℕ = to_be_bytes w64 e in
    let a = shorter (0 ∷ n) in
    let b : length (shorten (0 ∷ x)) ≤ 9 = shorter (0 ∷ x) in
    let c = der_few 2 (shorten (0 ∷ n)) in
    let d = der_few 2 (shorten (0 ∷ x)) in
    let f = length-append (der 2 (shorten (0 ∷ n))) (der 2 (shorten (0 ∷ x))) in
    let g = der_few 0x30 (der 2 (shorten (0 ∷ n)) ++ der 2 (shorten (0 ∷ x))) in
    rsa_back (der_sequence (der_oid rsa_encryption ++ der_null)) (rsa_public_key n e) (n, e) algorithm_few (omega arith) refl (numbers_complete n e h k l)

pub rsa_some : (bs : List ℕ) (o : Option (Bor (List ℕ) × ℕ)) → IsBytes bs → key_view o ≡ rsa_key_of bs → IfSome o (λ k. bs ≡ spki_rsa k.0.now k.1)
rsa_some bs None h e = tt
rsa_some bs (Some k) h e = rsa_sound bs k.0.now k.1 h (sym e)

pub rsa_fits : (n : List ℕ) (e : ℕ) → length n ≤ 1024 → length (spki_rsa n e) ≤ 3072
unfolding spki_rsa
rsa_fits n e h =
    let x : List ℕ = to_be_bytes w64 e in
    let a = shorter (0 ∷ n) in
    let b : length (shorten (0 ∷ x)) ≤ 9 = shorter (0 ∷ x) in
    let c = der_few 2 (shorten (0 ∷ n)) in
    let d = der_few 2 (shorten (0 ∷ x)) in
    let f = length-append (der 2 (shorten (0 ∷ n))) (der 2 (shorten (0 ∷ x))) in
    let g = der_few 0x30 (der 2 (shorten (0 ∷ n)) ++ der 2 (shorten (0 ∷ x))) in
    let i = der_few 3 (0 ∷ rsa_public_key n e) in
    let j = length-append (der_sequence (der_oid rsa_encryption ++ der_null)) (der 3 (0 ∷ rsa_public_key n e)) in
    let k = der_few 0x30 (der_sequence (der_oid rsa_encryption ++ der_null) ++ der 3 (0 ∷ rsa_public_key n e)) in
    let l = algorithm_few in
    omega arith
