-- Keys of one length: they stand behind what does not change.
use Rattle.std.proofs.Common.{◌≡◌, ℕ, List, ◌∷◌, ◌++◌, length, take, Some, None, refl, sym, ap, ◌∙◌, arith, length-append}
use Rattle.std.specs.Prelude.{Option, option_and_then, IfSome}
use Rattle.std.specs.Borrow.{Bor}
use Rattle.tough_der.specs.Der.{length_octets, shorten, der_oid, id_ec_public_key, secp256r1, pkcs8, ec_private_key, spki_p256, spki_ed25519, pkcs8_ed25519, pkcs8_p256}
use Rattle.tough_der.specs.Reading.{after, of_length, split, bytes_view, pair_view}
use Rattle.tough_der.specs.Keys.{p256_front, ed25519_front, ed25519_secret_front, p256_secret_front, p256_point_front, p256_key_of, ed25519_key_of, ed25519_secret_of, p256_secret_of, IsP256Secret}
use Rattle.tough_der.proofs.Options.{and_then_some}
use Rattle.tough_der.proofs.Elements.{split_sound, split_complete, after_sound, after_complete, length_some, some_length}

-- ---- what they are

pub spki_p256_is : (p : List ℕ) → length p ≡ 65 → spki_p256 p ≡ p256_front ++ p
unfolding spki_p256 length_octets
spki_p256_is p h = rw (h, h) refl

pub spki_ed25519_is : (k : List ℕ) → length k ≡ 32 → spki_ed25519 k ≡ ed25519_front ++ k
unfolding spki_ed25519 length_octets
spki_ed25519_is k h = rw (h, h) refl

pub pkcs8_ed25519_is : (s : List ℕ) → length s ≡ 32 → pkcs8_ed25519 s ≡ ed25519_secret_front ++ s
unfolding pkcs8_ed25519 length_octets shorten
pkcs8_ed25519_is s h = rw (h, h, h) refl

ec_private_key_is : (s p : List ℕ) → length s ≡ 32 → length p ≡ 65 → ec_private_key s p ≡ 0x30 ∷ 0x6b ∷ 0x02 ∷ 0x01 ∷ 0x01 ∷ 0x04 ∷ 0x20 ∷ (s ++ (p256_point_front ++ p))
unfolding length_octets shorten
ec_private_key_is s p h k =
    let l : length (s ++ (p256_point_front ++ p)) ≡ 102 = length-append s (p256_point_front ++ p) ∙ omega (arith, h, k) in
    rw (k, k, h, l) refl

pkcs8_is : (key : List ℕ) → length key ≡ 109 → pkcs8 (der_oid id_ec_public_key ++ der_oid secp256r1) key ≡ take 29 p256_secret_front ++ key
unfolding length_octets shorten
pkcs8_is key h = rw (h, h) refl

pub pkcs8_p256_is : (s p : List ℕ) → length s ≡ 32 → length p ≡ 65 → pkcs8_p256 s p ≡ p256_secret_front ++ (s ++ (p256_point_front ++ p))
unfolding pkcs8_p256
pkcs8_p256_is s p h k =
    let l : length (s ++ (p256_point_front ++ p)) ≡ 102 = length-append s (p256_point_front ++ p) ∙ omega (arith, h, k) in
    let e = ec_private_key_is s p h k in
    let n : length (ec_private_key s p) ≡ 109 = ap length e ∙ omega (arith, l) in
    pkcs8_is (ec_private_key s p) n ∙ ap (λ (key : List ℕ). take 29 p256_secret_front ++ key) e

-- ---- one that stands at the end

front_sound : (front : List ℕ) (n : ℕ) (bs c : List ℕ) → option_and_then (of_length n) (after front bs) ≡ Some c → (bs ≡ front ++ c) × (length c ≡ n)
front_sound front n bs c e =
    and_then_some (of_length n) (after front bs) c e
    (λ rest a b. let f = length_some n rest c b in (after_sound front bs rest a ∙ ap (λ (w : List ℕ). front ++ w) f.0, f.1))

front_complete : (front : List ℕ) (n : ℕ) (c : List ℕ) → length c ≡ n → option_and_then (of_length n) (after front (front ++ c)) ≡ Some c
front_complete front n c h = rw (after_complete front c) (some_length c n h)

-- ---- public keys

p256_sound : (bs p : List ℕ) → p256_key_of bs ≡ Some p → (bs ≡ spki_p256 p) × (length p ≡ 65)
unfolding p256_key_of
p256_sound bs p e = let f = front_sound p256_front 65 bs p e in (f.0 ∙ sym (spki_p256_is p f.1), f.1)

pub p256_complete : (p : List ℕ) → length p ≡ 65 → p256_key_of (spki_p256 p) ≡ Some p
unfolding p256_key_of
p256_complete p h = rw (spki_p256_is p h) (front_complete p256_front 65 p h)

pub p256_some : (bs : List ℕ) (o : Option (Bor (List ℕ))) → bytes_view o ≡ p256_key_of bs → IfSome o (λ p. (bs ≡ spki_p256 p.now) × (length p.now ≡ 65))
p256_some bs None e = tt
p256_some bs (Some p) e = p256_sound bs p.now (sym e)

ed25519_sound : (bs k : List ℕ) → ed25519_key_of bs ≡ Some k → (bs ≡ spki_ed25519 k) × (length k ≡ 32)
unfolding ed25519_key_of
ed25519_sound bs k e = let f = front_sound ed25519_front 32 bs k e in (f.0 ∙ sym (spki_ed25519_is k f.1), f.1)

pub ed25519_complete : (k : List ℕ) → length k ≡ 32 → ed25519_key_of (spki_ed25519 k) ≡ Some k
unfolding ed25519_key_of
ed25519_complete k h = rw (spki_ed25519_is k h) (front_complete ed25519_front 32 k h)

pub ed25519_some : (bs : List ℕ) (o : Option (Bor (List ℕ))) → bytes_view o ≡ ed25519_key_of bs → IfSome o (λ k. (bs ≡ spki_ed25519 k.now) × (length k.now ≡ 32))
ed25519_some bs None e = tt
ed25519_some bs (Some k) e = ed25519_sound bs k.now (sym e)

-- ---- secret keys

secret_sound : (bs s : List ℕ) → ed25519_secret_of bs ≡ Some s → (bs ≡ pkcs8_ed25519 s) × (length s ≡ 32)
unfolding ed25519_secret_of
secret_sound bs s e = let f = front_sound ed25519_secret_front 32 bs s e in (f.0 ∙ sym (pkcs8_ed25519_is s f.1), f.1)

pub secret_complete : (s : List ℕ) → length s ≡ 32 → ed25519_secret_of (pkcs8_ed25519 s) ≡ Some s
unfolding ed25519_secret_of
secret_complete s h = rw (pkcs8_ed25519_is s h) (front_complete ed25519_secret_front 32 s h)

pub secret_some : (bs : List ℕ) (o : Option (Bor (List ℕ))) → bytes_view o ≡ ed25519_secret_of bs → IfSome o (λ s. (bs ≡ pkcs8_ed25519 s.now) × (length s.now ≡ 32))
secret_some bs None e = tt
secret_some bs (Some s) e = secret_sound bs s.now (sym e)

pair_sound : (bs s p : List ℕ) → p256_secret_of bs ≡ Some (s, p) → IsP256Secret bs s p
unfolding p256_secret_of
pair_sound bs s p e =
    and_then_some _ (after p256_secret_front bs) _ e λ rest a e1.
    and_then_some _ (split 32 rest) _ e1 λ halves b e2.
    and_then_some _ (after p256_point_front halves.1) _ e2 λ point c e3.
    and_then_some _ (of_length 65 point) _ e3 λ w d e4.
    let q : (halves.0, w) ≡ (s, p) = cc (e4) in
    let x : halves.0 ≡ s = ap (λ (z : List ℕ × List ℕ). z.0) q in
    let y : w ≡ p = ap (λ (z : List ℕ × List ℕ). z.1) q in
    let f = split_sound 32 rest halves.0 halves.1 b in
    let g = length_some 65 point w d in
    let i : length s ≡ 32 = ap length (sym x) ∙ f.1 in
    let j : length p ≡ 65 = ap length (sym y) ∙ g.1 in
    let k : halves.1 ≡ p256_point_front ++ p = after_sound p256_point_front halves.1 point c ∙ ap (λ (z : List ℕ). p256_point_front ++ z) (g.0 ∙ y) in
    let l : rest ≡ s ++ (p256_point_front ++ p) = f.0 ∙ (ap (λ (z : List ℕ). z ++ halves.1) x ∙ ap (λ (z : List ℕ). s ++ z) k) in
    (after_sound p256_secret_front bs rest a ∙ (ap (λ (z : List ℕ). p256_secret_front ++ z) l ∙ sym (pkcs8_p256_is s p i j)), (i, j))

pair_back : (s p : List ℕ) → length s ≡ 32 → length p ≡ 65 → p256_secret_of (p256_secret_front ++ (s ++ (p256_point_front ++ p))) ≡ Some (s, p)
unfolding p256_secret_of
pair_back s p h k =
    let a = after_complete p256_secret_front (s ++ (p256_point_front ++ p)) in
    let b : split 32 (s ++ (p256_point_front ++ p)) ≡ Some (s, p256_point_front ++ p) = ap (λ (n : ℕ). split n (s ++ (p256_point_front ++ p))) (sym h) ∙ split_complete s (p256_point_front ++ p) in
    let c = after_complete p256_point_front p in
    let d = some_length p 65 k in
    rw (a, b, c, d) refl

pub pair_complete : (s p : List ℕ) → length s ≡ 32 → length p ≡ 65 → p256_secret_of (pkcs8_p256 s p) ≡ Some (s, p)
pair_complete s p h k = rw (pkcs8_p256_is s p h k) (pair_back s p h k)

pub pair_some : (bs : List ℕ) (o : Option (Bor (List ℕ) × Bor (List ℕ))) → pair_view o ≡ p256_secret_of bs → IfSome o (λ k. IsP256Secret bs k.0.now k.1.now)
pair_some bs None e = tt
pair_some bs (Some k) e = pair_sound bs k.0.now k.1.now (sym e)
