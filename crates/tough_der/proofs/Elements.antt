-- Elements: what is read is what was written.
use Rattle.std.proofs.Common.{◌≡◌, ℕ, zero, suc, ◌<◌, ◌≤◌, ◌^◌, true, nat_lt, nat_eq, List, [], ◌∷◌, ◌++◌, length, get_or, take, drop, Some, refl, sym, ap, ◌∙◌, subst, arith, length-append, take-append-drop, append_assoc}
use Rattle.std.specs.Prelude.{option_and_then, bytes_eq}
use Rattle.std.proofs.Math.Seq.{drop-append_seam, take-append_seam}
use Rattle.std.proofs.lemmas.Bool.{le-ltb, ltb-false}
use Rattle.std.proofs.lemmas.List.{length-take-le, append-nil}
use Rattle.std.proofs.lemmas.Slice.Eq.{bytes_eq-Decides}
use Rattle.tough_der.specs.Der.{length_octets, der}
use Rattle.tough_der.specs.Reading.{length_at, split, element, if_last, whole, after, of_length}
use Rattle.tough_der.proofs.Options.{if_some, unless_some, and_then_some}
use Rattle.tough_der.proofs.Lengths.{IsBytes, same, yes, zero_octets, length_sound, length_complete}

-- ---- bytes

pub bytes_from : (xs : List ℕ) → ((k : ℕ) → get_or xs k 0 < 256) → IsBytes xs
bytes_from [] h = tt
bytes_from (x ∷ xs) h = (h 0, bytes_from xs (λ k. h (suc k)))

pub bytes_at : (xs : List ℕ) → IsBytes xs → (k : ℕ) → get_or xs k 0 < 256
bytes_at [] h k = omega arith
bytes_at (x ∷ xs) h zero = h.0
bytes_at (x ∷ xs) h (suc k) = bytes_at xs h.1 k

pub bytes_right : (xs ys : List ℕ) → IsBytes (xs ++ ys) → IsBytes ys
bytes_right [] ys h = h
bytes_right (x ∷ xs) ys h = bytes_right xs ys h.1

pub bytes_left : (xs ys : List ℕ) → IsBytes (xs ++ ys) → IsBytes xs
bytes_left [] ys h = tt
bytes_left (x ∷ xs) ys h = (h.0, bytes_left xs ys h.1)

-- what the contents of an element and what follows it are made of
pub bytes_inside : (tag : ℕ) (c r bs : List ℕ) → bs ≡ der tag c ++ r → IsBytes bs → IsBytes c
bytes_inside tag c r bs e h =
    let b : IsBytes (der tag c ++ r) = subst IsBytes e h in
    bytes_right (length_octets (length c)) c (bytes_left (der tag c) r b).1

pub bytes_behind : (tag : ℕ) (c r bs : List ℕ) → bs ≡ der tag c ++ r → IsBytes bs → IsBytes r
bytes_behind tag c r bs e h = bytes_right (der tag c) r (subst IsBytes e h)

pub bytes_whole : (tag : ℕ) (c bs : List ℕ) → bs ≡ der tag c → IsBytes bs → IsBytes c
bytes_whole tag c bs e h = bytes_right (length_octets (length c)) c (subst IsBytes e h).1

-- ---- so many bytes

pub split_sound : (n : ℕ) (q c r : List ℕ) → split n q ≡ Some (c, r) → (q ≡ c ++ r) × (length c ≡ n)
split_sound n q c r e =
    let f = unless_some (nat_lt (length q) n) (Some (take n q, drop n q)) (c, r) e in
    let p : (take n q, drop n q) ≡ (c, r) = cc (f.1) in
    let x : take n q ≡ c = ap (λ (p : List ℕ × List ℕ). p.0) p in
    let y : drop n q ≡ r = ap (λ (p : List ℕ × List ℕ). p.1) p in
    let l : n ≤ length q = ltb-false (length q) n f.0 in
    (sym (take-append-drop n q) ∙ (ap (λ (z : List ℕ). z ++ drop n q) x ∙ ap (λ (z : List ℕ). c ++ z) y), ap length (sym x) ∙ length-take-le n q l)

pub split_complete : (c r : List ℕ) → split (length c) (c ++ r) ≡ Some (c, r)
split_complete c r =
    let n = length-append c r in
    rw (le-ltb (length (c ++ r)) (length c) (omega arith), take-append_seam c r, drop-append_seam c r) refl

-- ---- elements

pub element_sound : (tag : ℕ) (bs c r : List ℕ) → IsBytes bs → element tag bs ≡ Some (c, r) → bs ≡ der tag c ++ r
unfolding element
element_sound tag [] c r h e = absurd (cc)
element_sound tag (t ∷ bs) c r h e =
    let f = if_some (nat_eq t tag) (option_and_then (λ (p : ℕ × List ℕ). split p.0 p.1) (length_at bs)) (c, r) e in
    and_then_some (λ (p : ℕ × List ℕ). split p.0 p.1) (length_at bs) (c, r) f.1
    (λ p x y.
    let l = length_sound bs p.0 p.1 h.1 x in
    let s = split_sound p.0 p.1 c r y in
    let o : length_octets p.0 ≡ length_octets (length c) = ap length_octets (sym s.1) in
    ap (λ (z : ℕ). z ∷ bs) (same t tag f.0)
    ∙ ap (λ (z : List ℕ). tag ∷ z) (l ∙ (ap (λ (z : List ℕ). z ++ p.1) o ∙ (ap (λ (z : List ℕ). length_octets (length c) ++ z) s.0 ∙ sym (append_assoc (length_octets (length c)) c r)))))

pub element_complete : (tag : ℕ) (c r : List ℕ) → length c < 2 ^ 32 → element tag (der tag c ++ r) ≡ Some (c, r)
unfolding element
element_complete tag c r h =
    let l : length_at (length_octets (length c) ++ (c ++ r)) ≡ Some (length c, c ++ r) = length_complete (length c) (c ++ r) h in
    let a : (length_octets (length c) ++ c) ++ r ≡ length_octets (length c) ++ (c ++ r) = append_assoc (length_octets (length c)) c r in
    let s = split_complete c r in
    rw (yes tag, a, l) s

pub whole_sound : (tag : ℕ) (bs c : List ℕ) → IsBytes bs → whole tag bs ≡ Some c → bs ≡ der tag c
unfolding whole
whole_sound tag bs c h e =
    and_then_some if_last (element tag bs) c e
    (λ p x y.
    let f = if_some (nat_eq (length p.1) 0) (Some p.0) c y in
    let q : p.0 ≡ c = cc (f.1) in
    let n : p.1 ≡ [] = none p.1 (same (length p.1) 0 f.0) in
    element_sound tag bs p.0 p.1 h x ∙ (ap (λ (z : List ℕ). der tag p.0 ++ z) n ∙ (append-nil (der tag p.0) ∙ ap (λ (z : List ℕ). der tag z) q)))
  where
    none : (xs : List ℕ) → length xs ≡ 0 → xs ≡ []
    none [] e = refl
    none (x ∷ xs) e = absurd (omega arith)

pub whole_complete : (tag : ℕ) (c : List ℕ) → length c < 2 ^ 32 → whole tag (der tag c) ≡ Some c
unfolding whole
whole_complete tag c h =
    let e : element tag (der tag c) ≡ Some (c, []) = ap (element tag) (sym (append-nil (der tag c))) ∙ element_complete tag c [] h in
    rw e refl

-- ---- what stands in front

pub after_sound : (front bs r : List ℕ) → after front bs ≡ Some r → bs ≡ front ++ r
unfolding after
after_sound front bs r e =
    let f = if_some (bytes_eq (take (length front) bs) front) (Some (drop (length front) bs)) r e in
    let q : drop (length front) bs ≡ r = cc (f.1) in
    let t : take (length front) bs ≡ front = (bytes_eq-Decides (take (length front) bs) front).0 f.0 in
    sym (take-append-drop (length front) bs) ∙ (ap (λ (z : List ℕ). z ++ drop (length front) bs) t ∙ ap (λ (z : List ℕ). front ++ z) q)

pub after_complete : (front r : List ℕ) → after front (front ++ r) ≡ Some r
unfolding after
after_complete front r =
    let t : take (length front) (front ++ r) ≡ front = take-append_seam front r in
    let b : bytes_eq (take (length front) (front ++ r)) front ≡ true = (bytes_eq-Decides (take (length front) (front ++ r)) front).1 t in
    rw (b, drop-append_seam front r) refl

pub length_some : (n : ℕ) (bs c : List ℕ) → of_length n bs ≡ Some c → (bs ≡ c) × (length c ≡ n)
length_some n bs c e =
    let f = if_some (nat_eq (length bs) n) (Some bs) c e in
    let q : bs ≡ c = cc (f.1) in
    (q, ap length (sym q) ∙ same (length bs) n f.0)

pub some_length : (bs : List ℕ) (n : ℕ) → length bs ≡ n → of_length n bs ≡ Some bs
some_length bs n h = rw (h, yes n) refl

-- ---- short elements

short : (tag : ℕ) (c : List ℕ) → length c < 128 → der tag c ≡ tag ∷ length c ∷ c
short tag c h = ap (λ (z : List ℕ). tag ∷ (z ++ c)) (zero_octets (length c) h)

-- a tag, a length and contents that were appended are the element
pub appended : (old a b c bytes : List ℕ) (tag n : ℕ) → a ≡ old ++ tag ∷ [] → b ≡ a ++ n ∷ [] → c ≡ b ++ bytes → n ≡ length bytes → length bytes < 128 → c ≡ old ++ der tag bytes
appended old a b c bytes tag n p q r e h =
    let x : c ≡ ((old ++ tag ∷ []) ++ n ∷ []) ++ bytes = r ∙ ap (λ (z : List ℕ). z ++ bytes) (q ∙ ap (λ (z : List ℕ). z ++ n ∷ []) p) in
    let y : ((old ++ tag ∷ []) ++ n ∷ []) ++ bytes ≡ old ++ (tag ∷ n ∷ bytes) = append_assoc (old ++ tag ∷ []) (n ∷ []) bytes ∙ append_assoc old (tag ∷ []) (n ∷ bytes) in
    x ∙ (y ∙ ap (λ (z : List ℕ). old ++ z) (ap (λ (m : ℕ). tag ∷ m ∷ bytes) e ∙ sym (short tag bytes h)))
