-- The contents of integers: what is read is what was shortened.
use Rattle.std.proofs.Common.{◌≡◌, ℕ, zero, suc, ◌-◌, ◌<◌, ◌≤◌, Bool, true, false, not, ◌&&◌, nat_lt, nat_eq, List, [], ◌∷◌, ◌++◌, length, replicate, slice_index, Some, refl, sym, ap, ◌∙◌, subst, arith, length-append}
use Rattle.std.proofs.lemmas.Bool.{lt-ltb, le-ltb, ltb-true, ltb-false, eqb-true, ne_eqb}
use Rattle.std.proofs.lemmas.List.{length-replicate}
use Rattle.tough_der.specs.Der.{shorten}
use Rattle.tough_der.specs.Reading.{is_shortest, without_zero, magnitude, widen}
use Rattle.std.specs.Prelude.{option_and_then, if◌then◌else◌}
use Rattle.tough_der.proofs.Lengths.{IsBytes}
use Rattle.tough_der.proofs.Options.{and_left, and_right, not_not, if_some, unless_some, and_then_some}

is_0 : (b : ℕ) → nat_eq b 0 ≡ true → b ≡ 0
is_0 b e = eqb-true b 0 e

shortest_step : (t : Bool) (b c : ℕ) (cs : List ℕ) → (nat_eq b 0 && nat_lt c 128) ≡ t → b < 128 → (c < 128 → is_shortest (shorten (c ∷ cs)) ≡ true) → is_shortest (shorten (b ∷ c ∷ cs)) ≡ true
unfolding shorten is_shortest
shortest_step true b c cs e h ih = rw e (ih (ltb-true c 128 (and_right (nat_eq b 0) (nat_lt c 128) e)))
shortest_step false b c cs e h ih = rw (e, e, lt-ltb b 128 h) refl

pub shorten_is_shortest : (cs : List ℕ) (b : ℕ) → b < 128 → is_shortest (shorten (b ∷ cs)) ≡ true
unfolding shorten is_shortest
shorten_is_shortest [] b h = lt-ltb b 128 h
shorten_is_shortest (c ∷ cs) b h = shortest_step (nat_eq b 0 && nat_lt c 128) b c cs refl h (shorten_is_shortest cs c)

shorter_step : (t : Bool) (b c : ℕ) (cs : List ℕ) → (nat_eq b 0 && nat_lt c 128) ≡ t → length (shorten (c ∷ cs)) ≤ length (c ∷ cs) → length (shorten (b ∷ c ∷ cs)) ≤ length (b ∷ c ∷ cs)
unfolding shorten
shorter_step true b c cs e ih = rw e (omega arith)
shorter_step false b c cs e ih = rw e (omega arith)

pub shorter : (bs : List ℕ) → length (shorten bs) ≤ length bs
unfolding shorten
shorter [] = omega arith
shorter (b ∷ []) = omega arith
shorter (b ∷ c ∷ cs) = shorter_step (nat_eq b 0 && nat_lt c 128) b c cs refl (shorter (c ∷ cs))

kept : (c : List ℕ) → is_shortest c ≡ true → shorten c ≡ c
unfolding shorten is_shortest
kept [] e = absurd (cc)
kept (b ∷ []) e = refl
kept (b ∷ d ∷ ds) e = rw (not_not (nat_eq b 0 && nat_lt d 128) (and_right (nat_lt b 128) (not (nat_eq b 0 && nat_lt d 128)) e)) refl

first_low : (b : ℕ) (cs : List ℕ) → is_shortest (b ∷ cs) ≡ true → nat_lt b 128 ≡ true
unfolding is_shortest
first_low b [] e = e
first_low b (d ∷ ds) e = and_left (nat_lt b 128) (not (nat_eq b 0 && nat_lt d 128)) e

not_none : is_shortest [] ≡ true → ⊥
unfolding is_shortest
not_none e = cc

-- zeros in front change nothing
more_zeros : (k : ℕ) (cs : List ℕ) → shorten (replicate k 0 ++ (0 ∷ cs)) ≡ shorten (0 ∷ cs)
unfolding shorten
more_zeros zero cs = refl
more_zeros (suc zero) cs = refl
more_zeros (suc (suc k)) cs = more_zeros (suc k) cs

zeros_front : (k : ℕ) (cs : List ℕ) → 0 ∷ (replicate k 0 ++ cs) ≡ replicate k 0 ++ (0 ∷ cs)
zeros_front zero cs = refl
zeros_front (suc k) cs = ap (λ (z : List ℕ). 0 ∷ z) (zeros_front k cs)

pub widened : (k : ℕ) (cs : List ℕ) → shorten (0 ∷ (replicate k 0 ++ cs)) ≡ shorten (0 ∷ cs)
widened k cs = ap shorten (zeros_front k cs) ∙ more_zeros k cs

-- the contents are those of the number's bytes
zero_step : (t : Bool) (b : ℕ) (cs : List ℕ) → nat_eq b 0 ≡ t → is_shortest (b ∷ cs) ≡ true → shorten (0 ∷ without_zero (b ∷ cs)) ≡ b ∷ cs
unfolding shorten
zero_step true b cs e s =
    let z : b ≡ 0 = is_0 b e in
    let k : shorten (0 ∷ cs) ≡ 0 ∷ cs = subst (λ (d : ℕ). shorten (d ∷ cs) ≡ d ∷ cs) z (kept (b ∷ cs) s) in
    rw (e, k, z) refl
zero_step false b cs e s = let l = first_low b cs s in rw (e, l) (kept (b ∷ cs) s)

pub contents : (bs : List ℕ) → is_shortest bs ≡ true → shorten (0 ∷ without_zero bs) ≡ bs
contents [] e = absurd (not_none e)
contents (b ∷ bs) e = zero_step (nat_eq b 0) b bs refl e

pub magnitude_sound : (bs m : List ℕ) → magnitude bs ≡ Some m → bs ≡ shorten (0 ∷ m)
unfolding magnitude
magnitude_sound bs m e =
    let f = if_some (is_shortest bs) (Some (without_zero bs)) m e in
    let q : without_zero bs ≡ m = cc (f.1) in
    sym (contents bs f.0) ∙ ap (λ (z : List ℕ). shorten (0 ∷ z)) q

-- the number's bytes are those of the contents
first_shortened : (t : Bool) (b : ℕ) (cs : List ℕ) → nat_lt b 128 ≡ t → 0 < b → without_zero (shorten (0 ∷ b ∷ cs)) ≡ b ∷ cs
unfolding shorten
first_shortened true b cs e h =
    let n : nat_eq b 0 ≡ false = ne_eqb b 0 (λ z. absurd (omega arith)) in
    rw (e, kept_first cs) (rw n refl)
  where
    kept_first : (cs : List ℕ) → shorten (b ∷ cs) ≡ b ∷ cs
    kept_first [] = refl
    kept_first (c ∷ cs) = let n : nat_eq b 0 ≡ false = ne_eqb b 0 (λ z. absurd (omega arith)) in rw n refl
first_shortened false b cs e h = rw e refl

pub bytes_of : (m : List ℕ) → 0 < slice_index m 0 → without_zero (shorten (0 ∷ m)) ≡ m
bytes_of [] h = absurd (omega arith)
bytes_of (b ∷ cs) h = first_shortened (nat_lt b 128) b cs refl h

pub magnitude_complete : (m : List ℕ) → 0 < slice_index m 0 → magnitude (shorten (0 ∷ m)) ≡ Some m
unfolding magnitude
magnitude_complete m h = rw (shorten_is_shortest m 0 (omega arith), bytes_of m h) refl

-- ---- a number in so many bytes

-- without the zeros in front
abbrev strip : List ℕ → List ℕ
strip [] = []
strip (b ∷ cs) = if nat_eq b 0 then strip cs else b ∷ cs

stripped_step : (t : Bool) (b : ℕ) (cs : List ℕ) → nat_eq b 0 ≡ t → without_zero (shorten (0 ∷ cs)) ≡ strip cs → without_zero (shorten (0 ∷ b ∷ cs)) ≡ strip (b ∷ cs)
unfolding shorten
stripped_step true b cs e ih =
    let z : b ≡ 0 = is_0 b e in
    let w : without_zero (shorten (0 ∷ b ∷ cs)) ≡ strip cs = subst (λ (d : ℕ). without_zero (shorten (0 ∷ d ∷ cs)) ≡ strip cs) (sym z) ih in
    rw e w
stripped_step false b cs e ih =
    let p : 0 < b = positive b e in
    let w = first_shortened (nat_lt b 128) b cs refl p in
    rw e w
  where
    positive : (b : ℕ) → nat_eq b 0 ≡ false → 0 < b
    positive zero e = absurd (cc)
    positive (suc b) e = omega arith

stripped : (r : List ℕ) → without_zero (shorten (0 ∷ r)) ≡ strip r
unfolding shorten
stripped [] = refl
stripped (b ∷ cs) = stripped_step (nat_eq b 0) b cs refl (stripped cs)

strip_length : (r : List ℕ) → length (strip r) ≤ length r
strip_length [] = omega arith
strip_length (b ∷ cs) = step (nat_eq b 0) refl (strip_length cs)
  where
    step : (t : Bool) → nat_eq b 0 ≡ t → length (strip cs) ≤ length cs → length (strip (b ∷ cs)) ≤ length (b ∷ cs)
    step true e ih = rw e (omega arith)
    step false e ih = rw e (omega arith)

strip_back : (r : List ℕ) → replicate (length r - length (strip r)) 0 ++ strip r ≡ r
strip_back [] = refl
strip_back (b ∷ cs) = step (nat_eq b 0) refl (strip_back cs)
  where
    step : (t : Bool) → nat_eq b 0 ≡ t → replicate (length cs - length (strip cs)) 0 ++ strip cs ≡ cs → replicate (length (b ∷ cs) - length (strip (b ∷ cs))) 0 ++ strip (b ∷ cs) ≡ b ∷ cs
    step true e ih =
        let l = strip_length cs in
        let n : length (b ∷ cs) - length (strip cs) ≡ suc (length cs - length (strip cs)) = omega (arith, l) in
        let z : b ≡ 0 = is_0 b e in
        let g : replicate (suc (length cs - length (strip cs))) 0 ++ strip cs ≡ b ∷ cs = rw z (ap (λ (ds : List ℕ). 0 ∷ ds) ih) in
        rw (e, n) g
    step false e ih =
        let n : length (b ∷ cs) - length (b ∷ cs) ≡ 0 = omega arith in
        rw (e, n) refl

pub widen_sound : (n : ℕ) (m r : List ℕ) → widen n m ≡ Some r → (shorten (0 ∷ m) ≡ shorten (0 ∷ r)) × (length r ≡ n)
unfolding widen
widen_sound n m r e =
    let f = unless_some (nat_lt n (length m)) (Some (replicate (n - length m) 0 ++ m)) r e in
    let q : replicate (n - length m) 0 ++ m ≡ r = cc (f.1) in
    let l : length m ≤ n = ltb-false n (length m) f.0 in
    let k : length (replicate (n - length m) 0) ≡ n - length m = length-replicate {A = ℕ} (n - length m) 0 in
    (sym (widened (n - length m) m) ∙ ap (λ (z : List ℕ). shorten (0 ∷ z)) q, ap length (sym q) ∙ (length-append (replicate (n - length m) 0) m ∙ omega (arith, l, k)))

-- the contents of a number of n bytes are read as these
pub wide_complete : (n : ℕ) (r : List ℕ) → length r ≡ n → option_and_then (widen n) (magnitude (shorten (0 ∷ r))) ≡ Some r
unfolding widen magnitude
wide_complete n r h =
    let s : is_shortest (shorten (0 ∷ r)) ≡ true = shorten_is_shortest r 0 (omega arith) in
    let l = strip_length r in
    let b : replicate (n - length (strip r)) 0 ++ strip r ≡ r = subst (λ (m : ℕ). replicate (m - length (strip r)) 0 ++ strip r ≡ r) h (strip_back r) in
    rw (s, stripped r, le-ltb n (length (strip r)) (omega arith), b) refl

pub wide_sound : (n : ℕ) (bs r : List ℕ) → option_and_then (widen n) (magnitude bs) ≡ Some r → (bs ≡ shorten (0 ∷ r)) × (length r ≡ n)
wide_sound n bs r e =
    and_then_some (widen n) (magnitude bs) r e
    (λ m x y. let w = widen_sound n m r y in (magnitude_sound bs m x ∙ w.0, w.1))

-- what is bytes without the zeros in front is bytes with them
pub bytes_shortened : (cs : List ℕ) (b : ℕ) → IsBytes (shorten (b ∷ cs)) → IsBytes (b ∷ cs)
unfolding shorten
bytes_shortened [] b h = h
bytes_shortened (c ∷ cs) b h = step (nat_eq b 0 && nat_lt c 128) refl (bytes_shortened cs c)
  where
    step : (t : Bool) → (nat_eq b 0 && nat_lt c 128) ≡ t → (IsBytes (shorten (c ∷ cs)) → IsBytes (c ∷ cs)) → IsBytes (b ∷ c ∷ cs)
    step true e ih =
        let z : b ≡ 0 = is_0 b (and_left (nat_eq b 0) (nat_lt c 128) e) in
        (omega arith, ih (rw e at h))
    step false e ih = rw e at h

-- ---- shortening step by step

pub without_first : (x y : ℕ) (zs : List ℕ) → x ≡ 0 → y < 128 → shorten (x ∷ y ∷ zs) ≡ shorten (y ∷ zs)
unfolding shorten
without_first x y zs e h = rw (e, lt-ltb y 128 h) refl

pub rest_kept : (xs : List ℕ) → (1 < length xs → slice_index xs 0 ≡ 0 → 128 ≤ slice_index xs 1) → shorten xs ≡ xs
unfolding shorten
rest_kept [] h = refl
rest_kept (x ∷ []) h = refl
rest_kept (x ∷ y ∷ zs) h = step (nat_eq x 0) (nat_lt y 128) refl refl
  where
    step : (s t : Bool) → nat_eq x 0 ≡ s → nat_lt y 128 ≡ t → shorten (x ∷ y ∷ zs) ≡ x ∷ y ∷ zs
    step true true e f = absurd (let l = h (omega arith) (is_0 x e) in let m = ltb-true y 128 f in omega arith)
    step true false e f = rw (e, f) refl
    step false t e f = rw e refl
