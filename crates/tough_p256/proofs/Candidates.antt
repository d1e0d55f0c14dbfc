-- The halves by the first candidate that gives some.
use Rattle.std.proofs.Common.{◌≡◌, ℕ, suc, ◌+◌, ◌-◌, ◌<◌, ◌≤◌, true, false, [], ◌∷◌, Option, Some, None, is_some, refl, arith}
use Rattle.tough_p256.specs.Nonces.{Generator, next, reseeded, candidate}
use Rattle.tough_p256.specs.Signing.{Halves, halves_by, or_else, halves_from}

pub from_none : (k d e : ℕ) (g : Generator) → 16 ≤ k → halves_from (16 - k) d e g ≡ None
unfolding halves_from
from_none k d e g h = let z : 16 - k ≡ 0 = omega arith in rw z refl

from_suc : (n m d e : ℕ) (g : Generator) → n ≡ suc m → halves_from n d e g ≡ or_else (halves_by d e (candidate (next g))) (halves_from m d e (reseeded (next g) (0 ∷ [])))
unfolding halves_from
from_suc n m d e g h = rw h refl

found : (o p : Option Halves) → is_some o ≡ true → or_else o p ≡ o
found (Some h) p e = refl
found None p e = cc

missed : (o p : Option Halves) → is_some o ≡ false → or_else o p ≡ p
missed None p e = refl
missed (Some h) p e = cc

-- the candidate gives some
pub from_found : (k d e : ℕ) (g : Generator) (o : Option Halves) → k < 16 → o ≡ halves_by d e (candidate (next g)) → is_some o ≡ true → halves_from (16 - k) d e g ≡ o
from_found k d e g o l h s = rw (from_suc (16 - k) (16 - (k + 1)) d e g (omega arith), ← h) (found o _ s)

-- it gives none
pub from_next : (k d e : ℕ) (g : Generator) (o : Option Halves) → k < 16 → o ≡ halves_by d e (candidate (next g)) → is_some o ≡ false
    → halves_from (16 - k) d e g ≡ halves_from (16 - (k + 1)) d e (reseeded (next g) (0 ∷ []))
from_next k d e g o l h s = rw (from_suc (16 - k) (16 - (k + 1)) d e g (omega arith), ← h) (missed o _ s)

pub same_halves : (c d e : ℕ) (f g : Generator) → c ≡ d → f ≡ g → halves_from 16 c e f ≡ halves_from 16 d e g
same_halves c d e f g h i = rw (h, i) refl
