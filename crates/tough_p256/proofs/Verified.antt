-- What is handed out verifies.
use Rattle.std.proofs.Common.{◌≡◌, ℕ, List, ◌∷◌, Bool, true, false, if◌then◌else◌, Option, Some, None, IfSome, refl}
use Rattle.tough_p256.specs.Ecdsa.{is_signature}
use Rattle.tough_p256.specs.Signing.{Halves, is_secret, key_at, public_key, if_verifies}

only : (s key : List ℕ) → is_secret s ≡ true → public_key s ≡ Some key → key ≡ key_at s
unfolding public_key
only s key t q = let e : Some (key_at s) ≡ Some key = rw t at q in cc

kept : (s m : List ℕ) (h : Halves) (b : Bool) → is_secret s ≡ true → is_signature (4 ∷ key_at s) m h.0 h.1 ≡ b
    → IfSome (if b then Some h else None) (λ h. (key : List ℕ) → public_key s ≡ Some key → is_signature (4 ∷ key) m h.0 h.1 ≡ true)
kept s m h true t e = λ key q. rw (only s key t q) e
kept s m h false t e = tt

pub verified : (s k m : List ℕ) (o r : Option Halves) → is_secret s ≡ true → k ≡ key_at s → r ≡ if_verifies k m o
    → IfSome r (λ h. (key : List ℕ) → public_key s ≡ Some key → is_signature (4 ∷ key) m h.0 h.1 ≡ true)
verified s k m None r t e f = rw f tt
verified s k m (Some h) r t e f = rw (f, e) (kept s m h _ t refl)
